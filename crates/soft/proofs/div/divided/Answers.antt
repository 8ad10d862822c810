-- There is room for the digits that a turn finds, and four turns are 32.
use Rattle.std.proofs.Common.{arith}
use Rattle.soft.proofs.Long.{turned, room}
use Rattle.soft.proofs.div.divided.Goals as goal

pub overflow_mul-whole : goal.overflow_mul-whole
overflow_mul-whole c = let r = room _ _ _ _ _ c.loop-turn.invariant c.loop-turn-test.true c.requires.some c.ranges.n.fits in record { fits = omega (arith, r) }

pub overflow_add-whole : goal.overflow_add-whole
overflow_add-whole c = record { fits = room _ _ _ _ _ c.loop-turn.invariant c.loop-turn-test.true c.requires.some c.ranges.n.fits }

pub loop-turn-preserved : goal.loop-turn-preserved
loop-turn-preserved c = turned _ _ _ _ _ c.loop-turn.invariant c.loop-turn-test.true c.requires.some
