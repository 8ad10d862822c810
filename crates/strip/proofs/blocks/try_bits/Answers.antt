-- Where no mark's highest bit is set, each place holds what it is given.
use Rattle.std.proofs.Common.{sym, ◌∙◌, ◌^◌}
use borrow.Author.Tests.{ltb-true}
use Rattle.strip.proofs.Marks.{or_left, or_right}
use Rattle.strip.proofs.InReach.{bits_answered}
use Rattle.strip.proofs.Filled.{agree}
use Rattle.strip.proofs.Sofar.{none_filled, next_filled, filled}
use Rattle.strip.proofs.blocks.try_bits.Goals as goal

pub loop-i-init : goal.loop-i-init
loop-i-init g c h = none_filled _ (agree c.args.s.now)

pub loop-i-preserved : goal.loop-i-preserved
loop-i-preserved g c h =
    let q = bits_answered g.row.OP _ _ c.bits.ensures.1 c.requires (c.mark-marks.ensures (or_right c.loop-i.marks c.mark-marks.result (2 ^ 31) h)) in
    next_filled _ (agree c.args.s.now) _ (c.loop-i.invariant (or_left c.loop-i.marks c.mark-marks.result (2 ^ 31) h)) _ _ c.loop-i-test.true (c.bits.ensures.0 ∙ sym q.word) (sym q.number)

pub returns-clause-filled : goal.returns-clause-filled
returns-clause-filled g c h = filled _ (agree c.args.s.now) _ (c.loop-i.invariant (ltb-true _ _ h)) c.loop-i-test.false
