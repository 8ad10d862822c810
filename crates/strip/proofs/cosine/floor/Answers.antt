-- Each arm is what the law of `Near` says at the test that leads to it.
use Rattle.strip.proofs.Near.{near_floor}
use Rattle.strip.proofs.cosine.floor.Goals as goal

pub returns-then-x-near : goal.returns-then-x-near
returns-then-x-near c = rw c.if-x-near.true at (near_floor c.args.x c.requires.0 c.requires.1)

pub returns-else-x-near : goal.returns-else-x-near
returns-else-x-near c = rw c.if-x-near.false at (near_floor c.args.x c.requires.0 c.requires.1)
