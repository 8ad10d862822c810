use Rattle.std.proofs.Common.{arith}
use Rattle.recipe.proofs.Depths.{raised_le, deeper_again, deeper_ends}
use Rattle.recipe.proofs.nesting.depth.Goals as goal

pub loop-b-preserved : goal.loop-b-preserved
loop-b-preserved c =
    let i = c.loop-b.invariant in
    (omega (arith, raised_le), omega (arith, raised_le), deeper_again _ _ _ _ _ _ _ _ i.2 c.loop-b-test.true c.raised-opens.ensures c.raised-closes.ensures c.deeper-deepest.ensures)

pub returns : goal.returns
returns c = deeper_ends _ _ _ _ _ c.loop-b.invariant.2 c.loop-b-test.false
