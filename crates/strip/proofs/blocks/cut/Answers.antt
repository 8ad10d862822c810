-- The blocks and what is left behind them are the strip.
use Rattle.std.proofs.Common.{◌≡◌, ◌≤◌, ◌+◌, ◌*◌, ◌-◌, ◌%◌, length, arith, subst, le_refl}
use Rattle.strip.proofs.Sofar.{Sofar, none_filled, filled}
use Rattle.strip.proofs.InBlocks.{next_block}
use Rattle.strip.proofs.blocks.cut.Goals as goal

pub loop-n-init : goal.loop-n-init
loop-n-init g c = none_filled _ c.requires.0

pub loop-n-preserved : goal.loop-n-preserved
loop-n-preserved g c =
    let i = c.loop-n.n * 32 in
    let e : i + 32 ≡ (c.loop-n.n + 1) * 32 = omega arith in
    let s = next_block _ c.requires.0 i (i + 32) c.loop-n.invariant (let z : i ≤ i + 32 = omega arith in z) (omega (arith, c.loop-n-test.true)) c.part.ensures in
    subst (Sofar _ _ _ _ _ _ _) e s

pub returns : goal.returns
returns g c =
    let n = length c.args.first.now in
    let e : c.loop-n.n * 32 ≡ n - n % 32 = omega (arith, c.loop-n-test.false, c.loop-n.auto.n-end) in
    let s = subst (Sofar g.row.OP c.args.first.now c.args.second.now c.args.answers.now c.args.refusals.now c.loop-n.answers c.loop-n.refusals) e c.loop-n.invariant in
    filled _ c.requires.0 n (next_block _ c.requires.0 (n - n % 32) n s (omega arith) (le_refl n) c.part-2.ensures) (le_refl n)
