-- `guard::inv` meets its contract: a word that is not refused is no NaN, so that the number of its bits is its number. Assumes nothing.
use Rattle.std.proofs.Common.{rules, ◌≡◌, false, sym}
use Rattle.std.specs.Float.{binary32}
use Rattle.std.specs.Float.Ieee.{nan_bits}
use Rattle.guard.specs.Operations.{op_inv}
use Rattle.guard.proofs.NoNan.{no_nan}
use Rattle.guard.proofs.Guards.{own_gate, answers}
use Rattle.guard.proofs.Meaning.{inv_bounded, inv_turns}
use Rattle.guard.proofs.inv.Goals as goal

pub returns-in_err-first-clause-sign : goal.returns-in_err-first-clause-sign
returns-in_err-first-clause-sign c = inv_turns c.args.x.0 _ (search rules) (search rules)

pub float_from_bits-result : goal.float_from_bits-result
float_from_bits-result c =
    let none = sym (own_gate op_inv c.args.x.0 0 _ _ c.in_ok-first.ensures c.of.ensures) in
    let number : nan_bits binary32 c.inv.result.0 ≡ false = rw c.inv.ensures.steps (no_nan op_inv c.args.x.0 0 (search rules) (search rules) none) in
    rw number tt

pub returns-clause-gate : goal.returns-clause-gate
returns-clause-gate c = answers op_inv c.args.x.0 0 _ c.of.ensures _ (search rules) (search rules) (search rules) c.inv.ensures.steps c.in_ok-first.ensures

pub returns-clause-bound : goal.returns-clause-bound
returns-clause-bound c = inv_bounded c.args.x.0 0 _ (search rules) (returns-clause-gate c)

pub returns-clause-sign : goal.returns-clause-sign
returns-clause-sign c = inv_turns c.args.x.0 _ (search rules) (returns-clause-gate c)
