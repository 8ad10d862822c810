-- What is known of the operand of an operation that is not refused. Assumes nothing.
use Prim.Native.Nat.{ℕ}
use mathlib.Core.Path.{◌≡◌}
use mathlib.Core.Bool.{true, false, ◌&&◌}
use borrow.Author.Tests.{not-false}
use lib.Ieee.{binary64}
use Rattle.format.specs.Classes.{is_endless, is_zero, is_small, is_below_zero}
use Rattle.format.proofs.First.{none_holds}
use Rattle.double.specs.Refusals.{gate_of, passes, refuses_zero, refuses_small, refuses_sign, refusals, refusal_behind, refusal_of}

pub record Open (op a : ℕ) : Type 0 where
  pub first : is_endless binary64 a ≡ false
  pub zero : (refuses_zero op && is_zero binary64 a) ≡ false
  pub small : (refuses_small op && is_small binary64 a) ≡ false
  pub sign : (refuses_sign op && is_below_zero binary64 a) ≡ false
  pub gate : passes (gate_of op) a ≡ true

pub opened : (op a : ℕ) → refusal_of op a ≡ 0 → Open op a
unfolding refusal_behind
opened op a e =
    let n = none_holds op a 0 (refusals (gate_of op)) tt e in
    record { first = n.0; zero = n.1.0; small = n.1.1.0; sign = n.1.1.1.0; gate = not-false _ n.1.1.1.1.0 }
