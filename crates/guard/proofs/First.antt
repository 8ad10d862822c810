-- The refusal of a call is the first of the list that holds, and it is 0 exactly where none does: the laws of any list, at an operation's own.
-- Assumes nothing.
use Prim.Native.Nat.{ℕ}
use mathlib.Core.Path.{◌≡◌}
use mathlib.Core.Bool.{true}
use mathlib.Core.List.{List, ◌∷◌, ◌++◌}
use Rattle.format.specs.First.{Refusal, holds}
use Rattle.format.proofs.First.{NoneHolds}
use Rattle.format.proofs.First as any
use Rattle.guard.specs.Gates.{gate_of}
use Rattle.guard.specs.Refusals.{refusals, refusal_behind, refusal_of}

module _ (op a b : ℕ) where
  -- one that holds after none that does is the one given
  pub first_given : (before : List Refusal) (r : Refusal) (after : List Refusal) → refusals (gate_of op) ≡ before ++ (r ∷ after) → NoneHolds before op a b → holds r op a b ≡ true
      → refusal_of op a b ≡ r.number
  unfolding refusal_behind
  first_given = any.first_given op a b (refusals (gate_of op))

  -- where none holds, none is given
  pub none_given : NoneHolds (refusals (gate_of op)) op a b → refusal_of op a b ≡ 0
  unfolding refusal_behind
  none_given = any.none_given op a b (refusals (gate_of op))

  -- and the other way round, since no refusal's number is 0
  pub none_holds : refusal_of op a b ≡ 0 → NoneHolds (refusals (gate_of op)) op a b
  unfolding refusal_behind
  none_holds = any.none_holds op a b (refusals (gate_of op)) tt
