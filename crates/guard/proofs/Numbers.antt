-- What a test says of 0 and of each number in the list of refusals, it says of the number that is given: one computed test for any claim on
-- which numbers an operation can be refused with. Assumes nothing.
use Prim.Native.Nat.{ℕ}
use mathlib.Core.Bool.{Bool, true, false, cond, ◌&&◌}
use mathlib.Core.List.{List, [], ◌∷◌}
use lib.Dec.{T}
use lib.Ieee.Fits.{and_l, and_r}
use Rattle.format.specs.First.{Refusal, holds, first_of}
use Rattle.guard.specs.Gates.{gate_of}
use Rattle.guard.specs.Refusals.{refusals, refusal_behind, refusal_of}

module _ (test : ℕ → Bool) (zero_passes : T (test 0)) where
  abbrev pub all_pass : List Refusal → Bool
  all_pass [] = true
  all_pass (r ∷ rs) = test r.number && all_pass rs

  first_passes : (op a b : ℕ) (rs : List Refusal) → T (all_pass rs) → T (test (first_of rs op a b))
  first_passes op a b [] h = zero_passes
  first_passes op a b (r ∷ rs) h = go (holds r op a b) (first_passes op a b rs (and_r (test r.number) (all_pass rs) h))
    where
      go : (t : Bool) → T (test (first_of rs op a b)) → T (test (cond t r.number (first_of rs op a b)))
      go true k = and_l (test r.number) (all_pass rs) h
      go false k = k

  pub given_passes : (op a b : ℕ) → T (all_pass (refusals (gate_of op))) → T (test (refusal_of op a b))
  unfolding refusal_behind
  given_passes op a b h = first_passes op a b (refusals (gate_of op)) h
