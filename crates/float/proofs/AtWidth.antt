-- What trunc and fract of F32 promise in the words of their gates: the bound of their meaning, 2 ^ 32 at this width, is `Under32`.
-- Assumes nothing.
use contract.Lifetimes.{Lfts}
use lib.Ieee.{binary32}
use Rattle.format.specs.Meaning.{Under32, IsTrunc, IsFract}
use Rattle.float.proofs.F32Number.trunc.Reads as trunc
use Rattle.float.proofs.F32Number.fract.Reads as fract

-- whatever a statement allows for an argument is what is said of the two
abbrev pub Promises : {A R X : Type 0} → (A → R → X → Type 0) → (A → R → Type 0) → Type 0
Promises {A} {R} {X} post said = (a : A) (r : R) (x : X) → post a r x → said a r

module _ (κs : Lfts 0) where
  pub trunc_under_32 : Promises (trunc.Post κs) (λ a r. Under32 a.0.0 → IsTrunc binary32 a.0.0 r.0)
  trunc_under_32 a r x p = p.1

  pub fract_under_32 : Promises (fract.Post κs) (λ a r. Under32 a.0.0 → IsFract binary32 a.0.0 r.0)
  fract_under_32 a r x p = p.1
