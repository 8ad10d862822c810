-- Each arm is one case of which word is judged.
use borrow.Author.Tests.{ne_eqb}
use Prim.Native.Nat.{ℕ}
use mathlib.Core.Path.{◌≡◌, sym, ◌∙◌}
use mathlib.Core.Logic.{inl, inr}
use mathlib.Core.List.{[], ◌∷◌}
use lib.Ieee.{binary32}
use types.Run.{OneOf}
use Rattle.format.specs.Fields.{magnitude}
use Rattle.guard.specs.Gates.{judged, larger}
use Rattle.format.proofs.Lists.{none_listed}
use Rattle.guard.proofs.gate.judged.Goals as goal

two : (op a b : ℕ) → OneOf (18 ∷ 21 ∷ []) op → judged op a b ≡ larger a b
unfolding judged
two op a b (inl e) = rw e
two op a b (inr e) = rw e

one : (op a b : ℕ) → (op ≡ 13 → ⊥) → (op ≡ 16 → ⊥) → (OneOf (18 ∷ 21 ∷ []) op → ⊥) → (op ≡ 24 → ⊥) → (op ≡ 25 → ⊥) → (op ≡ 26 → ⊥) → judged op a b ≡ magnitude binary32 a
unfolding judged
one op a b x y z t p q = rw (ne_eqb op 13 x, ne_eqb op 16 y, none_listed (18 ∷ 21 ∷ []) op z, ne_eqb op 24 t, ne_eqb op 25 p, ne_eqb op 26 q)

pub returns-in-13 : goal.returns-in-13
unfolding judged
returns-in-13 c = rw c.in-13.is

pub returns-in-16 : goal.returns-in-16
unfolding judged
returns-in-16 c = rw (c.in-16.is, c.of.ensures, c.value.ensures, c.value-in-16.ensures, c.ln.ensures.steps)

pub returns-in-18 : goal.returns-in-18
returns-in-18 c = c.larger.ensures ∙ sym (two _ _ _ c.in-18.is)

pub returns-in-24 : goal.returns-in-24
unfolding judged
returns-in-24 c = rw (c.in-24.is, c.unless_zero.ensures, c.of_word.ensures)

pub returns-in-25 : goal.returns-in-25
unfolding judged
returns-in-25 c = rw c.in-25.is c.quotient.ensures

pub returns-in-26 : goal.returns-in-26
unfolding judged
returns-in-26 c = rw c.in-26.is c.quotient-in-26.ensures

pub returns-in_default : goal.returns-in_default
returns-in_default c =
    let rest = c.in_default.in_default-own.rest in
    c.abs.ensures.steps ∙ sym (one _ _ _ rest.0.0.0.0.0.1 rest.0.0.0.0.1 rest.0.0.0.1 rest.0.0.1 rest.0.1 rest.1)
