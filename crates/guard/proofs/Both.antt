-- trunc and fract together: the refusal that they share, or two words that are no NaN and have their meanings. Assumes nothing.
use Prim.Native.Nat.{ℕ, ◌^◌, ◌<◌}
use mathlib.Core.Path.{◌≡◌, refl, sym, ap, subst, ◌∙◌}
use mathlib.Core.Bool.{false}
use borrow.Author.Tests.{ne_eqb}
use lib.Ieee.{binary32, of_bits, to_bits, nan_bits}
use Rattle.format.specs.Parts.{trunc_word, fract_word}
use Rattle.format.specs.Meaning.{Under32, IsTrunc, IsFract}
use Rattle.format.proofs.Nan.{kept_word}
use Rattle.format.proofs.PartsMeaning.{trunc_under, fract_under}
use Rattle.sizes.proofs.Bitwise.{trunc_number, fract_number}
use Rattle.std.specs.Prelude.{Result, Ok}
use Rattle.refusals.specs.declared.Refusal.{Refusal}
use Rattle.refusals.specs.Given.{Answered, given}
use Rattle.refusals.proofs.Given.{given_none}
use Rattle.guard.specs.declared.WholeAndRest.{WholeAndRest}
use Rattle.guard.specs.Operations.{op_trunc}
use Rattle.guard.specs.Gates.{judged}
use Rattle.guard.specs.Refusals.{refusal_of}
use Rattle.guard.specs.Guarded.{whole_of, rest_of, GivesParts}
use Rattle.guard.proofs.Open.{opened}
use Rattle.guard.proofs.NoNan.{under32}

-- the whole contract
abbrev pub Both : ℕ → Result WholeAndRest Refusal → Type 0
Both w r = GivesParts w r × ((Answered r → IsTrunc binary32 w (whole_of r)) × (Answered r → IsFract binary32 w (rest_of r)))

module _ (w : ℕ) (w_lt : w < 2 ^ 32) (none : refusal_of op_trunc w 0 ≡ 0) where
  inside : Under32 w
  unfolding judged
  inside = under32 w (opened op_trunc w 0 none).gate

  whole : (t : ℕ) → t < 2 ^ 32 → t ≡ trunc_word binary32 w → to_bits binary32 (of_bits binary32 t) ≡ trunc_word binary32 w
  whole t h e = kept_word binary32 t h (rw e (trunc_number w w_lt inside)) ∙ e

  rest : (t : ℕ) → t < 2 ^ 32 → t ≡ fract_word binary32 w → to_bits binary32 (of_bits binary32 t) ≡ fract_word binary32 w
  rest t h e = kept_word binary32 t h (rw e (fract_number w inside)) ∙ e

  pub both_answered : (t s : ℕ) → t < 2 ^ 32 → s < 2 ^ 32 → t ≡ trunc_word binary32 w → s ≡ fract_word binary32 w → Both w (Ok (record { whole = of_bits binary32 t; rest = of_bits binary32 s; products = 0 }))
  both_answered t s h k e d = (
    record { answer = rw (none, e, d); refusal = sym none; word = rw none (whole t h e); second = rw none (rest s k d); count = refl },
    ((λ z. rw (whole t h e) (trunc_under binary32 w w_lt inside)), (λ z. rw (rest s k d) (fract_under binary32 w inside))),
  )

-- ---- as of every guarded call: the words of a refusal are zero, and an answered part is no NaN

module _ (w : ℕ) (r : Result WholeAndRest Refusal) (g : GivesParts w r) where
  abbrev both : WholeAndRest
  both = record { whole = of_bits binary32 (trunc_word binary32 w); rest = of_bits binary32 (fract_word binary32 w); products = 0 }

  no_refusal : Answered r → refusal_of op_trunc w 0 ≡ 0
  no_refusal h = given_none (refusal_of op_trunc w 0) both (subst Answered g.answer h)

  answered_parts : refusal_of op_trunc w 0 ≡ 0 → Answered r
  answered_parts e = subst Answered (sym (g.answer ∙ ap (λ (n : ℕ). given n both) e)) tt

  pub refused_parts_are_zero : (Answered r → ⊥) → (whole_of r ≡ 0) × (rest_of r ≡ 0)
  refused_parts_are_zero h =
      let n = ne_eqb (refusal_of op_trunc w 0) 0 (λ e. h (answered_parts e)) in
      (g.word ∙ rw n, g.second ∙ rw n)

  pub parts_are_no_nan : w < 2 ^ 32 → Answered r → (nan_bits binary32 (whole_of r) ≡ false) × (nan_bits binary32 (rest_of r) ≡ false)
  parts_are_no_nan k h =
      let e = no_refusal h in
      let u = inside w k e in (
        ap (nan_bits binary32) (g.word ∙ rw e) ∙ trunc_number w k u,
        ap (nan_bits binary32) (g.second ∙ rw e) ∙ fract_number w u,
      )
