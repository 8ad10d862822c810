-- What the answer of a guarded call is: a refusal's number with the zero word, or a word that is no NaN. Assumes nothing.
use Prim.Native.Nat.{ℕ, ◌^◌, ◌<◌}
use mathlib.Core.Path.{◌≡◌, refl, sym, ap, subst, ◌∙◌}
use mathlib.Core.Bool.{false, cond}
use borrow.Author.Tests.{ne_eqb}
use lib.Dec.{eqb}
use lib.Ieee.{binary64, nan_bits, of_bits}
use Rattle.std.specs.Prelude.{Float, Result, Ok, Err}
use Rattle.format.proofs.Nan.{kept_word}
use Rattle.refusals.specs.declared.Refusal.{Refusal}
use Rattle.refusals.specs.Numbers.{number_of}
use Rattle.refusals.specs.Given.{Answered, given}
use Rattle.refusals.proofs.Given.{not_0, refusal_is_given, given_none}
use Rattle.double.specs.Guarded.{word_in, Gives}

-- ---- the two ways out of a guarded call

pub refused : (n w : ℕ) (r : Refusal) → number_of r ≡ n → Gives n w (Err r)
refused n w r e = record { answer = refusal_is_given n _ r e; refusal = e; word = rw (ne_eqb n 0 (λ h. not_0 r (e ∙ h))) }

pub numbered : (n w : ℕ) → w < 2 ^ 64 → n ≡ 0 → nan_bits binary64 w ≡ false → Gives n w (Ok (of_bits binary64 w))
numbered n w h e k = rw e (record { answer = refl; refusal = refl; word = kept_word binary64 w h k })

-- ---- an answer is given exactly where there is no refusal

module _ {n w : ℕ} {r : Result Float Refusal} (g : Gives n w r) where
  pub answered_none : Answered r → n ≡ 0
  answered_none h = given_none n (of_bits binary64 w) (subst Answered g.answer h)

  pub none_answered : n ≡ 0 → Answered r
  none_answered e = subst Answered (sym (g.answer ∙ ap (λ (m : ℕ). given m (of_bits binary64 w)) e)) tt

  pub answered_word : Answered r → word_in r ≡ w
  answered_word h = g.word ∙ ap (λ (m : ℕ). cond (eqb m 0) w 0) (answered_none h)
