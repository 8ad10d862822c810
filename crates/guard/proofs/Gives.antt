-- What the answer of a guarded call is as words: a refusal's number with the zero word, or a word that is no NaN. Assumes nothing.
use Prim.Native.Nat.{ℕ, ◌^◌, ◌<◌}
use mathlib.Core.Path.{◌≡◌, refl, sym, ap, subst, ◌∙◌}
use mathlib.Core.Bool.{false, cond}
use borrow.Author.Tests.{ne_eqb}
use lib.Dec.{eqb}
use lib.Ieee.{binary32, nan_bits}
use Rattle.std.specs.Prelude.{Ok, Err}
use Rattle.format.proofs.Nan.{kept_word}
use Rattle.refusals.specs.declared.Refusal.{Refusal}
use Rattle.refusals.specs.Numbers.{number_of}
use Rattle.refusals.specs.Given.{Answered}
use Rattle.refusals.proofs.Given.{not_0, refusal_is_given, given_none}
use Rattle.guard.specs.Guarded.{Answer, word_of, products_in, value_after, given_after, GivesAfter}

-- ---- the two ways out of a guarded call

pub refused : {p : ℕ} (n w : ℕ) (r : Refusal) → number_of r ≡ n → GivesAfter p n w (Err r)
refused n w r e =
    let z = ne_eqb n 0 (λ h. not_0 r (e ∙ h)) in
    record { answer = refusal_is_given n _ r e; refusal = e; word = rw z; count = rw z }

pub numbered : {p : ℕ} (n w : ℕ) → w < 2 ^ 32 → n ≡ 0 → nan_bits binary32 w ≡ false → GivesAfter p n w (Ok (value_after p w))
numbered n w h e k = rw e (record { answer = refl; refusal = refl; word = kept_word binary32 w h k; count = refl })

-- ---- an answer is given exactly where there is no refusal

module _ {p n w : ℕ} {r : Answer} (g : GivesAfter p n w r) where
  pub answered_none : Answered r → n ≡ 0
  answered_none h = given_none n (value_after p w) (subst Answered g.answer h)

  pub none_answered : n ≡ 0 → Answered r
  none_answered e = subst Answered (sym (g.answer ∙ ap (λ (m : ℕ). given_after p m w) e)) tt

  pub answered_word : Answered r → word_of r ≡ w
  answered_word h = g.word ∙ ap (λ (m : ℕ). cond (eqb m 0) w 0) (answered_none h)

  pub answered_count : Answered r → products_in r ≡ p
  answered_count h = g.count ∙ ap (λ (m : ℕ). cond (eqb m 0) p 0) (answered_none h)
