-- The quotient of two words is what IEEE 754 says of it, by the definition over whole numbers, and there is one such word. Assumes nothing.
use Prim.Native.Nat.{ℕ, ◌*◌, ◌^◌, ◌<◌, zero-le}
use native.Mathlib.Nat.{eq-or-lt_of_le}
use mathlib.Core.Path.{◌≡◌, refl, sym, ap, subst, ◌∙◌}
use mathlib.Core.Logic.{◌⊎◌, inl, inr}
use mathlib.Core.Bool.{Bool, true, false, cond}
use borrow.Author.Tests.{eq-eqb}
use lib.Dec.{eqb}
use lib.Pow.{pow_pos}
use lib.Ieee.{Format, Float, nan, inf, fin, low, unlike, div, of_bits, to_bits}
use lib.IntN.{pos}
use Rattle.format.specs.Fields.{negative, magnitude}
use Rattle.format.specs.Value.{units, Finite}
use Rattle.format.proofs.Nan.{nan_read, nan_written}
use Rattle.format.proofs.Value.{word_value}
use Rattle.soft.specs.Rounding.{Rounded}
use Rattle.soft.specs.Operations.{Zero, Divides}
use Rattle.soft.specs.Words.{div_word}
use Rattle.soft.specs.Digits.{nearest_word}
use Rattle.soft.proofs.Classes.{not_zero, operated, inf_is, zero_units, zero_finite, units_pos, inf_written, zero_written, class_of, Class, a_nan, an_inf, a_number}
use Rattle.soft.proofs.Correct.{round_word_rounded, rounded_one}
use Rattle.soft.proofs.Values.{div_nan_first, div_nan_second, div_inf_inf, div_inf_first, div_inf_second, div_by_zero, div_values}

module _ (f : Format) (a b : ℕ) where
  abbrev s : Bool
  s = unlike (negative f a) (negative f b)

  at : (x y z : Float) → of_bits f a ≡ x → of_bits f b ≡ y → div f x y ≡ z → div_word f a b ≡ to_bits f z
  unfolding div_word
  at x y z p q e = operated f (div f) a b x y z p q e

  pub div_finite : Finite f a → Finite f b → 0 < magnitude f b → div_word f a b ≡ nearest_word f s (units f a * 2 ^ low f) (units f b)
  unfolding div_word nearest_word
  div_finite h k p =
      ap (to_bits f) (div_values f (of_bits f a) (of_bits f b) (negative f a) (negative f b) (units f a) (2 ^ low f) (units f b) (2 ^ low f) (pow_pos (low f)) (pow_pos (low f)) (units_pos f b p) (word_value f a h) (word_value f b k))

  by_zero : Finite f a → Zero f b → (x : Bool) → eqb (units f a) 0 ≡ x → div_word f a b ≡ to_bits f (cond x nan (inf s))
  by_zero h z x e =
      at (of_bits f a) (of_bits f b) (cond x nan (inf s)) refl refl
      (div_by_zero f (of_bits f a) (of_bits f b) (negative f a) (negative f b) (units f a) (2 ^ low f) (units f b) (2 ^ low f) (pow_pos (low f)) (pow_pos (low f)) (word_value f a h) (word_value f b (zero_finite f b z)) (zero_units f b z)
      ∙ ap (λ (z : Bool). cond z nan (inf s)) e)

  pub div_divides : Divides f a b (div_word f a b)
  div_divides = record {
    nan_first = λ h. at nan (of_bits f b) nan (nan_read f a h) refl (div_nan_first f (of_bits f b)) ∙ nan_written f;
    nan_second = λ h. at (of_bits f a) nan nan refl (nan_read f b h) (div_nan_second f (of_bits f a)) ∙ nan_written f;
    infinite_infinite = λ h k. at (inf (negative f a)) (inf (negative f b)) nan (inf_is f a h) (inf_is f b k) (div_inf_inf f (negative f a) (negative f b)) ∙ nan_written f;
    infinite_finite = λ h k. at (inf (negative f a)) (of_bits f b) (inf s) (inf_is f a h) refl (div_inf_first f (negative f a) (negative f b) (of_bits f b) (units f b) (2 ^ low f) (word_value f b k)) ∙ inf_written f s;
    finite_infinite = λ h k. at (of_bits f a) (inf (negative f b)) (fin s 0 (pos 0)) refl (inf_is f b k) (div_inf_second f (negative f a) (negative f b) (of_bits f a) (units f a) (2 ^ low f) (word_value f a h)) ∙ zero_written f s;
    zero_zero = λ h k. by_zero (zero_finite f a h) k true (eq-eqb (units f a) 0 (zero_units f a h)) ∙ nan_written f;
    by_zero = λ h p k. by_zero h k false (not_zero f a p) ∙ inf_written f s;
    finite = λ h k p. subst (Rounded f s (units f a * 2 ^ low f) (units f b)) (sym (div_finite h k p)) (round_word_rounded f s (units f a * 2 ^ low f) (units f b) (units_pos f b p));
  }

  -- the definition allows one word: that one
  pub divides_one : (r : ℕ) → Divides f a b r → r ≡ div_word f a b
  divides_one r m = go (class_of f a) (class_of f b)
    where
      o : Divides f a b (div_word f a b)
      o = div_divides

      over_zero : Finite f a → Zero f b → (0 ≡ magnitude f a) ⊎ (0 < magnitude f a) → r ≡ div_word f a b
      over_zero c z (inl e) = m.zero_zero (sym e) z ∙ sym (o.zero_zero (sym e) z)
      over_zero c z (inr p) = m.by_zero c p z ∙ sym (o.by_zero c p z)

      go : Class f a → Class f b → r ≡ div_word f a b
      go (a_nan n) y = m.nan_first n ∙ sym (o.nan_first n)
      go (an_inf i) (a_nan n) = m.nan_second n ∙ sym (o.nan_second n)
      go (a_number c) (a_nan n) = m.nan_second n ∙ sym (o.nan_second n)
      go (an_inf i) (an_inf j) = m.infinite_infinite i j ∙ sym (o.infinite_infinite i j)
      go (an_inf i) (a_number d) = m.infinite_finite i d ∙ sym (o.infinite_finite i d)
      go (a_number c) (an_inf j) = m.finite_infinite c j ∙ sym (o.finite_infinite c j)
      go (a_number c) (a_number d) = elim (eq-or-lt_of_le (zero-le {n = magnitude f b})) [
        | inl z ↦ over_zero c (sym z) (eq-or-lt_of_le (zero-le {n = magnitude f a}))
        | inr p ↦ rounded_one f s (units f a * 2 ^ low f) (units f b) r (div_word f a b) (units_pos f b p) (m.finite c d p) (o.finite c d p)
      ]
