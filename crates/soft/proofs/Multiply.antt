-- The product of two words is what IEEE 754 says of it, by the definition over whole numbers, and there is one such word. Assumes nothing.
use Prim.Native.Nat.{ℕ, ◌*◌, ◌^◌, zero-le}
use native.Mathlib.Nat.{eq-or-lt_of_le}
use mathlib.Core.Path.{◌≡◌, refl, sym, ap, subst, ◌∙◌}
use mathlib.Core.Logic.{inl, inr}
use mathlib.Core.Bool.{Bool, true, false, cond, true≢false}
use borrow.Author.Tests.{eq-eqb}
use lib.Dec.{eqb}
use lib.Pow.{pow_pos}
use lib.Ieee.{Format, Float, nan, inf, low, unlike, mul, of_bits, to_bits}
use Rattle.format.specs.Fields.{negative, magnitude}
use Rattle.format.specs.Value.{units, Finite}
use Rattle.format.proofs.Nan.{nan_read, nan_written, finite_number}
use Rattle.format.proofs.Value.{word_value}
use Rattle.soft.specs.Rounding.{infinity, Rounded}
use Rattle.soft.specs.Operations.{Infinite, NonZero, Multiplies}
use Rattle.soft.specs.Words.{mul_word}
use Rattle.soft.specs.Digits.{nearest_word}
use Rattle.soft.proofs.Classes.{not_zero, operated, inf_is, zero_units, zero_finite, inf_written, inf_nonzero, class_of, Class, a_nan, an_inf, a_number}
use Rattle.soft.proofs.Correct.{round_word_rounded, rounded_one}
use Rattle.soft.proofs.Rounded.{product_of_words}
use Rattle.soft.proofs.Values.{mul_nan_first, mul_nan_second, mul_inf_first, mul_inf_second, mul_inf_inf}

module _ (f : Format) (a b : ℕ) where
  abbrev s : Bool
  s = unlike (negative f a) (negative f b)

  at : (x y z : Float) → of_bits f a ≡ x → of_bits f b ≡ y → mul f x y ≡ z → mul_word f a b ≡ to_bits f z
  unfolding mul_word
  at x y z p q e = operated f (mul f) a b x y z p q e

  pub mul_finite : Finite f a → Finite f b → mul_word f a b ≡ nearest_word f s (units f a * units f b) (2 ^ low f)
  unfolding mul_word nearest_word
  mul_finite h k = ap (to_bits f) (product_of_words f a b h k)

  zero_first : Infinite f a → (x : Bool) → eqb (units f b) 0 ≡ x → Finite f b → mul_word f a b ≡ to_bits f (cond x nan (inf s))
  zero_first h x e k = at (inf (negative f a)) (of_bits f b) (cond x nan (inf s)) (inf_is f a h) refl (mul_inf_first f (negative f a) (negative f b) (of_bits f b) (units f b) (2 ^ low f) (pow_pos (low f)) (word_value f b k) ∙ ap (λ (z : Bool). cond z nan (inf s)) e)

  zero_second : Infinite f b → (x : Bool) → eqb (units f a) 0 ≡ x → Finite f a → mul_word f a b ≡ to_bits f (cond x nan (inf s))
  zero_second h x e k = at (of_bits f a) (inf (negative f b)) (cond x nan (inf s)) refl (inf_is f b h) (mul_inf_second f (negative f a) (negative f b) (of_bits f a) (units f a) (2 ^ low f) (pow_pos (low f)) (word_value f a k) ∙ ap (λ (z : Bool). cond z nan (inf s)) e)

  both : Infinite f a → Infinite f b → mul_word f a b ≡ infinity f s
  both h k = at (inf (negative f a)) (inf (negative f b)) (inf s) (inf_is f a h) (inf_is f b k) (mul_inf_inf f (negative f a) (negative f b)) ∙ inf_written f s

  first : Infinite f a → NonZero f b → Class f b → mul_word f a b ≡ infinity f s
  first h k (a_nan n) = absurd (true≢false (sym n ∙ k.1))
  first h k (an_inf i) = both h i
  first h k (a_number d) = zero_first h false (not_zero f b k.0) d ∙ inf_written f s

  second : NonZero f a → Infinite f b → Class f a → mul_word f a b ≡ infinity f s
  second h k (a_nan n) = absurd (true≢false (sym n ∙ h.1))
  second h k (an_inf i) = both i k
  second h k (a_number d) = zero_second k false (not_zero f a h.0) d ∙ inf_written f s

  pub mul_multiplies : Multiplies f a b (mul_word f a b)
  mul_multiplies = record {
    nan_first = λ h. at nan (of_bits f b) nan (nan_read f a h) refl (mul_nan_first f (of_bits f b)) ∙ nan_written f;
    nan_second = λ h. at (of_bits f a) nan nan refl (nan_read f b h) (mul_nan_second f (of_bits f a)) ∙ nan_written f;
    infinite_zero = λ h z. zero_first h true (eq-eqb (units f b) 0 (zero_units f b z)) (zero_finite f b z) ∙ nan_written f;
    zero_infinite = λ z h. zero_second h true (eq-eqb (units f a) 0 (zero_units f a z)) (zero_finite f a z) ∙ nan_written f;
    infinite_first = λ h k. first h k (class_of f b);
    infinite_second = λ h k. second h k (class_of f a);
    finite = λ h k. subst (Rounded f s (units f a * units f b) (2 ^ low f)) (sym (mul_finite h k)) (round_word_rounded f s (units f a * units f b) (2 ^ low f) (pow_pos (low f)));
  }

  -- the definition allows one word: that one
  pub multiplies_one : (r : ℕ) → Multiplies f a b r → r ≡ mul_word f a b
  multiplies_one r m = go (class_of f a) (class_of f b)
    where
      o : Multiplies f a b (mul_word f a b)
      o = mul_multiplies

      go : Class f a → Class f b → r ≡ mul_word f a b
      go (a_nan n) y = m.nan_first n ∙ sym (o.nan_first n)
      go (an_inf i) (a_nan n) = m.nan_second n ∙ sym (o.nan_second n)
      go (a_number c) (a_nan n) = m.nan_second n ∙ sym (o.nan_second n)
      go (an_inf i) (an_inf j) = m.infinite_first i (inf_nonzero f b j) ∙ sym (o.infinite_first i (inf_nonzero f b j))
      go (an_inf i) (a_number d) = elim (eq-or-lt_of_le (zero-le {n = magnitude f b})) [
        | inl z ↦ m.infinite_zero i (sym z) ∙ sym (o.infinite_zero i (sym z))
        | inr p ↦ m.infinite_first i (p, finite_number f b d) ∙ sym (o.infinite_first i (p, finite_number f b d))
      ]
      go (a_number c) (an_inf j) = elim (eq-or-lt_of_le (zero-le {n = magnitude f a})) [
        | inl z ↦ m.zero_infinite (sym z) j ∙ sym (o.zero_infinite (sym z) j)
        | inr p ↦ m.infinite_second (p, finite_number f a c) j ∙ sym (o.infinite_second (p, finite_number f a c) j)
      ]
      go (a_number c) (a_number d) = rounded_one f s (units f a * units f b) (2 ^ low f) r (mul_word f a b) (pow_pos (low f)) (m.finite c d) (o.finite c d)
