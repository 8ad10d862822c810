-- Which of two words is the smaller number, by their signs and magnitudes; and the words of integers. Assumes nothing.
use Prim.Native.Nat.{ℕ, zero, suc, ◌+◌, ◌*◌, ◌^◌, ◌≤◌, ◌<◌}
use native.Mathlib.Nat.{mul-one, mul-pos, le_of_lt, zero-mul}
use native.Mathlib.Omega.{arith}
use mathlib.Core.Path.{◌≡◌, refl, sym, ap, ◌∙◌}
use mathlib.Core.Bool.{Bool, true, false, not, ◌&&◌, true≢false}
use borrow.Author.Tests.{ltb-true, ltb-false, lt-ltb, le-ltb}
use lib.Dec.{ltb, lit<}
use lib.IntN.{ℤ, pos, negsuc, nat_abs}
use lib.Signed.{lt_z}
use lib.Pow.{pow_pos, pow-add}
use lib.Ieee.{Format, Float, nan, inf, fin, binary32, low, lt, below, round, of_int, nan_bits, of_bits, to_bits}
use lib.Ieee.Exact.{HasValue}
use lib.Ieee.Scale.{round_same}
use Rattle.format.specs.Fields.{negative, magnitude, inf_word}
use Rattle.format.specs.Value.{units}
use Rattle.format.proofs.AtLeastZero.{inf_pos}
use Rattle.format.proofs.Nan.{nan_read}
use Rattle.format.proofs.Value.{word_value, lt_values}
use Rattle.format.proofs.Larger.{units_test}
use Rattle.soft.specs.Digits.{nearest_word, scaled_word}
use Rattle.soft.proofs.Classes.{Class, a_nan, an_inf, a_number, class_of, inf_is, below_infinite, units_pos, zero_units}

-- ---- comparisons

lt_nan_first : (y : Float) → lt nan y ≡ false
unfolding lt
lt_nan_first y = refl

lt_nan_second : (x : Float) → lt x nan ≡ false
unfolding lt
lt_nan_second nan = refl
lt_nan_second (inf s) = refl
lt_nan_second (fin s m e) = refl

lt_inf_inf : (s t : Bool) → lt (inf s) (inf t) ≡ (s && not t)
unfolding lt
lt_inf_inf s t = refl

lt_inf_first : (s t : Bool) (y : Float) (b d : ℕ) → HasValue y t b d → lt (inf s) y ≡ s
unfolding lt
lt_inf_first s t nan b d v = absurd v
lt_inf_first s t (inf i) b d v = absurd v
lt_inf_first s t (fin i m e) b d v = refl

lt_inf_second : (s t : Bool) (x : Float) (a c : ℕ) → HasValue x s a c → lt x (inf t) ≡ not t
unfolding lt
lt_inf_second s t nan a c v = absurd v
lt_inf_second s t (inf i) a c v = absurd v
lt_inf_second s t (fin i m e) a c v = refl

pub less_nan_first : (a b : ℕ) → nan_bits binary32 a ≡ true → false ≡ lt (of_bits binary32 a) (of_bits binary32 b)
less_nan_first a b n = sym (ap (λ (x : Float). lt x (of_bits binary32 b)) (nan_read binary32 a n) ∙ lt_nan_first (of_bits binary32 b))

pub less_nan_second : (a b : ℕ) → nan_bits binary32 b ≡ true → false ≡ lt (of_bits binary32 a) (of_bits binary32 b)
less_nan_second a b n = sym (ap (lt (of_bits binary32 a)) (nan_read binary32 b n) ∙ lt_nan_second (of_bits binary32 a))

module _ (f : Format) where
  some : (a b c : ℕ) → 0 < c → ltb 0 (units f a * c + units f b * c) ≡ ltb 0 (magnitude f a + magnitude f b)
  some a b c C = go (ltb 0 (magnitude f a + magnitude f b)) refl
    where
      first : (m : ℕ) → magnitude f a ≡ m → 0 < m + magnitude f b → 0 < units f a * c + units f b * c
      first zero e h = omega (arith, mul-pos (units_pos f b (omega (arith, h))) C)
      first (suc m) e h = omega (arith, mul-pos (units_pos f a (omega (arith, e))) C)

      none : magnitude f a + magnitude f b ≤ 0 → units f a * c + units f b * c ≤ 0
      none h =
          let p : magnitude f a ≡ 0 = omega (arith, h) in
          let q : magnitude f b ≡ 0 = omega (arith, h) in
          rw (zero_units f a p, zero_units f b q) (omega (arith, zero-mul c))

      go : (t : Bool) → ltb 0 (magnitude f a + magnitude f b) ≡ t → ltb 0 (units f a * c + units f b * c) ≡ t
      go true h = lt-ltb 0 (units f a * c + units f b * c) (first (magnitude f a) refl (ltb-true 0 (magnitude f a + magnitude f b) h))
      go false h = le-ltb 0 (units f a * c + units f b * c) (none (ltb-false 0 (magnitude f a + magnitude f b) h))

  by_magnitude : (a b c : ℕ) → 0 < c → (s t : Bool) → below s (units f a * c) t (units f b * c) ≡ below s (magnitude f a) t (magnitude f b)
  by_magnitude a b c C false false = units_test f a b c C
  by_magnitude a b c C false true = refl
  by_magnitude a b c C true false = some a b c C
  by_magnitude a b c C true true = units_test f b a c C

  -- an infinity above every finite magnitude
  inf_first : (s t : Bool) (m i : ℕ) → m < i → s ≡ below s i t m
  inf_first false false m i h = sym (le-ltb i m (le_of_lt h))
  inf_first false true m i h = refl
  inf_first true false m i h = sym (lt-ltb 0 (i + m) (omega arith))
  inf_first true true m i h = sym (lt-ltb m i h)

  inf_second : (s t : Bool) (m i : ℕ) → m < i → not t ≡ below s m t i
  inf_second false false m i h = sym (lt-ltb m i h)
  inf_second false true m i h = refl
  inf_second true false m i h = sym (lt-ltb 0 (m + i) (omega arith))
  inf_second true true m i h = sym (le-ltb i m (le_of_lt h))

  inf_both : (s t : Bool) (i : ℕ) → 0 < i → (s && not t) ≡ below s i t i
  inf_both false false i h = sym (le-ltb i i (omega arith))
  inf_both false true i h = refl
  inf_both true false i h = sym (lt-ltb 0 (i + i) (omega arith))
  inf_both true true i h = sym (le-ltb i i (omega arith))

  pub less_is : (a b : ℕ) → nan_bits f a ≡ false → nan_bits f b ≡ false → lt (of_bits f a) (of_bits f b) ≡ below (negative f a) (magnitude f a) (negative f b) (magnitude f b)
  less_is a b n m = go (class_of f a) (class_of f b)
    where
      s : Bool
      s = negative f a

      t : Bool
      t = negative f b

      go : Class f a → Class f b → lt (of_bits f a) (of_bits f b) ≡ below s (magnitude f a) t (magnitude f b)
      go (a_nan i) y = absurd (true≢false (sym i ∙ n))
      go (an_inf i) (a_nan j) = absurd (true≢false (sym j ∙ m))
      go (a_number h) (a_nan j) = absurd (true≢false (sym j ∙ m))
      go (an_inf i) (an_inf j) = rw (inf_is f a i, inf_is f b j, i, j) (lt_inf_inf s t ∙ inf_both s t (inf_word f) (inf_pos f))
      go (an_inf i) (a_number k) =
          ap (λ (x : Float). lt x (of_bits f b)) (inf_is f a i) ∙ lt_inf_first s t (of_bits f b) (units f b) (2 ^ low f) (word_value f b k) ∙ inf_first s t (magnitude f b) (inf_word f) (below_infinite f b k) ∙ ap (λ (z : ℕ). below s z t (magnitude f b)) (sym i)
      go (a_number h) (an_inf j) =
          ap (lt (of_bits f a)) (inf_is f b j) ∙ lt_inf_second s t (of_bits f a) (units f a) (2 ^ low f) (word_value f a h) ∙ inf_second s t (magnitude f a) (inf_word f) (below_infinite f a h) ∙ ap (below s (magnitude f a) t) (sym j)
      go (a_number h) (a_number k) =
          lt_values (of_bits f a) (of_bits f b) s t (units f a) (2 ^ low f) (units f b) (2 ^ low f) (pow_pos (low f)) (pow_pos (low f)) (word_value f a h) (word_value f b k)
          ∙ by_magnitude a b (2 ^ low f) (pow_pos (low f)) s t

-- ---- integers

pub whole_word : (s : Bool) (n : ℕ) → scaled_word binary32 s n 449 ≡ to_bits binary32 (round binary32 s n 1)
unfolding scaled_word nearest_word
whole_word s n = ap (to_bits binary32) (round_same binary32 s (n * 2 ^ 449) (2 ^ 300 * 2 ^ 149) n 1 (mul-pos (pow_pos 300) (pow_pos 149)) (lit< tt) (mul-one (n * 2 ^ 449) ∙ ap (λ (z : ℕ). n * z) (pow-add 2 300 149)))

pub integer_word : (z : ℤ) (s : Bool) (b : ℕ) → s ≡ lt_z z (pos 0) → b ≡ nat_abs z → scaled_word binary32 s b 449 ≡ to_bits binary32 (of_int binary32 z)
unfolding of_int
integer_word (pos n) s b d e = rw (d, e) (ap (λ (t : Bool). scaled_word binary32 t n 449) (le-ltb n 0 (omega arith)) ∙ whole_word false n)
integer_word (negsuc n) s b d e = rw (d, e) (whole_word true (suc n))

-- as the code tests them
pub less_by : (a b x y : ℕ) (s t : Bool) → false ≡ nan_bits binary32 a → false ≡ nan_bits binary32 b → x ≡ magnitude binary32 a → y ≡ magnitude binary32 b → s ≡ negative binary32 a → t ≡ negative binary32 b
    → below s x t y ≡ lt (of_bits binary32 a) (of_bits binary32 b)
less_by a b x y s t n m p q u v =
    ap (λ (z : ℕ). below s z t y) p
    ∙ ap (below s (magnitude binary32 a) t) q
    ∙ ap (λ (z : Bool). below z (magnitude binary32 a) t (magnitude binary32 b)) u
    ∙ ap (λ (z : Bool). below (negative binary32 a) (magnitude binary32 a) z (magnitude binary32 b)) v
    ∙ sym (less_is binary32 a b (sym n) (sym m))
