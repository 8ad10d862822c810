-- recip's answer to a number from the smallest normal one to 2 ^ 125 is no NaN, whatever its sign: the operand's magnitude times the estimate is
-- at most 2, so that the correction stays small. Assumes nothing.
use Prim.Native.Nat.{ℕ, ◌+◌, ◌-◌, ◌*◌, ◌%◌, ◌^◌, ◌≤◌, ◌<◌, zero-le}
use native.Mathlib.Nat.{le_trans, le_of_eq, le_refl, lt_of_lt_of_le, zero-mul, mul-mul-mul_comm, mul-le-mul, mul-le-mul_left, mul-pos, mod-eq_of_lt}
use native.Mathlib.Omega.{arith}
use mathlib.Core.Path.{◌≡◌, sym, ap, subst, ◌∙◌}
use mathlib.Core.Bool.{Bool, true, false, cond}
use borrow.Author.Tests.{leb-false, lt-ltb, le-ltb}
use lib.Dec.{T, lit<}
use lib.IntN.{ℤ}
use lib.Pow.{pow-add, pow_mono}
use lib.Ieee.{Float, nan, inf, fin, binary32, up, down, neg, lt, mul, is_nan, nan_bits, fits, to_bits, of_bits}
use lib.Ieee.Bits.{of_bits-to_bits}
use lib.Ieee.Fits.{mul-fits, down_pos}
use lib.Ieee.Positive.{first_pos}
use lib.Ieee.Scale.{finite}
use Rattle.format.specs.Fields.{exponent, magnitude, inf_word}
use Rattle.format.specs.Value.{units, Finite}
use Rattle.format.proofs.Normal.{finite_below}
use Rattle.format.proofs.Order.{no_wrap}
use Rattle.format.proofs.Larger.{units_mono}
use Rattle.float.specs.Rounded.{◌⊗◌, number}
use Rattle.float.specs.Recip.{side, estimate, recip_magic, correction, recip_word}
use Rattle.sizes.proofs.Size.{AtMost, AtLeast, NotNegative, round_not_negative, mul_at_most, mul_within, mul_reaching, add_at_most, sub_at_most, neg_at_most, neg_at_least}
use Rattle.sizes.proofs.Words.{constant, own_at_most, own_at_least, at_most_word, at_least_word, sign_word, number_word, units_field}
use Rattle.sizes.proofs.Numbers.{mul_number, mul_number_some_right}

-- at most 2 ^ 16 where w is at most 2
correction_at_most : {w : Float} → AtMost binary32 0x4000_0000 w → AtMost binary32 0x4780_0000 (correction w)
unfolding correction
correction_at_most h =
    let a = constant binary32 0x4100_0000 tt in
    let b = neg_at_most (constant binary32 0x41e0_0000 tt) in
    let c = constant binary32 0x4260_0000 tt in
    let d = neg_at_most (constant binary32 0x428c_0000 tt) in
    let t = sub_at_most 0x4180_0000 a h tt in
    let t = add_at_most 0x4280_0000 b (mul_at_most 0x4200_0000 h t tt) tt in
    let t = add_at_most 0x4380_0000 c (mul_at_most 0x4300_0000 h t tt) tt in
    let t = add_at_most 0x4480_0000 d (mul_at_most 0x4400_0000 h t tt) tt in
    let t = add_at_most 0x4580_0000 c (mul_at_most 0x4500_0000 h t tt) tt in
    let t = add_at_most 0x4680_0000 b (mul_at_most 0x4600_0000 h t tt) tt in
    add_at_most 0x4780_0000 a (mul_at_most 0x4700_0000 h t tt) tt

-- ---- the side: 1 or -1

sided_at_most : (b : Bool) → AtMost binary32 0x3f80_0000 (cond b (neg (number 0x3f80_0000)) (number 0x3f80_0000))
sided_at_most true = neg_at_most (constant binary32 0x3f80_0000 tt)
sided_at_most false = constant binary32 0x3f80_0000 tt

sided_at_least : (b : Bool) → AtLeast binary32 0x3f80_0000 (cond b (neg (number 0x3f80_0000)) (number 0x3f80_0000))
sided_at_least true = neg_at_least (own_at_least binary32 0x3f80_0000 (lit< tt))
sided_at_least false = own_at_least binary32 0x3f80_0000 (lit< tt)

side_at_most : (x : Float) → AtMost binary32 0x3f80_0000 (side x)
side_at_most x = sided_at_most (lt x (number 0))

side_at_least : (x : Float) → AtLeast binary32 0x3f80_0000 (side x)
side_at_least x = sided_at_least (lt x (number 0))

-- ---- the operand's magnitude

from_zero : (m : ℕ) (e : ℤ) → lt (fin false m e) (number 0) ≡ false
unfolding lt of_bits
from_zero m e = le-ltb (m * up e * 1) (0 * 1 * down e) (le_trans (le_of_eq (zero-mul (down e))) zero-le)

below_zero : (m : ℕ) (e : ℤ) → 0 < m * up e → lt (fin true m e) (number 0) ≡ true
unfolding lt of_bits
below_zero m e h = lt-ltb 0 (m * up e * 1 + 0 * 1 * down e) (omega arith)

magnitude_plus : (b : ℕ) (x : Float) → T (finite x) → AtLeast binary32 b x → 0 < units binary32 b → NotNegative (x ⊗ side x)
unfolding mul neg of_bits
magnitude_plus b nan h l p = absurd h
magnitude_plus b (inf s) h l p = absurd h
magnitude_plus b (fin false m e) h l p = rw (from_zero m e) (round_not_negative binary32 (m * up e * (1 * 1)) (down e * 1))
magnitude_plus b (fin true m e) h l p =
    rw (below_zero m e (first_pos (m * up e) (2 ^ 149) (lt_of_lt_of_le (mul-pos p (down_pos e)) l.large))) (round_not_negative binary32 (m * up e * (1 * 1)) (down e * 1))

-- ---- the estimate

-- two words whose fields add up to no more than 253
product_at_most : (r q : ℕ) → r < inf_word binary32 → q < inf_word binary32 → r + q ≤ recip_magic → AtMost binary32 0x4000_0000 (number r ⊗ number q)
product_at_most r q h k l =
    let i = exponent binary32 r in
    let j = exponent binary32 q in
    let s : i + j ≤ 253 = omega arith in
    let e : 2 ^ 23 * 2 ^ i * (2 ^ 23 * 2 ^ j) ≡ 2 ^ 46 * 2 ^ (i + j) = mul-mul-mul_comm (2 ^ 23) (2 ^ i) (2 ^ 23) (2 ^ j) ∙ ap (λ (n : ℕ). 2 ^ 46 * n) (sym (pow-add 2 i j)) in
    mul_within 0x4000_0000 (own_at_most binary32 r (finite_below binary32 r h)) (own_at_most binary32 q (finite_below binary32 q k)) (lit< tt)
    (le_trans (mul-le-mul (units_field binary32 r) (units_field binary32 q)) (le_trans (le_of_eq e) (mul-le-mul_left (2 ^ 46) (pow_mono s))))

-- ---- the steps

-- the word of the operand's magnitude is positive, and neither above the operand's own nor below it
module _ (w : ℕ) (above : 0x0080_0000 ≤ magnitude binary32 w) (below : magnitude binary32 w ≤ 0x7e00_0000) where
  abbrev x : Float
  x = number w

  abbrev y : Float
  y = x ⊗ side x

  abbrev word : ℕ
  word = to_bits binary32 y

  w_finite : Finite binary32 w
  w_finite = omega (arith, below)

  w_some : 0 < units binary32 w
  w_some = lt_of_lt_of_le {n = 0} {m = 2 ^ 23} (lit< tt) (units_mono binary32 0x0080_0000 w above)

  y_at_most : AtMost binary32 w y
  y_at_most = mul_within w (own_at_most binary32 w w_finite) (side_at_most x) w_finite (le_refl _)

  y_at_least : AtLeast binary32 w y
  y_at_least = mul_reaching w (own_at_least binary32 w w_finite) (side_at_least x) w_finite w_some (lit< tt) (le_refl _)

  y_fits : T (fits binary32 y)
  y_fits = mul-fits binary32 x (side x)

  word_positive : word < 2 ^ 31
  word_positive = leb-false (2 ^ 31) word (sign_word binary32 y y_fits y_at_most.finite (magnitude_plus w x (own_at_most binary32 w w_finite).finite (own_at_least binary32 w w_finite) w_some))

  word_is : word % 2 ^ 31 ≡ word
  word_is = mod-eq_of_lt word_positive

  word_above : 0x0080_0000 ≤ word
  word_above = omega (arith, word_is, at_least_word binary32 w y y_fits y_at_most.finite y_at_least)

  word_below : word ≤ 0x7e00_0000
  word_below = omega (arith, word_is, at_most_word binary32 w y y_fits y_at_most)

  abbrev left : ℕ
  left = recip_magic - word

  left_is : (2 ^ 32 + recip_magic - word) % 2 ^ 32 ≡ left
  left_is = no_wrap (2 ^ 32) recip_magic word (omega (arith, word_below)) (lit< tt)

  left_finite : Finite binary32 left
  left_finite = finite_below binary32 left (omega (arith, word_below))

  product_small : AtMost binary32 0x4000_0000 (y ⊗ number left)
  product_small =
      subst (λ (z : Float). AtMost binary32 0x4000_0000 (z ⊗ number left)) (of_bits-to_bits binary32 y y_fits)
      (product_at_most word left (omega (arith, word_below)) (omega (arith, word_below)) (omega (arith, word_below)))

  answer : is_nan (estimate y ⊗ correction (y ⊗ estimate y) ⊗ side x) ≡ false
  answer =
      rw left_is
      (mul_number_some_right binary32 0x3f80_0000 _ (side x)
      (mul_number binary32 (number left) (correction (y ⊗ number left)) (own_at_most binary32 left left_finite).finite (correction_at_most product_small).finite)
      (side_at_most x).finite (side_at_least x) (lit< tt))

pub recip_number : (w : ℕ) → 0x0080_0000 ≤ magnitude binary32 w → magnitude binary32 w ≤ 0x7e00_0000 → nan_bits binary32 (recip_word w) ≡ false
unfolding recip_word
recip_number w above below = number_word binary32 _ (mul-fits binary32 _ (side (number w))) (answer w above below)
