-- ln's answer to a positive normal number is no NaN: every step of it stays small. Assumes nothing.
use Prim.Native.Nat.{ℕ, suc, ◌+◌, ◌-◌, ◌*◌, ◌%◌, ◌^◌, ◌≤◌, ◌<◌}
use native.Mathlib.Nat.{le_trans, le_of_eq, add-zero, mul_assoc, mul-le-mul_right, mul-pos, sub-le, mod-eq_of_lt, lt_of_mul-lt-mul_right, not-le_of_lt}
use native.Mathlib.Omega.{arith}
use mathlib.Core.Path.{◌≡◌, refl, sym, ap, ◌∙◌}
use mathlib.Core.Logic.{inl, inr}
use mathlib.Core.Bool.{Bool, true, false, cond}
use borrow.Author.Tests.{ltb-true, lt-leb}
use lib.Dec.{T, leb, ltb, lit<}
use lib.IntN.{pos, negsuc}
use lib.Pow.{pow_pos}
use lib.Ieee.{Float, binary32, neg, lt, below, div, of_int, nan_bits, fits}
use lib.Ieee.Fits.{add-fits, neg-fits, cond-fits}
use mir.Syntax.{w32}
use mir.Val.{of_z}
use Rattle.format.specs.Fields.{exponent, fraction, negative, inf_word}
use Rattle.format.specs.Value.{units}
use Rattle.format.specs.Exponent.{exponent_value}
use Rattle.format.specs.Estimates.{Normal, Invertible, inv_word}
use Rattle.format.proofs.Fields.{exponent_lt, fraction_lt, two_fields}
use Rattle.format.proofs.Normal.{normal_finite, finite_below, units_of}
use Rattle.format.proofs.Inv.{inv_normal}
use Rattle.format.proofs.Value.{word_value, lt_values}
use Rattle.format.proofs.Order.{either}
use Rattle.format.proofs.Larger.{units_mono}
use Rattle.float.specs.Rounded.{◌⊗◌, number, is_at}
use Rattle.float.specs.Ln.{polynomial, power, rest, logarithm, ln_word}
use Rattle.sizes.proofs.Size.{AtMost, round_at_most, mul_at_most, add_at_most, sub_at_most, neg_at_most, div_within}
use Rattle.sizes.proofs.Words.{constant, own_at_most, own_at_least, at_most_number, number_word}

-- at most 64 where z is at most 2
polynomial_at_most : {z : Float} → AtMost binary32 0x4000_0000 z → AtMost binary32 0x4280_0000 (polynomial z)
unfolding polynomial
polynomial_at_most h =
    let e = mul_at_most 0x3e80_0000 (constant binary32 0x3d67_b6d6 tt) h tt in
    let d = mul_at_most 0x4000_0000 (sub_at_most 0x3f80_0000 (constant binary32 0x3ee4_f4b8 tt) e tt) h tt in
    let c = mul_at_most 0x4100_0000 (add_at_most 0x4080_0000 (neg_at_most (constant binary32 0x3fbc_278b tt)) d tt) h tt in
    let b = mul_at_most 0x4200_0000 (add_at_most 0x4180_0000 (constant binary32 0x4034_8e95 tt) c tt) h tt in
    add_at_most 0x4280_0000 (neg_at_most (constant binary32 0x3fde_f31a tt)) b tt

-- the exponent is at most 2 ^ 32
word_of : (b : Bool) (n m : ℕ) → n ≤ 2 ^ 32 → of_z w32 (cond b (pos n) (negsuc m)) ≤ 2 ^ 32
word_of true n m h = h
word_of false n m h = sub-le (2 ^ 32) (suc m)

power_at_most : (w : ℕ) → AtMost binary32 0x4f80_0000 (power w)
unfolding of_int
power_at_most w =
    let n = of_z w32 (exponent_value binary32 w) in
    let l : n ≤ 2 ^ 32 = word_of (leb 127 (exponent binary32 w)) (exponent binary32 w - 127) (127 - suc (exponent binary32 w)) (omega (arith, exponent_lt binary32 w)) in
    round_at_most binary32 0x4f80_0000 false n 1 (lit< tt) (pow_pos 0) (mul-le-mul_right (2 ^ 149) l)

-- what the leading digit leaves is at most 2
halved : (A B L : ℕ) → A ≤ 2 * B → A * L ≤ 2 * L * B
halved A B L h = le_trans (mul-le-mul_right L h) (le_of_eq (let e : 2 * B * L ≡ 2 * L * B = omega arith in e))

rest_at : (w v m t : ℕ) → w < inf_word binary32 → w ≡ suc m * 2 ^ 23 + t → v ≡ suc m * 2 ^ 23 → t < 2 ^ 23 → AtMost binary32 0x4000_0000 (div binary32 (number w) (number v))
rest_at w v m t h e d l =
    let k : v < inf_word binary32 = omega arith in
    let full : units binary32 w ≡ (2 ^ 23 + t) * 2 ^ m = units_of binary32 w m t h e l in
    let whole : units binary32 v ≡ (2 ^ 23 + 0) * 2 ^ m = units_of binary32 v m 0 k (d ∙ sym (add-zero _)) (lit< tt) in
    let twice : (2 ^ 23 + t) * 2 ^ m ≤ 2 * ((2 ^ 23 + 0) * 2 ^ m) = le_trans (mul-le-mul_right (2 ^ m) (let i : 2 ^ 23 + t ≤ 2 * (2 ^ 23 + 0) = omega arith in i)) (le_of_eq (mul_assoc 2 (2 ^ 23 + 0) (2 ^ m))) in
    div_within 0x4000_0000 (own_at_most binary32 w (finite_below binary32 w h)) (own_at_least binary32 v (finite_below binary32 v k)) (lit< tt)
    (rw whole (mul-pos (lit< tt) (pow_pos m)))
    (halved (units binary32 w) (units binary32 v) (2 ^ 149) (rw (full, whole) twice))

rest_at_most : (w : ℕ) → Normal binary32 w → AtMost binary32 0x4000_0000 (rest w)
rest_at_most w n =
    let x = exponent binary32 w in
    let X : x ≡ suc (x - 1) = omega (arith, n.above, n.below) in
    let e : x * 2 ^ 23 + fraction binary32 w ≡ w = two_fields binary32 w ∙ mod-eq_of_lt (omega (arith, n.below)) in
    rest_at w (x * 2 ^ 23) (x - 1) (fraction binary32 w) n.below (omega (arith, e, X)) (ap (λ (k : ℕ). k * 2 ^ 23) X) (fraction_lt binary32 w)

logarithm_at_most : (w : ℕ) → Normal binary32 w → AtMost binary32 0x5000_0000 (logarithm w)
unfolding logarithm
logarithm_at_most w n =
    add_at_most 0x5000_0000 (mul_at_most 0x4f80_0000 (power_at_most w) (constant binary32 0x3f31_7218 tt) tt) (polynomial_at_most (rest_at_most w n)) tt

-- ---- the answer

below_one : (w : ℕ) → Normal binary32 w → lt (number w) (number 0x3f80_0000) ≡ true → Invertible binary32 w
below_one w n t =
    let s : negative binary32 w ≡ false = lt-leb (2 ^ 31) w (omega (arith, n.below)) in
    let v = lt_values (number w) (number 0x3f80_0000) (negative binary32 w) false (units binary32 w) (2 ^ 149) (units binary32 0x3f80_0000) (2 ^ 149) (pow_pos 149) (pow_pos 149)
    (word_value binary32 w (normal_finite binary32 w n)) (word_value binary32 0x3f80_0000 (lit< tt)) in
    let u : ltb (units binary32 w * 2 ^ 149) (units binary32 0x3f80_0000 * 2 ^ 149) ≡ true = sym (ap (λ (s : Bool). below s (units binary32 w * 2 ^ 149) false (units binary32 0x3f80_0000 * 2 ^ 149)) s) ∙ sym v ∙ t in
    let l : units binary32 w < units binary32 0x3f80_0000 = lt_of_mul-lt-mul_right (2 ^ 149) (ltb-true _ _ u) in
    record {
      above = n.above;
      below = elim (either w 0x3f80_0000) [
        | inl h ↦ omega arith
        | inr h ↦ absurd (not-le_of_lt l (units_mono binary32 0x3f80_0000 w (let i : 0x3f80_0000 ≤ w % 2 ^ 31 = omega (arith, n.below) in i)))
      ];
    }

chosen : (w : ℕ) → Normal binary32 w → (b : Bool) → lt (number w) (number 0x3f80_0000) ≡ b → AtMost binary32 0x5000_0000 (cond b (neg (logarithm (inv_word binary32 w))) (logarithm w))
chosen w n true e = neg_at_most (logarithm_at_most (inv_word binary32 w) (inv_normal binary32 w (below_one w n e)))
chosen w n false e = logarithm_at_most w n

logarithm_fits : (w : ℕ) → T (fits binary32 (logarithm w))
unfolding logarithm
logarithm_fits w = add-fits binary32 (power w ⊗ number 0x3f31_7218) (polynomial (rest w))

zero_number : nan_bits binary32 0 ≡ false
unfolding nan_bits
zero_number = refl

either_number : (b : Bool) (r : ℕ) → nan_bits binary32 r ≡ false → nan_bits binary32 (cond b 0 r) ≡ false
either_number true r h = zero_number
either_number false r h = h

pub ln_number : (w : ℕ) → Normal binary32 w → nan_bits binary32 (ln_word w) ≡ false
unfolding ln_word
ln_number w n =
    let b = lt (number w) (number 0x3f80_0000) in
    either_number (is_at (number w) (number 0x3f80_0000)) _
    (number_word binary32 _
    (cond-fits binary32 b (neg (logarithm (inv_word binary32 w))) (logarithm w) (neg-fits binary32 (logarithm (inv_word binary32 w)) (logarithm_fits (inv_word binary32 w))) (logarithm_fits w))
    (at_most_number (chosen w n b refl)))
