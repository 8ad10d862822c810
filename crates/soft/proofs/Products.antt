-- The digits and places of a product, which the code hands to the rounding, are the exact result. Assumes nothing.
use Prim.Native.Nat.{ℕ, ◌+◌, ◌*◌, ◌^◌, ◌<◌}
use native.Mathlib.Nat.{mul-lt-mul_of_pos_right, mul-le-mul_left, lt_of_le_of_lt, le_of_lt}
use native.Mathlib.Omega.{arith}
use mathlib.Core.Path.{◌≡◌, refl, sym, ap, subst, ◌∙◌}
use mathlib.Core.Bool.{Bool}
use lib.Pow.{pow_pos, pow-add}
use lib.Ieee.{binary32, low, unlike}
use Rattle.format.specs.Fields.{negative}
use Rattle.format.specs.Value.{units, Finite}
use Rattle.soft.specs.Words.{mul_word}
use Rattle.soft.specs.Digits.{nearest_word, scaled_word, digits_of, places_of}
use Rattle.soft.proofs.Digits.{units_digits}
use Rattle.soft.proofs.Multiply.{mul_finite}
use Rattle.soft.proofs.Scaled.{round_equal}

-- a product below the powers that bound its factors
pub below : (k : ℕ) {a b : ℕ} → a < 2 ^ k → b < 2 ^ k → a * b < 2 ^ (k + k)
below k {a} {b} ha hb = subst (λ (n : ℕ). a * b < n) (sym (pow-add 2 k k)) (lt_of_le_of_lt (mul-le-mul_left a (le_of_lt hb)) (mul-lt-mul_of_pos_right ha (pow_pos k)))

product_power : (d e p q x y z : ℕ) → x + y ≡ z → d * e * 2 ^ (p + q + x) * 2 ^ y ≡ d * 2 ^ p * (e * 2 ^ q) * 2 ^ z
product_power d e p q x y z i = rw (sym i, pow-add 2 (p + q) x, pow-add 2 p q, pow-add 2 x y) (omega arith)

pub product_scaled : (a b : ℕ) (s : Bool) → s ≡ unlike (negative binary32 a) (negative binary32 b) → Finite binary32 a → Finite binary32 b
    → scaled_word binary32 s (digits_of binary32 a * digits_of binary32 b) (places_of binary32 a + places_of binary32 b + 151) ≡ mul_word binary32 a b
unfolding scaled_word
product_scaled a b s e h k =
    let d = digits_of binary32 a in
    let g = digits_of binary32 b in
    let p = places_of binary32 a in
    let q = places_of binary32 b in
    ap (λ (t : Bool). nearest_word binary32 t (d * g * 2 ^ (p + q + 151)) (2 ^ 300)) e
    ∙ round_equal binary32 (unlike (negative binary32 a) (negative binary32 b)) (d * g * 2 ^ (p + q + 151)) (2 ^ 300) (units binary32 a * units binary32 b) (2 ^ low binary32) (pow_pos 300) (pow_pos (low binary32))
    (product_power d g p q 151 149 300 refl ∙ ap (λ (z : ℕ). z * 2 ^ 300) (sym (ap (λ (z : ℕ). z * units binary32 b) (units_digits binary32 a) ∙ ap (λ (z : ℕ). d * 2 ^ p * z) (units_digits binary32 b))))
    ∙ sym (mul_finite binary32 a b h k)
