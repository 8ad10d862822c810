-- What is left of one magnitude by another, from their digits and places: the steps of `remainder`. Assumes nothing.
use Prim.Native.Nat.{ℕ, ◌+◌, ◌-◌, ◌*◌, ◌/◌, ◌%◌, ◌^◌, ◌<◌, ◌≤◌}
use native.Mathlib.Nat.{le_trans, lt_of_lt_of_le, lt_of_not-le, not-le_of_lt, mul_assoc, mul_comm, mul-le-mul_right, mul-lt-mul_of_pos_right, mod-eq_of_lt}
use Rattle.std.proofs.Common.{suc, min, lit≤}
use lib.Count.{count_leading_zeros, leading_top}
use native.Mathlib.Omega.{arith}
use mathlib.Core.Path.{◌≡◌, refl, sym, ap, subst, ◌∙◌}
use Rattle.std.proofs.lemmas.Nat.{mul-mod_first}
use lib.Pow.{pow_pos, pow-add, pow_mono}
use lib.Ieee.{binary32, nan, of_bits, of_fields}
use Rattle.format.specs.Fields.{exponent}
use Rattle.format.specs.Value.{units, Finite}
use Rattle.format.proofs.Fields.{exponent_lt}
use Rattle.format.proofs.Larger.{units_strict}
use Rattle.format.proofs.Remainder.{scaled, units_by_place, remainder_of_endless, remainder_by_nan, remainder_by_endless, remainder_by_zero, remainder_word}

twice : (i : ℕ) → 2 ^ (i + 1) ≡ 2 ^ i * 2
twice i = pow-add 2 i 1

-- one place more
pub one_up : (m n i left : ℕ) → left ≡ m * 2 ^ i % n → left * 2 % n ≡ m * 2 ^ (i + 1) % n
one_up m n i left e =
    ap (λ (z : ℕ). z * 2 % n) e
    ∙ mul-mod_first (m * 2 ^ i) 2 n
    ∙ ap (λ (z : ℕ). z % n) (mul_assoc m (2 ^ i) 2 ∙ ap (λ (z : ℕ). m * z) (sym (twice i)))

-- the word of some digits at a place
pub record Written (digits places r : ℕ) : Type 0 where
  pub below : r < 0x7f80_0000
  pub value : units binary32 r ≡ digits * 2 ^ places

pub zeros_lead : (digits : ℕ) → 0 < digits → digits < 2 ^ 24 → 8 ≤ count_leading_zeros 32 digits
zeros_lead digits some few =
    let t = leading_top 32 digits some (lt_of_lt_of_le few (lit≤ tt)) in
    let j_lt : t.0 < 24 = lt_of_not-le (λ (g : 24 ≤ t.0). not-le_of_lt few (le_trans (pow_mono g) t.2)) in
    omega (arith, t.1, j_lt)

-- moved up by the zeros in front of them they are 24, and by fewer no more than that
pub written : (digits places up : ℕ) → 0 < digits → digits < 2 ^ 24 → places ≤ 253 → up ≡ min places (count_leading_zeros 32 digits - 8)
    → Written digits places ((places - up) * 2 ^ 23 + digits * 2 ^ up % 2 ^ 32)
written digits places up some few low e =
    let t = leading_top 32 digits some (lt_of_lt_of_le few (lit≤ tt)) in
    let j = t.0 in
    let p = places - up in
    let d = digits * 2 ^ up in
    let top : up + suc j ≤ 24 = omega (arith, t.1, zeros_lead digits some few) in
    let both : (i : ℕ) → 2 ^ i * 2 ^ up ≡ 2 ^ (up + i) = λ i. mul_comm (2 ^ i) (2 ^ up) ∙ sym (pow-add 2 up i) in
    let few_moved : d < 2 ^ 24 = lt_of_lt_of_le (subst (λ (z : ℕ). d < z) (both (suc j)) (mul-lt-mul_of_pos_right t.3 (pow_pos up))) (pow_mono top) in
    let below : p * 2 ^ 23 + d < 0x7f80_0000 = omega arith in
    let led : 0 < p → 2 ^ 23 ≤ d = λ h.
    let all : up + j ≡ 23 = omega (arith, t.1) in
    subst (λ (z : ℕ). z ≤ d) (both j ∙ ap (λ (z : ℕ). 2 ^ z) all) (mul-le-mul_right (2 ^ up) t.2) in
    let joined : up + p ≡ places = omega arith in
    subst (λ (z : ℕ). Written digits places (p * 2 ^ 23 + z)) (sym (mod-eq_of_lt (lt_of_lt_of_le few_moved (lit≤ tt))))
    record {
      below = below;
      value =
          units_by_place binary32 (p * 2 ^ 23 + d) p d below refl few_moved led
          ∙ mul_assoc digits (2 ^ up) (2 ^ p)
          ∙ ap (λ (z : ℕ). digits * z) (sym (pow-add 2 up p) ∙ ap (λ (z : ℕ). 2 ^ z) joined);
    }

pub nothing_left : (w v : ℕ) → w < v → v < 2 ^ 31 → units binary32 w ≡ units binary32 w % units binary32 v
nothing_left w v h k =
    sym (mod-eq_of_lt (units_strict binary32 w v (subst (λ (z : ℕ). z < v % 2 ^ 31) (sym (mod-eq_of_lt (let z : w < 2 ^ 31 = omega arith in z))) (subst (λ (z : ℕ). w < z) (sym (mod-eq_of_lt k)) h))))

pub left_is : (w v p q l r : ℕ) → w < 0x7f80_0000 → v < 0x7f80_0000 → 0 < v → v ≤ w → p ≡ v / 0x0080_0000 - 1 → q ≡ w / 0x0080_0000 - 1
    → l ≡ (w - q * 0x0080_0000) * 2 ^ (q - p) % (v - p * 0x0080_0000) → units binary32 r ≡ l * 2 ^ p → units binary32 r ≡ units binary32 w % units binary32 v
left_is w v p q l r h k s g e d a b =
    let n = v - p * 0x0080_0000 in
    let m = w - q * 0x0080_0000 in
    b
    ∙ ap (λ (z : ℕ). z * 2 ^ p) a
    ∙ scaled (m * 2 ^ (q - p)) n (2 ^ p) (omega arith) (pow_pos p)
    ∙ ap (λ (z : ℕ). z % (n * 2 ^ p))
    (mul_assoc m (2 ^ (q - p)) (2 ^ p) ∙ ap (λ (z : ℕ). m * z) (sym (pow-add 2 (q - p) p) ∙ ap (λ (z : ℕ). 2 ^ z) (let z : q - p + p ≡ q = omega arith in z)) ∙ sym (units_by_place binary32 w q m h (omega arith) (omega arith) (λ z. omega arith)))
    ∙ ap (λ (z : ℕ). units binary32 w % z) (sym (units_by_place binary32 v p n k (omega arith) (omega arith) (λ z. omega arith)))

pub nan_is : of_bits binary32 0x7fc0_0000 ≡ nan
unfolding of_bits of_fields
nan_is = refl

pub finite_is : (w r : ℕ) → r ≡ exponent binary32 w → (r ≡ 255 → ⊥) → Finite binary32 w
finite_is w r e n = let z : exponent binary32 w < 256 = exponent_lt binary32 w in omega arith

-- what `remainder` answers, case by case
pub ruleset remainder_cases = (nan_is, finite_is, remainder_of_endless, remainder_by_nan, remainder_by_endless, remainder_by_zero, remainder_word)
