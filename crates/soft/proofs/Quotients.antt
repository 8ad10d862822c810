-- The division of digits that the code does, and what is left over, against the exact quotient of two words. Assumes nothing.
use Prim.Native.Nat.{ℕ, zero, suc, ◌+◌, ◌-◌, ◌*◌, ◌/◌, ◌%◌, ◌^◌, ◌≤◌, ◌<◌}
use native.Mathlib.Nat.{le_trans, le_of_eq, le_of_lt, lt_of_lt_of_le, lt_of_le_of_lt, lt_irrefl, mul_comm, mul_assoc, mul-pos, mul-le-mul_left, mul-lt-mul_of_pos_right, le-div_iff_mul-le, zero-mul, div-le_self, div-mul-le_self, lt-div-mul-add, mul-div_cancel}
use native.Mathlib.Omega.{arith}
use mathlib.Core.Path.{◌≡◌, refl, sym, ap, subst, ◌∙◌}
use mathlib.Core.Bool.{Bool}
use lib.Arith.{lt_of_le-ne}
use lib.Dec.{lit<, lit≤}
use lib.Pow.{pow_pos, pow-add}
use lib.Count.{count_leading_zeros}
use lib.Ieee.{binary32, unlike}
use Rattle.format.specs.Fields.{negative, magnitude, sign_bit}
use Rattle.format.specs.Value.{units, Finite}
use Rattle.soft.specs.Words.{div_word}
use Rattle.soft.specs.Digits.{nearest_word, scaled_word, digits_of, places_of}
use Rattle.soft.proofs.Classes.{units_pos}
use Rattle.soft.proofs.Digits.{units_digits, small_digits, small_places}
use Rattle.soft.proofs.Divide.{div_finite}
use Rattle.soft.proofs.Leading.{leads, led}
use Rattle.soft.proofs.Scaled.{round_equal, round_beside}
use Rattle.soft.proofs.Shifted.{above_zero, zero_round}

abbrev pub free_of : ℕ → ℕ
free_of x = count_leading_zeros 64 x - 2

abbrev pub full_of : ℕ → ℕ
full_of x = x * 2 ^ free_of x % 2 ^ 64

pub record Lead (x : ℕ) : Type 0 where
  pub some : 40 ≤ count_leading_zeros 64 x
  pub few : free_of x ≤ 61
  pub exact : full_of x ≡ x * 2 ^ free_of x
  pub low : 2 ^ 61 ≤ full_of x
  pub high : full_of x < 2 ^ 62

pub lead_is : (x : ℕ) → (x ≡ 0 → ⊥) → x < 2 ^ 24 → Lead x
lead_is x nz h =
    let l = led 2 61 x refl (above_zero x nz) (lt_of_lt_of_le h (lit≤ tt)) in
    record { some = omega (arith, leads x 24 (above_zero x nz) h (lit≤ tt)); few = l.few; exact = l.exact; low = rw l.exact l.low; high = rw l.exact l.high }

module _ (a b x y p q : ℕ) (hx : x ≡ digits_of binary32 a) (hy : y ≡ digits_of binary32 b) (hp : p ≡ places_of binary32 a) (hq : q ≡ places_of binary32 b) where
  pub divisor_pos : 0 < magnitude binary32 b → 0 < y
  divisor_pos m = go y refl
    where
      go : (z : ℕ) → y ≡ z → 0 < z
      go zero e = absurd (lt_irrefl 0 (subst (λ (u : ℕ). 0 < u) (units_digits binary32 b ∙ ap (λ (z : ℕ). z * 2 ^ places_of binary32 b) (sym hy ∙ e) ∙ zero-mul (2 ^ places_of binary32 b)) (units_pos binary32 b m)))
      go (suc z) e = omega arith

  module _ (nz : x ≡ 0 → ⊥) (Y : 0 < y) where
    lead : Lead x
    lead = lead_is x nz (small_digits a x hx)

    pub long : 2 ^ 24 ≤ full_of x / y
    long = (le-div_iff_mul-le Y).1 (le_trans (mul-le-mul_left (2 ^ 24) (le_of_lt (small_digits b y hy))) (le_trans (lit≤ tt) lead.low))

    abbrev w : ℕ
    w = full_of x / y

    -- the dividend has nothing below 2 ^ 32, so that its digits above are all that is divided
    pub divided_is : (v : ℕ) → v ≡ full_of x / 2 ^ 32 * 2 ^ 32 / y → v ≡ w
    divided_is v e = e ∙ ap (λ (z : ℕ). z / y) (ap (λ (z : ℕ). z * 2 ^ 32) (ap (λ (z : ℕ). z / 2 ^ 32) moved ∙ mul-div_cancel (x * 2 ^ (free_of x - 32)) (pow_pos 32)) ∙ sym moved)
      where
        moved : full_of x ≡ x * 2 ^ (free_of x - 32) * 2 ^ 32
        moved =
            lead.exact
            ∙ ap (λ (z : ℕ). x * 2 ^ z) (let i : free_of x ≡ free_of x - 32 + 32 = omega (arith, lead.some) in i)
            ∙ ap (λ (z : ℕ). x * z) (pow-add 2 (free_of x - 32) 32)
            ∙ sym (mul_assoc x (2 ^ (free_of x - 32)) (2 ^ 32))

    whole_lt : w < 2 ^ 62
    whole_lt = lt_of_le_of_lt (div-le_self (full_of x) y) lead.high

    pub whole_small : (v : ℕ) → v ≡ full_of x / 2 ^ 32 * 2 ^ 32 / y → v < 2 ^ 62
    whole_small v e = rw (divided_is v e) whole_lt

    abbrev at : ℕ
    at = p + 448 - free_of x - q

    abbrev n : ℕ
    n = units binary32 a * 2 ^ 149

    abbrev P : ℕ
    P = 2 * 2 ^ at * 2 ^ q

    places : free_of x + 1 + at + q ≡ p + 449
    places = omega (arith, lead.few, small_places b q hq)

    power : (f at q p o : ℕ) → f + 1 + at + q ≡ p + o → 2 ^ f * (2 * 2 ^ at * 2 ^ q) ≡ 2 ^ p * 2 ^ o
    power f at q p o e =
        sym
        (sym (pow-add 2 p o)
        ∙ ap (λ (z : ℕ). 2 ^ z) (sym e)
        ∙ pow-add 2 (f + 1 + at) q
        ∙ ap (λ (z : ℕ). z * 2 ^ q) (pow-add 2 (f + 1) at ∙ ap (λ (z : ℕ). z * 2 ^ at) (pow-add 2 f 1))
        ∙ (let z : 2 ^ f * 2 * 2 ^ at * 2 ^ q ≡ 2 ^ f * (2 * 2 ^ at * 2 ^ q) = omega arith in z))

    -- the dividend over 2 ^ 300, in those parts
    dividend : full_of x * P ≡ n * 2 ^ 300
    dividend =
        ap (λ (z : ℕ). z * P) lead.exact
        ∙ mul_assoc x (2 ^ free_of x) P
        ∙ ap (λ (z : ℕ). x * z) (power (free_of x) at q p 449 places)
        ∙ sym (mul_assoc x (2 ^ p) (2 ^ 449))
        ∙ ap (λ (z : ℕ). z * 2 ^ 449) (ap (λ (z : ℕ). z * 2 ^ p) hx ∙ ap (λ (z : ℕ). digits_of binary32 a * 2 ^ z) hp ∙ sym (units_digits binary32 a))
        ∙ ap (λ (z : ℕ). units binary32 a * z) (pow-add 2 149 300)
        ∙ sym (mul_assoc (units binary32 a) (2 ^ 149) (2 ^ 300))

    divisor : (w : ℕ) → 2 * w * 2 ^ at * units binary32 b ≡ w * y * P
    divisor w =
        ap (λ (z : ℕ). 2 * w * 2 ^ at * z) (units_digits binary32 b ∙ ap (λ (z : ℕ). z * 2 ^ places_of binary32 b) (sym hy) ∙ ap (λ (z : ℕ). y * 2 ^ z) (sym hq))
        ∙ regroup w (2 ^ at) y (2 ^ q)
      where
        regroup : (w t y u : ℕ) → 2 * w * t * (y * u) ≡ w * y * (2 * t * u)
        regroup w t y u = omega arith

    P_pos : 0 < P
    P_pos = mul-pos (mul-pos (lit< tt) (pow_pos at)) (pow_pos q)

    module _ (s : Bool) (hs : s ≡ unlike (negative binary32 a) (negative binary32 b)) (fa : Finite binary32 a) (fb : Finite binary32 b) (mb : 0 < magnitude binary32 b) where
      D : 0 < units binary32 b
      D = units_pos binary32 b mb

      ends : nearest_word binary32 s n (units binary32 b) ≡ div_word binary32 a b
      ends = ap (λ (t : Bool). nearest_word binary32 t n (units binary32 b)) hs ∙ sym (div_finite binary32 a b fa fb mb)

      module _ (v : ℕ) (e : v ≡ w) where
        pub exact_word : v * y ≡ full_of x → scaled_word binary32 s (v * 2) at ≡ div_word binary32 a b
        unfolding scaled_word
        exact_word all =
            round_equal binary32 s (v * 2 * 2 ^ at) (2 ^ 300) n (units binary32 b) (pow_pos 300) D
            (ap (λ (z : ℕ). z * 2 ^ at * units binary32 b) (mul_comm v 2) ∙ divisor v ∙ ap (λ (z : ℕ). z * P) all ∙ dividend)
            ∙ ends

        pub beside_word : (v * y ≡ full_of x → ⊥) → scaled_word binary32 s (v * 2 + 1) at ≡ div_word binary32 a b
        unfolding scaled_word
        beside_word ne =
            ap (λ (z : ℕ). nearest_word binary32 s (z * 2 ^ at) (2 ^ 300)) (ap (λ (z : ℕ). z + 1) (mul_comm v 2))
            ∙ round_beside binary32 s n (units binary32 b) v at 300 D (le_trans (le_of_eq refl) (mul-le-mul_left {m = 2 ^ 24} 2 (rw e long)))
            (subst (λ (z : ℕ). z < n * 2 ^ 300) (sym (divisor v)) (subst (λ (z : ℕ). v * y * P < z) dividend (mul-lt-mul_of_pos_right under P_pos)))
            (subst (λ (z : ℕ). n * 2 ^ 300 < z) (sym (divisor (v + 1)) ∙ ap (λ (z : ℕ). z * 2 ^ at * units binary32 b) (next v)) (subst (λ (z : ℕ). z < (v + 1) * y * P) dividend (mul-lt-mul_of_pos_right over P_pos)))
            ∙ ends
          where
            under : v * y < full_of x
            under = lt_of_le-ne (rw e (div-mul-le_self (full_of x) y)) ne

            over : full_of x < (v + 1) * y
            over = rw e (omega (arith, lt-div-mul-add {a = full_of x} Y))

            next : (v : ℕ) → 2 * (v + 1) ≡ 2 * v + 2
            next v = omega arith

pub zero_quotient : (a b x : ℕ) (s : Bool) → x ≡ digits_of binary32 a → x ≡ 0 → s ≡ unlike (negative binary32 a) (negative binary32 b) → Finite binary32 a → Finite binary32 b → 0 < magnitude binary32 b → sign_bit binary32 s ≡ div_word binary32 a b
zero_quotient a b x s hx e hs fa fb mb =
    sym (zero_round binary32 s (units binary32 a * 2 ^ 149) (units binary32 b) (units_pos binary32 b mb) (ap (λ (z : ℕ). z * 2 ^ 149) (units_digits binary32 a ∙ ap (λ (z : ℕ). z * 2 ^ places_of binary32 a) (sym hx ∙ e) ∙ zero-mul (2 ^ places_of binary32 a)) ∙ zero-mul (2 ^ 149)))
    ∙ ap (λ (t : Bool). nearest_word binary32 t (units binary32 a * 2 ^ 149) (units binary32 b)) hs
    ∙ sym (div_finite binary32 a b fa fb mb)
