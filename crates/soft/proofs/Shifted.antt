-- What the code's shifts are over whole numbers: a number moved up to 63 digits, what a shift down keeps, and the word of both. Assumes nothing.
use Prim.Native.Nat.{ℕ, zero, suc, ◌+◌, ◌-◌, ◌*◌, ◌/◌, ◌%◌, ◌^◌, ◌≤◌, ◌<◌, compare, Ordering}
use native.Mathlib.Nat.{le_trans, le_of_eq, lt_of_lt_of_le, lt_of_le_of_lt, mul_comm, mul_assoc, mul-le-mul_right, mod-eq_of_lt, mod-lt, div-lt_iff_lt-mul, div-eq_of_lt, mul-pos, one-mul, zero-mul, zero-add, add-zero}
use native.Mathlib.Omega.{arith}
use mathlib.Core.Path.{◌≡◌, refl, sym, ap, subst, ◌∙◌}
use mathlib.Core.Bool.{Bool, true, false}
use lib.Dec.{lit<, lit≤}
use lib.Bits.{bit_and, and_mask}
use lib.Pow.{pow_pos, pow-add, pow_mono, shl_exact}
use lib.Count.{count_leading_zeros}
use lib.Ieee.{Format, binary32, low, hid, nearest, round, to_bits}
use lib.Ieee.Nearest.{closest}
use lib.Ieee.Fits.{nearest-le}
use lib.Ieee.Order.{drop, kept}
use Rattle.format.specs.Fields.{sign_bit, inf_word}
use Rattle.format.proofs.Same.{round_nothing}
use Rattle.soft.specs.Digits.{nearest_word, scaled_word}
use Rattle.soft.proofs.Classes.{zero_written}
use Rattle.soft.proofs.Leading.{Led, led}
use Rattle.soft.proofs.Nearest.{Cmp, cmp}
use Rattle.soft.proofs.Scaled.{round_inside, round_outside, scaled_drop, scaled_kept}

-- ---- the nearest whole number, by the rest against what is left of a part

module _ (x count : ℕ) (C : count < 64) where
  pub unit_is : 1 * 2 ^ count % 2 ^ 64 ≡ 2 ^ count
  unit_is = shl_exact {a = 1} 1 count 64 (lit< tt) (omega arith) ∙ one-mul (2 ^ count)

  pub rest_is : bit_and x (1 * 2 ^ count % 2 ^ 64 - 1) ≡ x % 2 ^ count
  rest_is = ap (λ (u : ℕ). bit_and x (u - 1)) unit_is ∙ and_mask x count

-- a half, and one more, fits as well
pub half_fits : (x n : ℕ) → 0 < n → x < 2 ^ 64 → x / 2 ^ n + 1 < 2 ^ 64
half_fits x n N h =
    let a : x / 2 ^ n < 2 ^ 63 = (div-lt_iff_lt-mul (pow_pos n)).1 (lt_of_lt_of_le h (le_trans (le_of_eq (pow-add 2 63 1)) (le_trans (le_of_eq (mul_comm (2 ^ 63) (2 ^ 1))) (subst (λ (z : ℕ). 2 ^ 1 * 2 ^ 63 ≤ z) (mul_comm (2 ^ n) (2 ^ 63)) (mul-le-mul_right (2 ^ 63) (pow_mono N)))))) in
    omega (arith, a)

module _ (x u : ℕ) (U : 0 < u) where
  pub closest_low : x % u < u - x % u → closest x u ≡ x / u
  closest_low h = go (compare (x % u * 2) u) (cmp (x % u * 2) u)
    where
      go : (o : Ordering) → Cmp o (x % u * 2) u → nearest (x / u) o ≡ x / u
      go Ordering.lt i = refl
      go Ordering.eq i = absurd (let z : ⊥ = omega (arith, i, h) in z)
      go Ordering.gt i = absurd (let z : ⊥ = omega (arith, i, h) in z)

  pub closest_high : u - x % u < x % u → closest x u ≡ x / u + 1
  closest_high h = go (compare (x % u * 2) u) (cmp (x % u * 2) u)
    where
      go : (o : Ordering) → Cmp o (x % u * 2) u → nearest (x / u) o ≡ x / u + 1
      go Ordering.lt i = absurd (let z : ⊥ = omega (arith, i, h) in z)
      go Ordering.eq i = absurd (let z : ⊥ = omega (arith, i, h) in z)
      go Ordering.gt i = omega arith

  pub closest_tie : u - x % u ≤ x % u → x % u ≤ u - x % u → closest x u ≡ x / u + x / u % 2
  closest_tie h k = go (compare (x % u * 2) u) (cmp (x % u * 2) u)
    where
      l : x % u < u
      l = mod-lt x U

      go : (o : Ordering) → Cmp o (x % u * 2) u → nearest (x / u) o ≡ x / u + x / u % 2
      go Ordering.lt i = absurd (let z : ⊥ = omega (arith, i, h, l) in z)
      go Ordering.eq i = refl
      go Ordering.gt i = absurd (let z : ⊥ = omega (arith, i, k, l) in z)

-- ---- the word of a number of 63 digits

module _ (x : ℕ) (L : 2 ^ 62 ≤ x) (H : x < 2 ^ 63) where
  pub closest_le : (count : ℕ) → 39 ≤ count → closest x (2 ^ count) ≤ 2 ^ 24
  closest_le count C =
      let q : x / 2 ^ count < 2 ^ 24 = (div-lt_iff_lt-mul (pow_pos count)).1 (lt_of_lt_of_le H (le_trans (le_of_eq (pow-add 2 24 39)) (subst (λ (z : ℕ). 2 ^ 24 * 2 ^ 39 ≤ z) (mul_comm (2 ^ count) (2 ^ 24)) (le_trans (le_of_eq (mul_comm (2 ^ 24) (2 ^ 39))) (mul-le-mul_right (2 ^ 24) (pow_mono C)))))) in
      le_trans (nearest-le (x / 2 ^ count) (compare (x % 2 ^ count * 2) (2 ^ count))) q

  module _ (s : Bool) (high count o : ℕ) (E : count + high ≡ o) (C : 39 ≤ count) where
    is_low : drop 24 (x * 2 ^ high) (2 ^ o) * hid binary32 + kept 24 (x * 2 ^ high) (2 ^ o) ≡ closest x (2 ^ count)
    is_low =
        let z : 63 + high - o - 24 ≡ 0 = omega (arith, E, C) in
        ap (λ (k : ℕ). k * hid binary32 + kept 24 (x * 2 ^ high) (2 ^ o)) (scaled_drop 24 x 63 high o H L (lit< tt) 0 z)
        ∙ zero-add (kept 24 (x * 2 ^ high) (2 ^ o))
        ∙ scaled_kept 24 x 63 high o H L (lit< tt) 0 count z (omega (arith, E))

    pub low_word : nearest_word binary32 s (x * 2 ^ high) (2 ^ o) ≡ sign_bit binary32 s + closest x (2 ^ count)
    low_word = round_inside binary32 s (x * 2 ^ high) (2 ^ o) (pow_pos o) (closest x (2 ^ count)) is_low (lt_of_le_of_lt (closest_le count C) (lit< tt))

    -- below half of the smallest word there is nothing
    pub no_word : 63 < count → nearest_word binary32 s (x * 2 ^ high) (2 ^ o) ≡ sign_bit binary32 s
    no_word G = low_word ∙ ap (λ (z : ℕ). sign_bit binary32 s + z) none ∙ add-zero (sign_bit binary32 s)
      where
        big : 2 ^ 64 ≤ 2 ^ count
        big = pow_mono G

        none : closest x (2 ^ count) ≡ 0
        none =
            let d : x % 2 ^ count ≡ x = mod-eq_of_lt (lt_of_lt_of_le H (le_trans (lit≤ tt) big)) in
            closest_low x (2 ^ count) (pow_pos count) (rw d (omega (arith, big, H)))
            ∙ div-eq_of_lt (lt_of_lt_of_le H (le_trans (lit≤ tt) big))

  module _ (s : Bool) (high k o : ℕ) (E : 39 + high ≡ k + o) where
    is_high : drop 24 (x * 2 ^ high) (2 ^ o) * hid binary32 + kept 24 (x * 2 ^ high) (2 ^ o) ≡ k * hid binary32 + closest x (2 ^ 39)
    is_high =
        let z : 63 + high - o - 24 ≡ k = omega (arith, E) in
        ap (λ (k : ℕ). k * hid binary32 + kept 24 (x * 2 ^ high) (2 ^ o)) (scaled_drop 24 x 63 high o H L (lit< tt) k z)
        ∙ ap (λ (q : ℕ). k * hid binary32 + q) (scaled_kept 24 x 63 high o H L (lit< tt) k 39 z E)

    pub high_word : k * hid binary32 + closest x (2 ^ 39) < inf_word binary32 → nearest_word binary32 s (x * 2 ^ high) (2 ^ o) ≡ sign_bit binary32 s + (k * hid binary32 + closest x (2 ^ 39))
    high_word l = round_inside binary32 s (x * 2 ^ high) (2 ^ o) (pow_pos o) (k * hid binary32 + closest x (2 ^ 39)) is_high l

    pub inf_word_is : inf_word binary32 ≤ k * hid binary32 + closest x (2 ^ 39) → nearest_word binary32 s (x * 2 ^ high) (2 ^ o) ≡ sign_bit binary32 s + inf_word binary32
    inf_word_is l = round_outside binary32 s (x * 2 ^ high) (2 ^ o) (pow_pos o) (k * hid binary32 + closest x (2 ^ 39)) is_high l

-- ---- as the code has it

pub above_zero : (m : ℕ) → (m ≡ 0 → ⊥) → 0 < m
above_zero zero n = absurd (n refl)
above_zero (suc m) n = omega arith

pub zero_round : (f : Format) (s : Bool) (n d : ℕ) → 0 < d → n ≡ 0 → nearest_word f s n d ≡ sign_bit f s
unfolding nearest_word
zero_round f s n d D e =
    ap (λ (n : ℕ). to_bits f (round f s n (d * 2 ^ low f))) e
    ∙ ap (to_bits f) (round_nothing f s (d * 2 ^ low f) (mul-pos D (pow_pos (low f))))
    ∙ zero_written f s

pub scaled_zero : (s : Bool) (m at : ℕ) → m ≡ 0 → scaled_word binary32 s m at ≡ sign_bit binary32 s
unfolding scaled_word
scaled_zero s m at e = zero_round binary32 s (m * 2 ^ at) (2 ^ 300) (pow_pos 300) (ap (λ (z : ℕ). z * 2 ^ at) e ∙ zero-mul (2 ^ at))

back : (z : ℕ) → z ≤ 261 → 300 - z + z ≡ 300
back z h = omega arith

abbrev pub free_of : ℕ → ℕ
free_of m = count_leading_zeros 64 m - 1

abbrev pub full_of : ℕ → ℕ
full_of m = m * 2 ^ free_of m % 2 ^ 64

module _ (s : Bool) (m at : ℕ) (P : (m ≡ 0 → ⊥)) (M : m < 2 ^ 63) (A : 62 ≤ at) where
  full : Led 62 m (free_of m)
  full = led 1 62 m refl (above_zero m P) M

  pub free_le : free_of m ≤ 62
  free_le = full.few

  low_full : 2 ^ 62 ≤ full_of m
  low_full = rw full.exact full.low

  high_full : full_of m < 2 ^ 63
  high_full = rw full.exact full.high

  pub small : (count r : ℕ) → 39 ≤ count → r ≡ closest (full_of m) (2 ^ count) → r ≤ 2 ^ 24
  small count r C e = rw e (closest_le (full_of m) low_full high_full count C)

  moved : m * 2 ^ free_of m * 2 ^ (at - free_of m) ≡ m * 2 ^ at
  moved =
      mul_assoc m (2 ^ free_of m) (2 ^ (at - free_of m))
      ∙ ap (λ (z : ℕ). m * z) (sym (pow-add 2 (free_of m) (at - free_of m)) ∙ ap (λ (z : ℕ). 2 ^ z) (let e : free_of m + (at - free_of m) ≡ at = omega (arith, free_le, A) in e))

  same_scaled : nearest_word binary32 s (full_of m * 2 ^ (at - free_of m)) (2 ^ 300) ≡ scaled_word binary32 s m at
  unfolding scaled_word
  same_scaled = ap (λ (n : ℕ). nearest_word binary32 s n (2 ^ 300)) (ap (λ (z : ℕ). z * 2 ^ (at - free_of m)) full.exact ∙ moved)

  pub scaled_none : (b : ℕ) → b ≡ sign_bit binary32 s → at - free_of m ≤ 261 → 63 < 300 - (at - free_of m) → b ≡ scaled_word binary32 s m at
  scaled_none b e h c =
      e
      ∙ sym (no_word (full_of m) low_full high_full s (at - free_of m) (300 - (at - free_of m)) 300 (back (at - free_of m) h) (le_trans (lit≤ tt) c) c)
      ∙ same_scaled

  pub scaled_low : (b r : ℕ) → b ≡ sign_bit binary32 s → at - free_of m ≤ 261 → r ≡ closest (full_of m) (2 ^ (300 - (at - free_of m))) → b + r ≡ scaled_word binary32 s m at
  scaled_low b r e h i =
      rw (e, i) (sym (low_word (full_of m) low_full high_full s (at - free_of m) (300 - (at - free_of m)) 300 (back (at - free_of m) h) (more (at - free_of m) h)) ∙ same_scaled)
    where
      more : (z : ℕ) → z ≤ 261 → 39 ≤ 300 - z
      more z h = omega arith

  module _ (b r : ℕ) (e : b ≡ sign_bit binary32 s) (h : 261 < at - free_of m) (i : r ≡ closest (full_of m) (2 ^ 39)) where
    over : (z : ℕ) → 261 < z → 39 + z ≡ z - 261 + 300
    over z h = omega arith

    pub scaled_high : (at - free_of m - 261) * 8388608 + r < 2139095040 → b + ((at - free_of m - 261) * 8388608 + r) ≡ scaled_word binary32 s m at
    scaled_high l =
        rw (e, i) (sym (high_word (full_of m) low_full high_full s (at - free_of m) (at - free_of m - 261) 300 (over (at - free_of m) h) (rw i at l)) ∙ same_scaled)

    pub scaled_inf : 2139095040 ≤ (at - free_of m - 261) * 8388608 + r → b + 2139095040 ≡ scaled_word binary32 s m at
    scaled_inf l =
        rw e (sym (inf_word_is (full_of m) low_full high_full s (at - free_of m) (at - free_of m - 261) 300 (over (at - free_of m) h) (rw i at l)) ∙ same_scaled)

pub sign_small : (s : Bool) (b : ℕ) → b ≡ sign_bit binary32 s → b ≤ 2147483648
sign_small true b e = omega (arith, e)
sign_small false b e = omega (arith, e)
