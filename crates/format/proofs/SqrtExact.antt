-- sqrt is exact at each normal even power of two: the root of 2 ^ (2 * k) is 2 ^ k. Assumes nothing.
use Prim.Native.Nat.{ℕ, suc, ◌+◌, ◌*◌, ◌/◌, ◌^◌, ◌≤◌, ◌<◌}
use native.Mathlib.Nat.{le_trans, le_of_eq, le_antisymm, mul-le-mul, mul-le-mul_right, mul-pos, mul-lt-mul_of_pos_right, mul-mul-mul_comm, add-zero, eq_of_mul-eq-mul_right, two-mul, pow-succ'}
use native.Mathlib.Omega.{arith}
use mathlib.Core.Path.{◌≡◌, refl, sym, ap, ◌∙◌}
use mathlib.Core.Logic.{◌⊎◌, inl, inr}
use mathlib.Core.List.{[], ◌∷◌, map}
use borrow.Author.Tests.{eqb-false}
use lib.Dec.{lit<, lit≤}
use lib.Pow.{pow-add, pow_pos, pow_mono}
use lib.Ieee.{Format, binary32, binary64, low, hid, lt, eq, le, of_bits}
use Rattle.format.specs.Value.{units}
use Rattle.format.specs.Estimates.{sqrt_word, Normal}
use Rattle.format.specs.Ordered.{Power, EvenPower, Squares}
use Rattle.format.proofs.Fields.{hid_pos}
use Rattle.format.proofs.Order.{either}
use Rattle.format.proofs.Normal.{units_of, pairs, rest, rest_lt, weight, ByTwos, units_by_twos}
use Rattle.format.proofs.Sqrt.{middle, one_weighs, answer, answer_below}

-- ---- over plain numbers: s from h to below 4 * h, times a square of a power of two, is h times another only where both are the same

square_of : (k : ℕ) → 2 ^ (2 * k) ≡ 2 ^ k * 2 ^ k
square_of k = ap (λ (n : ℕ). 2 ^ n) (two-mul k) ∙ pow-add 2 k k

twice_at_least : (a b : ℕ) → a < b → 2 * 2 ^ a ≤ 2 ^ b
twice_at_least a b l = le_trans (le_of_eq (sym (pow-succ' 2 a))) (pow_mono l)

module _ (h s a b : ℕ) (H : 0 < h) (least : h ≤ s) (most : s < 4 * h) (e : s * (2 ^ a * 2 ^ a) ≡ h * (2 ^ b * 2 ^ b)) where
  not_less : a < b → ⊥
  not_less l =
      let p = mul-le-mul (twice_at_least a b l) (twice_at_least a b l) in
      let q : 4 * (2 ^ a * 2 ^ a) * h ≤ 2 ^ b * 2 ^ b * h = mul-le-mul_right h (omega (arith, p)) in
      let r : s * (2 ^ a * 2 ^ a) < 4 * h * (2 ^ a * 2 ^ a) = mul-lt-mul_of_pos_right most (mul-pos (pow_pos a) (pow_pos a)) in
      omega arith

  not_more : b < a → ⊥
  not_more l =
      let p = mul-le-mul (twice_at_least b a l) (twice_at_least b a l) in
      let q : h * (4 * (2 ^ b * 2 ^ b)) ≤ s * (2 ^ a * 2 ^ a) = mul-le-mul least (omega (arith, p)) in
      let r : 0 < h * (2 ^ b * 2 ^ b) = mul-pos H (mul-pos (pow_pos b) (pow_pos b)) in
      omega arith

  same_power : a ≡ b
  same_power = go (either a b) (either b a)
    where
      go : (a ≤ b) ⊎ (b < a) → (b ≤ a) ⊎ (a < b) → a ≡ b
      go (inl k) (inl l) = le_antisymm k l
      go (inl k) (inr l) = absurd (not_less l)
      go (inr k) l = absurd (not_more k)

  same_both : (a ≡ b) × (s ≡ h)
  same_both = (same_power, eq_of_mul-eq-mul_right (2 ^ a * 2 ^ a) (mul-pos (pow_pos a) (pow_pos a)) s h (e ∙ ap (λ (k : ℕ). h * (2 ^ k * 2 ^ k)) (sym same_power)))

-- an even power's units, over squares
by_squares : (f : Format) (i j w : ℕ) → EvenPower f i j w → units f w * (2 ^ j * 2 ^ j) ≡ 2 ^ i * 2 ^ i * 2 ^ low f
by_squares f i j w p = rw (square_of i, square_of j) at p.value

-- ---- the word: its field counted in twos is i - j and half the bias, and nothing is left over

module _ (f : Format) (i j w : ℕ) (p : EvenPower f i j w) where
  n : Normal f w
  n = p.normal

  from_digits : (s : ℕ) → units f w ≡ s * weight f w → s * (2 ^ (pairs f w + j) * 2 ^ (pairs f w + j)) ≡ hid f * (2 ^ (i + middle f) * 2 ^ (i + middle f))
  from_digits s x =
      rw (pow-add 2 (pairs f w) j, pow-add 2 i (middle f)) (omega (arith, rw (x, one_weighs f) at (by_squares f i j w p)))

  record Even : Type 0 where
    field : pairs f w + j ≡ i + middle f
    over : rest f w ≡ 0

  even : Even
  even = go (units_by_twos f w n)
    where
      go : ByTwos f w → Even
      go (inl (l, x)) =
          let d = same_both (hid f) (hid f + rest f w) (pairs f w + j) (i + middle f) (hid_pos f) (omega arith) (omega (arith, hid_pos f)) (from_digits (hid f + rest f w) x) in
          record { field = d.0; over = omega arith }
      go (inr (l, x)) =
          let d = same_both (hid f) (2 * rest f w) (pairs f w + j) (i + middle f) (hid_pos f) (omega arith) (omega (arith, rest_lt f w)) (from_digits (2 * rest f w) x) in
          absurd (let z : ⊥ = omega (arith, hid_pos f) in z)

  root_is : sqrt_word f w ≡ suc (pairs f w + middle f) * hid f + 0
  root_is = answer f w n ∙ ap (λ (k : ℕ). suc (pairs f w + middle f) * hid f + k / 2) even.over

  root_units : units f (sqrt_word f w) ≡ hid f * 2 ^ (pairs f w + middle f)
  root_units = units_of f (sqrt_word f w) (pairs f w + middle f) 0 (answer_below f w n) root_is (hid_pos f) ∙ ap (λ (k : ℕ). k * 2 ^ (pairs f w + middle f)) (add-zero (hid f))

  root_power : Power f i j (sqrt_word f w)
  root_power =
      let e : 2 ^ pairs f w * 2 ^ j ≡ 2 ^ i * 2 ^ middle f = sym (pow-add 2 (pairs f w) j) ∙ ap (λ (k : ℕ). 2 ^ k) even.field ∙ pow-add 2 i (middle f) in
      record {
        normal = record { above = omega (arith, root_is); below = answer_below f w n };
        value = rw (root_units, pow-add 2 (pairs f w) (middle f), one_weighs f) (omega (arith, ap (λ (k : ℕ). hid f * 2 ^ middle f * k) e));
      }

-- ---- the laws

pub sqrt_of_power : (f : Format) (i j w : ℕ) → EvenPower f i j w → Power f i j (sqrt_word f w)
sqrt_of_power f i j w p = root_power f i j w p

pub sqrt_exact : (f : Format) (i j w : ℕ) → EvenPower f i j w → Squares f (sqrt_word f w) w
sqrt_exact f i j w p =
    let r = sqrt_word f w in
    let x : units f r * 2 ^ j ≡ 2 ^ i * 2 ^ low f = (sqrt_of_power f i j w p).value in
    eq_of_mul-eq-mul_right (2 ^ j * 2 ^ j) (mul-pos (pow_pos j) (pow_pos j)) (units f r * units f r) (units f w * 2 ^ low f)
    (mul-mul-mul_comm (units f r) (units f r) (2 ^ j) (2 ^ j) ∙ ap (λ (k : ℕ). k * k) x ∙ omega (arith, ap (λ (k : ℕ). k * 2 ^ low f) (by_squares f i j w p)))

-- ---- known words

-- both ends of the normal even powers, 2 ^ -126 and 2 ^ 126, or 2 ^ -1022 and 2 ^ 1022, and 1 and 4
pub roots : (map (sqrt_word binary32) (0x0080_0000 ∷ 0x7e80_0000 ∷ 0x3f80_0000 ∷ 0x4080_0000 ∷ []) ≡ 0x2000_0000 ∷ 0x5f00_0000 ∷ 0x3f80_0000 ∷ 0x4000_0000 ∷ [])
    × (map (sqrt_word binary64) (0x0010_0000_0000_0000 ∷ 0x7fd0_0000_0000_0000 ∷ 0x3ff0_0000_0000_0000 ∷ 0x4010_0000_0000_0000 ∷ [])
    ≡ 0x2000_0000_0000_0000 ∷ 0x5fe0_0000_0000_0000 ∷ 0x3ff0_0000_0000_0000 ∷ 0x4000_0000_0000_0000 ∷ [])
unfolding le lt eq of_bits
roots = (refl, refl)

-- the same words are even powers
pub even_powers : EvenPower binary32 0 63 0x0080_0000 × EvenPower binary32 63 0 0x7e80_0000 × EvenPower binary32 0 0 0x3f80_0000 × EvenPower binary32 1 0 0x4080_0000
    × EvenPower binary64 0 511 0x0010_0000_0000_0000 × EvenPower binary64 511 0 0x7fd0_0000_0000_0000 × EvenPower binary64 0 0 0x3ff0_0000_0000_0000 × EvenPower binary64 1 0 0x4010_0000_0000_0000
even_powers = (
  record { normal = record { above = lit≤ tt; below = lit< tt }; value = refl },
  record { normal = record { above = lit≤ tt; below = lit< tt }; value = refl },
  record { normal = record { above = lit≤ tt; below = lit< tt }; value = refl },
  record { normal = record { above = lit≤ tt; below = lit< tt }; value = refl },
  record { normal = record { above = lit≤ tt; below = lit< tt }; value = refl },
  record { normal = record { above = lit≤ tt; below = lit< tt }; value = refl },
  record { normal = record { above = lit≤ tt; below = lit< tt }; value = refl },
  record { normal = record { above = lit≤ tt; below = lit< tt }; value = refl },
)

-- sqrt is not exact at 2 and 2 ^ 127, whose powers are odd, nor at 2 ^ -128, which is too small to be normal
pub no_roots : (Squares binary32 (sqrt_word binary32 0x4000_0000) 0x4000_0000 → ⊥)
    × (Squares binary32 (sqrt_word binary32 0x7f00_0000) 0x7f00_0000 → ⊥)
    × (Squares binary32 (sqrt_word binary32 0x0020_0000) 0x0020_0000 → ⊥)
unfolding le lt eq of_bits
no_roots = (eqb-false _ _ refl, eqb-false _ _ refl, eqb-false _ _ refl)

-- so these are no normal even powers
pub no_even_powers : (i j : ℕ) → (EvenPower binary32 i j 0x4000_0000 → ⊥) × (EvenPower binary32 i j 0x7f00_0000 → ⊥) × (EvenPower binary32 i j 0x0020_0000 → ⊥)
no_even_powers i j = (
  λ p. no_roots.0 (sqrt_exact binary32 i j 0x4000_0000 p),
  λ p. no_roots.1 (sqrt_exact binary32 i j 0x7f00_0000 p),
  λ p. no_roots.2 (sqrt_exact binary32 i j 0x0020_0000 p),
)
