-- sqrt's answer, squared, lies from 1 - 1 / 2 ^ (prec f - 1) to 9/8 of a positive normal operand. Assumes nothing.
use Prim.Native.Nat.{ℕ, suc, ◌+◌, ◌-◌, ◌*◌, ◌/◌, ◌^◌, ◌≤◌, ◌<◌}
use native.Mathlib.Nat.{mul-le-mul, mul-le-mul_left, mul-le-mul_right, mul-add-div, le_of_lt}
use native.Mathlib.Omega.{arith}
use mathlib.Core.Path.{◌≡◌, refl, sym, ap, ◌∙◌}
use mathlib.Core.Logic.{inl, inr}
use mathlib.Core.Bool.{Bool, true, false, cond, false≢true}
use lib.Dec.{lit<}
use lib.Pow.{pow-add, suc_ones}
use lib.Ieee.{Format, binary32, binary64, prec, emax, low, hid, lt, eq, le, of_bits}
use Rattle.format.specs.Fields.{inf_word, one_word}
use Rattle.format.specs.Value.{units, Finite}
use Rattle.format.specs.Classes.{is_zero}
use Rattle.format.specs.Estimates.{sqrt_word, Normal, SqrtBound}
use Rattle.format.proofs.Order.{rearranged, squares}
use Rattle.format.proofs.Classes.{zero_bound}
use Rattle.format.proofs.Halved.{halved_up}
use Rattle.format.proofs.Normal.{finite_below, unsigned_below, units_of, pairs, rest, rest_lt, weight, word_by_twos, ByTwos, units_by_twos}

-- ---- over plain numbers

-- the significands, s the operand's and b the answer's, where h is the leading digit's weight and n one less
abbrev Squared : ℕ → ℕ → ℕ → ℕ → Type 0
Squared n h s b = (s * n ≤ b * b) × (8 * (b * b) ≤ 9 * (s * h))

module _ (n h t q : ℕ) (next : suc n ≡ h) (half : q ≡ t / 2) where
  twice_half : 2 * q ≤ t
  twice_half = omega arith

  near_half : t * n ≤ (2 * q + 1) * n
  near_half = mul-le-mul_right n (omega arith)

  lower_field : t ≤ h → Squared n h (h + t) (h + q)
  lower_field l =
      let a : t ≤ suc n = omega arith in
      let b : 2 * q * (2 * q) ≤ t * suc n = mul-le-mul twice_half (omega (arith, twice_half)) in
      rw (← next) (omega (arith, near_half), omega (arith, b, mul-le-mul_right (suc n) twice_half, mul-le-mul_right (suc n) a))

  upper_field : h ≤ t → t < 2 * h → Squared n h (2 * t) (h + q)
  upper_field l k =
      let a : suc n ≤ t = omega arith in
      let b : t ≤ 4 * suc n = omega arith in
      let c = mul-le-mul twice_half twice_half in
      rw (← next) (omega (arith, near_half, squares n q), omega (arith, c, mul-le-mul_right (suc n) twice_half, rearranged a b))

-- with their weights: p * p the operand's, p * c the answer's, and c * c that of 1
weighed : (n h s b x v k p c : ℕ) → x ≡ s * (p * p) → v ≡ b * (p * c) → k ≡ h * (c * c) → Squared n h s b
    → (x * n * k ≤ v * v * h) × (8 * (v * v) ≤ 9 * (x * k))
weighed n h s b x v k p c ex ev ek r =
    rw (ex, ev, ek) (omega (arith, mul-le-mul_left (p * p * (c * c) * h) r.0), omega (arith, mul-le-mul_left (p * p * (c * c)) r.1))

-- ---- the bound

-- the bias is odd, and this is half of it
abbrev pub middle : Format → ℕ
middle f = emax f / 2

one_is : (f : Format) → one_word f ≡ suc (2 * middle f) * hid f
one_is binary32 = refl
one_is binary64 = refl

pub one_weighs : (f : Format) → 2 ^ low f ≡ hid f * (2 ^ middle f * 2 ^ middle f)
one_weighs binary32 = refl
one_weighs binary64 = refl

module _ (f : Format) (w : ℕ) (n : Normal f w) where
  sum : w + one_word f ≡ 2 * (suc (pairs f w + middle f) * hid f) + rest f w
  sum = omega (arith, word_by_twos f w n, one_is f)

  pub answer : sqrt_word f w ≡ suc (pairs f w + middle f) * hid f + rest f w / 2
  answer =
      rw (halved_up f w (le_of_lt n.below), sum)
      (mul-add-div (lit< tt) (suc (pairs f w + middle f) * hid f) (rest f w))

  pub answer_below : sqrt_word f w < inf_word f
  answer_below = omega (arith, answer, sum, one_is f)

  pub sqrt_finite : Finite f (sqrt_word f w)
  sqrt_finite = finite_below f (sqrt_word f w) answer_below

  pub sqrt_bound : SqrtBound f w (sqrt_word f w)
  sqrt_bound = by_field (units_by_twos f w n)
    where
      v : units f (sqrt_word f w) ≡ (hid f + rest f w / 2) * (2 ^ pairs f w * 2 ^ middle f)
      v =
          units_of f (sqrt_word f w) (pairs f w + middle f) (rest f w / 2) answer_below answer (omega (arith, rest_lt f w))
          ∙ ap (λ (k : ℕ). (hid f + rest f w / 2) * k) (pow-add 2 (pairs f w) (middle f))

      from : (s : ℕ) → units f w ≡ s * weight f w → Squared (hid f - 1) (hid f) s (hid f + rest f w / 2) → SqrtBound f w (sqrt_word f w)
      from s x r =
          let b = weighed (hid f - 1) (hid f) s (hid f + rest f w / 2) (units f w) (units f (sqrt_word f w)) (2 ^ low f) (2 ^ pairs f w) (2 ^ middle f) x v (one_weighs f) r in
          record {
            finite = sqrt_finite;
            sign = unsigned_below f w (sqrt_word f w) n.below answer_below;
            least = b.0;
            most = b.1;
          }

      by_field : ByTwos f w → SqrtBound f w (sqrt_word f w)
      by_field (inl (h, x)) = from (hid f + rest f w) x (lower_field (hid f - 1) (hid f) (rest f w) (rest f w / 2) (suc_ones (prec f - 1)) refl h)
      by_field (inr (h, x)) = from (2 * rest f w) x (upper_field (hid f - 1) (hid f) (rest f w) (rest f w / 2) (suc_ones (prec f - 1)) refl h (rest_lt f w))

-- a guarded root: a zero is its own, and any other number has to be normal
pub root_bound : (f : Format) (w : ℕ) → (is_zero f w ≡ false → Normal f w) → SqrtBound f w (cond (is_zero f w) w (sqrt_word f w))
root_bound f w n = go (is_zero f w) refl
  where
    go : (z : Bool) → is_zero f w ≡ z → SqrtBound f w (cond z w (sqrt_word f w))
    go true e = zero_bound f w e
    go false e = sqrt_bound f w (n e)

-- 9/8 is reached, at 2
pub sqrt_of_two : 8 * (units binary32 (sqrt_word binary32 0x4000_0000) * units binary32 (sqrt_word binary32 0x4000_0000)) ≡ 9 * (units binary32 0x4000_0000 * 2 ^ 149)
unfolding le lt eq of_bits
sqrt_of_two = refl

-- an answer of the other sign is none
pub sqrt_not_turned : SqrtBound binary32 0x4080_0000 0xc000_0000 → ⊥
sqrt_not_turned b = false≢true (sym b.sign)

-- past the positive normal numbers, at binary32: +0, -0, the infinity, a number below 0 and a NaN
pub sqrt_of_zero : sqrt_word binary32 0x0000_0000 ≡ 0x1fc0_0000
unfolding le lt eq of_bits
sqrt_of_zero = refl

pub sqrt_of_minus_zero : sqrt_word binary32 0x8000_0000 ≡ 0x5fc0_0000
unfolding le lt eq of_bits
sqrt_of_minus_zero = refl

pub sqrt_of_infinity : sqrt_word binary32 0x7f80_0000 ≡ 0x5f80_0000
unfolding le lt eq of_bits
sqrt_of_infinity = refl

pub sqrt_of_minus_one : sqrt_word binary32 0xbf80_0000 ≡ 0x7fc0_0000
unfolding le lt eq of_bits
sqrt_of_minus_one = refl

pub sqrt_of_nan : sqrt_word binary32 0x7f80_0001 ≡ 0x7fc0_0000
unfolding le lt eq of_bits
sqrt_of_nan = refl
