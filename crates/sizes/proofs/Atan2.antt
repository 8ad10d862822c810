-- atan2's answer is a number, not a NaN, for operands up to 2 ^ 62 of which one is 2 ^ -60 at least: the larger square keeps what is below the line
-- from 0, and nothing above it overflows. Assumes nothing.
use Prim.Native.Nat.{ℕ, ◌^◌, ◌≤◌, ◌<◌}
use native.Mathlib.Omega.{arith}
use mathlib.Core.Path.{◌≡◌}
use mathlib.Core.Logic.{◌⊎◌, inl, inr}
use mathlib.Core.Bool.{Bool, true, false, cond}
use lib.Dec.{T, lit<}
use lib.IntN.{pos}
use lib.Ieee.{Float, binary32, unlike, sub, mul, lt, is_nan, nan_bits, of_bits, to_bits, of_int}
use lib.Ieee.Fits.{mul-fits, div-fits}
use lib.Ieee.Scale.{finite}
use Rattle.format.specs.Fields.{negative, magnitude}
use Rattle.format.proofs.Nan.{finite_number}
use Rattle.float.specs.Engine.{ieee, abs_of}
use Rattle.float.specs.Atan.{sign_or}
use Rattle.float.specs.Atan2.{offset, ratio, quarters, within_half, atan2_word}
use Rattle.float.proofs.Signs.{offset_one_of}
use Rattle.sizes.proofs.Size.{AtMost, AtLeast, NotNegative, mul_at_most, mul_at_least, add_at_most, square_not_negative}
use Rattle.sizes.proofs.Words.{constant, word_at_most, word_at_least, at_most_number, number_word, abs_at_most}
use Rattle.sizes.proofs.Numbers.{add_number_left, sub_number, div_number}
use Rattle.sizes.proofs.Quotient.{abs_not_negative, bottom, by_first, by_last, sign_or_number, read_number, half_turns}

-- ---- the steps after the quotient

pub offset_finite : (y x : ℕ) → T (finite (of_int binary32 (pos (offset y x))))
unfolding of_int
offset_finite y x = go (offset y x) (offset_one_of y x)
  where
    go : (n : ℕ) → (n ≡ 0) ⊎ ((n ≡ 2) ⊎ (n ≡ 4)) → T (finite (of_int binary32 (pos n)))
    go n (inl e) = rw e tt
    go n (inr (inl e)) = rw e tt
    go n (inr (inr e)) = rw e tt

pub within_number : (q : Float) → is_nan q ≡ false → is_nan (within_half q) ≡ false
within_number q h = go (lt (of_bits binary32 0x4000_0000) q)
  where
    go : (b : Bool) → is_nan (cond b (sub binary32 q (of_bits binary32 0x4080_0000)) q) ≡ false
    go true = sub_number binary32 q (of_bits binary32 0x4080_0000) h (constant binary32 0x4080_0000 tt).finite
    go false = h

-- ---- the quotient

module _ (y x : ℕ) (ym : magnitude binary32 y ≤ 0x5e80_0000) (xm : magnitude binary32 x ≤ 0x5e80_0000) where
  abbrev Y : Float
  Y = of_bits binary32 y

  abbrev X : Float
  X = of_bits binary32 x

  y_at_most : AtMost binary32 0x5e80_0000 Y
  y_at_most = word_at_most binary32 y 0x5e80_0000 (lit< tt) ym

  x_at_most : AtMost binary32 0x5e80_0000 X
  x_at_most = word_at_most binary32 x 0x5e80_0000 (lit< tt) xm

  -- 0.596227 * x * y, whose size is b
  abbrev between : Float
  between = mul binary32 (mul binary32 (of_bits binary32 0x3f18_a255) X) Y

  middle_at_most : AtMost binary32 0x7d80_0000 between
  middle_at_most = mul_at_most 0x7d80_0000 (mul_at_most 0x5e80_0000 (constant binary32 0x3f18_a255 tt) x_at_most tt) y_at_most tt

  middle : NotNegative (abs_of ieee between)
  middle = abs_not_negative _ (mul-fits binary32 _ _) (at_most_number middle_at_most)

  x_square : NotNegative (mul binary32 X X)
  x_square = square_not_negative binary32 X (at_most_number x_at_most)

  y_square : NotNegative (mul binary32 Y Y)
  y_square = square_not_negative binary32 Y (at_most_number y_at_most)

  -- 0x0380_0000 is 2 ^ -120
  ratio_over : AtLeast binary32 0x0380_0000 (bottom x_square middle y_square) → is_nan (ratio Y X) ≡ false
  ratio_over d =
      let n = add_at_most 0x7e00_0000 (abs_at_most (mul-fits binary32 _ _) middle_at_most) (mul_at_most 0x7d80_0000 y_at_most y_at_most tt) tt in
      div_number binary32 0x0380_0000 _ _ n.finite d (lit< tt)

  pub ratio_number : (0x2180_0000 ≤ magnitude binary32 y) ⊎ (0x2180_0000 ≤ magnitude binary32 x) → is_nan (ratio Y X) ≡ false
  ratio_number (inl h) =
      let l = word_at_least binary32 y 0x2180_0000 (finite_number binary32 y (omega arith)) h in
      ratio_over (by_last x_square middle y_square (mul_at_least 0x0380_0000 l l tt) (lit< tt))
  ratio_number (inr h) =
      let l = word_at_least binary32 x 0x2180_0000 (finite_number binary32 x (omega arith)) h in
      ratio_over (by_first x_square middle y_square (mul_at_least 0x0380_0000 l l tt) (lit< tt))

  quarters_number : is_nan (ratio Y X) ≡ false → is_nan (quarters y x) ≡ false
  unfolding quarters
  quarters_number h =
      let s = unlike (negative binary32 x) (negative binary32 y) in
      let r = to_bits binary32 (ratio Y X) in
      add_number_left binary32 _ _ (offset_finite y x)
      (read_number (sign_or s r) (sign_or_number s r (number_word binary32 (ratio Y X) (div-fits binary32 _ _) h)))

pub atan2_number : (y x : ℕ) → y < 2 ^ 32 → x < 2 ^ 32 → magnitude binary32 y ≤ 0x5e80_0000 → magnitude binary32 x ≤ 0x5e80_0000
    → (0x2180_0000 ≤ magnitude binary32 y) ⊎ (0x2180_0000 ≤ magnitude binary32 x) → nan_bits binary32 (atan2_word y x) ≡ false
unfolding atan2_word
atan2_number y x yl xl ym xm h =
    number_word binary32 _ (mul-fits binary32 _ _) (half_turns _ (within_number (quarters y x) (quarters_number y x ym xm (ratio_number y x ym xm h))))
