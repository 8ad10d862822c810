-- Worked examples as tables, with rows on both sides of each case of the definitions, and one test of each table that every row's word is the one
-- expected; and words that the definition of rounding rules out. Assumes nothing.
use Prim.Native.Nat.{ℕ, ◌-◌, ◌*◌, ◌^◌}
use native.Mathlib.Omega.{arith}
use mathlib.Core.Bool.{true, false}
use mathlib.Core.List.{List, [], ◌∷◌}
use mathlib.Core.Path.{◌≡◌, refl}
use lib.Dec.{lit<}
use lib.Ieee.{binary32, add, sub, mul, div, sum, neg, round, units, nan_bits, of_bits, to_bits}
use Rattle.float.proofs.Rows.{Row, ◌gives◌, agree}
use Rattle.soft.specs.Rounding.{infinity, past, Rounded}
use Rattle.soft.specs.Words.{add_word, sub_word, mul_word, div_word, one_nan}
use Rattle.soft.specs.Digits.{digits_of, places_of, nearest_word, scaled_word}
use Rattle.soft.proofs.Correct.{rounded_only}

abbrev pub sums : List Row
sums =
    -- a tie to the even fraction, and beside it
    add_word binary32 0x3f80_0000 0x3380_0000 gives 0x3f80_0000
    ∷ add_word binary32 0x3f80_0001 0x3380_0000 gives 0x3f80_0002
    ∷ add_word binary32 0x3f80_0000 0x3380_0001 gives 0x3f80_0001
    ∷ add_word binary32 0x3f80_0001 0x337f_ffff gives 0x3f80_0001
    -- the largest: half a step more is an infinity, and less is not
    ∷ add_word binary32 0x7f7f_ffff 0x7300_0000 gives 0x7f80_0000
    ∷ add_word binary32 0x7f7f_ffff 0x72ff_ffff gives 0x7f7f_ffff
    ∷ add_word binary32 0xff7f_ffff 0xf300_0000 gives 0xff80_0000
    ∷ add_word binary32 0xff7f_ffff 0xf2ff_ffff gives 0xff7f_ffff
    -- small numbers, and a carry out of them
    ∷ add_word binary32 0x0000_0001 0x0000_0001 gives 0x0000_0002
    ∷ add_word binary32 0x007f_ffff 0x0000_0001 gives 0x0080_0000
    ∷ add_word binary32 0x807f_ffff 0x8000_0001 gives 0x8080_0000
    ∷ add_word binary32 0x00ff_ffff 0x0000_0001 gives 0x0100_0000
    -- zeros: -0 of two of them alone
    ∷ add_word binary32 0x8000_0000 0x8000_0000 gives 0x8000_0000
    ∷ add_word binary32 0x0000_0000 0x8000_0000 gives 0x0000_0000
    ∷ add_word binary32 0x8000_0000 0x0000_0000 gives 0x0000_0000
    ∷ add_word binary32 0x0000_0000 0x0000_0000 gives 0x0000_0000
    ∷ add_word binary32 0x4049_0fdb 0xc049_0fdb gives 0x0000_0000
    ∷ add_word binary32 0xc049_0fdb 0x4049_0fdb gives 0x0000_0000
    ∷ add_word binary32 0x8000_0000 0x8000_0001 gives 0x8000_0001
    ∷ add_word binary32 0x0000_0000 0x3f80_0000 gives 0x3f80_0000
    -- of unlike signs, the larger first and second
    ∷ add_word binary32 0x3f80_0000 0xbf00_0000 gives 0x3f00_0000
    ∷ add_word binary32 0x3f80_0000 0xc000_0000 gives 0xbf80_0000
    ∷ add_word binary32 0xbf80_0000 0x3f00_0000 gives 0xbf00_0000
    ∷ add_word binary32 0xbf80_0000 0x4000_0000 gives 0x3f80_0000
    ∷ add_word binary32 0x3f80_0000 0xb380_0000 gives 0x3f7f_ffff
    ∷ add_word binary32 0x3f80_0000 0xb300_0000 gives 0x3f80_0000
    ∷ add_word binary32 0x3f80_0000 0xb300_0001 gives 0x3f7f_ffff
    -- 38 places apart, 39, and all of them
    ∷ add_word binary32 0x5280_0000 0x3f80_0000 gives 0x5280_0000
    ∷ add_word binary32 0x5300_0000 0x3f80_0000 gives 0x5300_0000
    ∷ add_word binary32 0x5300_0000 0xbf80_0000 gives 0x5300_0000
    ∷ add_word binary32 0x7f7f_ffff 0x0000_0001 gives 0x7f7f_ffff
    ∷ add_word binary32 0x0000_0001 0x7f7f_ffff gives 0x7f7f_ffff
    ∷ add_word binary32 0x7f7f_ffff 0x8000_0001 gives 0x7f7f_ffff
    -- infinities and NaNs
    ∷ add_word binary32 0x7f80_0000 0x7f80_0000 gives 0x7f80_0000
    ∷ add_word binary32 0xff80_0000 0xff80_0000 gives 0xff80_0000
    ∷ add_word binary32 0x7f80_0000 0xff80_0000 gives 0x7fc0_0000
    ∷ add_word binary32 0xff80_0000 0x7f80_0000 gives 0x7fc0_0000
    ∷ add_word binary32 0x7f80_0000 0xff7f_ffff gives 0x7f80_0000
    ∷ add_word binary32 0xff80_0000 0x0000_0000 gives 0xff80_0000
    ∷ add_word binary32 0x7f7f_ffff 0xff80_0000 gives 0xff80_0000
    ∷ add_word binary32 0x8000_0000 0x7f80_0000 gives 0x7f80_0000
    ∷ add_word binary32 0x7f80_0001 0x3f80_0000 gives 0x7fc0_0000
    ∷ add_word binary32 0x3f80_0000 0xffff_ffff gives 0x7fc0_0000
    ∷ add_word binary32 0xffc0_0000 0x7f80_0000 gives 0x7fc0_0000
    -- less itself, zeros, a small number, an infinity and a NaN
    ∷ sub_word binary32 0x4049_0fdb 0x4049_0fdb gives 0x0000_0000
    ∷ sub_word binary32 0x8000_0000 0x8000_0000 gives 0x0000_0000
    ∷ sub_word binary32 0x8000_0000 0x0000_0000 gives 0x8000_0000
    ∷ sub_word binary32 0x0000_0000 0x8000_0000 gives 0x0000_0000
    ∷ sub_word binary32 0x0000_0000 0x0000_0000 gives 0x0000_0000
    ∷ sub_word binary32 0x0080_0000 0x0000_0001 gives 0x007f_ffff
    ∷ sub_word binary32 0x3f80_0000 0x4000_0000 gives 0xbf80_0000
    ∷ sub_word binary32 0x7f80_0000 0x7f80_0000 gives 0x7fc0_0000
    ∷ sub_word binary32 0x7f80_0000 0xff80_0000 gives 0x7f80_0000
    ∷ sub_word binary32 0x3f80_0000 0xff80_0000 gives 0x7f80_0000
    ∷ sub_word binary32 0x3f80_0000 0xffc0_0001 gives 0x7fc0_0000
    ∷ sub_word binary32 0x7fc0_0001 0xffc0_0001 gives 0x7fc0_0000
    ∷ []

pub sums_agree : agree sums ≡ true
unfolding add_word sub_word add sub sum neg round units of_bits to_bits
sums_agree = refl

abbrev pub products : List Row
products =
    -- below the normal numbers: half of the smallest, one and a half, three quarters
    mul_word binary32 0x0000_0001 0x3f00_0000 gives 0x0000_0000
    ∷ mul_word binary32 0x8000_0001 0x3f00_0000 gives 0x8000_0000
    ∷ mul_word binary32 0x0000_0003 0x3f00_0000 gives 0x0000_0002
    ∷ mul_word binary32 0x0000_0001 0x3f40_0000 gives 0x0000_0001
    ∷ mul_word binary32 0x0000_0001 0x3f00_0001 gives 0x0000_0001
    ∷ mul_word binary32 0x0000_0001 0x3eff_ffff gives 0x0000_0000
    ∷ mul_word binary32 0x0080_0000 0x3f00_0000 gives 0x0040_0000
    ∷ mul_word binary32 0x00ff_ffff 0x3f00_0000 gives 0x0080_0000
    -- ties among the normal numbers, signs, and the largest
    ∷ mul_word binary32 0x3f80_0001 0x3fc0_0000 gives 0x3fc0_0002
    ∷ mul_word binary32 0x3f80_0003 0x3fc0_0000 gives 0x3fc0_0004
    ∷ mul_word binary32 0x3f80_0001 0xbf80_0001 gives 0xbf80_0002
    ∷ mul_word binary32 0xc049_0fdb 0xc049_0fdb gives 0x411d_e9e7
    ∷ mul_word binary32 0x7f7f_ffff 0x3f80_0001 gives 0x7f80_0000
    ∷ mul_word binary32 0x7f7f_ffff 0x3f80_0000 gives 0x7f7f_ffff
    ∷ mul_word binary32 0xff7f_ffff 0x7f7f_ffff gives 0xff80_0000
    ∷ mul_word binary32 0x7f7f_ffff 0x0000_0001 gives 0x34ff_ffff
    ∷ mul_word binary32 0x0000_0000 0xbf80_0000 gives 0x8000_0000
    ∷ mul_word binary32 0x8000_0000 0x8000_0000 gives 0x0000_0000
    -- infinities and NaNs
    ∷ mul_word binary32 0x7f80_0000 0x0000_0000 gives 0x7fc0_0000
    ∷ mul_word binary32 0x8000_0000 0xff80_0000 gives 0x7fc0_0000
    ∷ mul_word binary32 0x7f80_0000 0xbf80_0000 gives 0xff80_0000
    ∷ mul_word binary32 0x8000_0001 0x7f80_0000 gives 0xff80_0000
    ∷ mul_word binary32 0xff80_0000 0xff80_0000 gives 0x7f80_0000
    ∷ mul_word binary32 0x7f80_0001 0x0000_0000 gives 0x7fc0_0000
    ∷ mul_word binary32 0x0000_0000 0xff80_0001 gives 0x7fc0_0000
    ∷ []

pub products_agree : agree products ≡ true
unfolding mul_word mul round units of_bits to_bits
products_agree = refl

abbrev pub quotients : List Row
quotients =
    -- what is left over, and nothing left over
    div_word binary32 0x3f80_0000 0x4040_0000 gives 0x3eaa_aaab
    ∷ div_word binary32 0x4120_0000 0x4040_0000 gives 0x4055_5555
    ∷ div_word binary32 0x40c0_0000 0x4040_0000 gives 0x4000_0000
    ∷ div_word binary32 0xbf80_0000 0x3f80_0001 gives 0xbf7f_fffe
    ∷ div_word binary32 0x3f80_0001 0x3f80_0000 gives 0x3f80_0001
    -- small dividends and divisors: ties, and quotients of few digits
    ∷ div_word binary32 0x0000_0001 0x3f00_0001 gives 0x0000_0002
    ∷ div_word binary32 0x0000_0001 0x7f7f_ffff gives 0x0000_0000
    ∷ div_word binary32 0x0000_0001 0x4000_0000 gives 0x0000_0000
    ∷ div_word binary32 0x0000_0003 0x4000_0000 gives 0x0000_0002
    ∷ div_word binary32 0x0000_0001 0x3fff_ffff gives 0x0000_0001
    ∷ div_word binary32 0x8000_0001 0x4000_0000 gives 0x8000_0000
    ∷ div_word binary32 0x0000_0001 0x0000_0003 gives 0x3eaa_aaab
    ∷ div_word binary32 0x007f_ffff 0x0000_0001 gives 0x4aff_fffe
    ∷ div_word binary32 0x0080_0000 0x4000_0000 gives 0x0040_0000
    ∷ div_word binary32 0x7f7f_ffff 0x3f00_0000 gives 0x7f80_0000
    ∷ div_word binary32 0x7f7f_ffff 0x0000_0001 gives 0x7f80_0000
    -- zeros, infinities and NaNs
    ∷ div_word binary32 0x3f80_0000 0x8000_0000 gives 0xff80_0000
    ∷ div_word binary32 0x0000_0000 0x0000_0000 gives 0x7fc0_0000
    ∷ div_word binary32 0x8000_0000 0x3f80_0000 gives 0x8000_0000
    ∷ div_word binary32 0x0000_0000 0xbf80_0000 gives 0x8000_0000
    ∷ div_word binary32 0x7f80_0000 0x7f80_0000 gives 0x7fc0_0000
    ∷ div_word binary32 0xff80_0000 0x0000_0000 gives 0xff80_0000
    ∷ div_word binary32 0x7f80_0000 0x8000_0001 gives 0xff80_0000
    ∷ div_word binary32 0x3f80_0000 0xff80_0000 gives 0x8000_0000
    ∷ div_word binary32 0x8000_0000 0xff80_0000 gives 0x0000_0000
    ∷ div_word binary32 0x7fff_ffff 0x3f80_0000 gives 0x7fc0_0000
    ∷ div_word binary32 0x0000_0000 0x7f80_0001 gives 0x7fc0_0000
    ∷ []

pub quotients_agree : agree quotients ≡ true
unfolding div_word div round units of_bits to_bits
quotients_agree = refl

-- ---- what the definitions take a word for, on both sides of each test

abbrev pub readings : List Row
readings =
    -- the leading digit and the places of a small number and of normal ones
    digits_of binary32 0x807f_ffff gives 0x007f_ffff
    ∷ digits_of binary32 0x0080_0000 gives 0x0080_0000
    ∷ digits_of binary32 0x7f7f_ffff gives 0x00ff_ffff
    ∷ places_of binary32 0x007f_ffff gives 0
    ∷ places_of binary32 0x80ff_ffff gives 0
    ∷ places_of binary32 0x0100_0000 gives 1
    ∷ places_of binary32 0x7f7f_ffff gives 253
    -- infinities, and a NaN as the engine's number
    ∷ infinity binary32 false gives 0x7f80_0000
    ∷ infinity binary32 true gives 0xff80_0000
    ∷ one_nan 0x7f80_0000 gives 0x7f80_0000
    ∷ one_nan 0x7f80_0001 gives 0x7fc0_0000
    ∷ one_nan 0xff80_0000 gives 0xff80_0000
    ∷ one_nan 0xffff_ffff gives 0x7fc0_0000
    -- one unit, half of it, one and a half
    ∷ scaled_word binary32 false 1 300 gives 0x0000_0001
    ∷ scaled_word binary32 false 1 299 gives 0x0000_0000
    ∷ scaled_word binary32 true 3 299 gives 0x8000_0002
    ∷ []

pub readings_agree : agree readings ≡ true
unfolding digits_of places_of nan_bits scaled_word nearest_word round units to_bits
readings_agree = refl

-- ---- the rounding itself, of n / d units

abbrev pub roundings : List Row
roundings =
    -- nothing, half of the smallest, and beside it
    nearest_word binary32 false 0 1 gives 0x0000_0000
    ∷ nearest_word binary32 true 0 7 gives 0x8000_0000
    ∷ nearest_word binary32 false 1 2 gives 0x0000_0000
    ∷ nearest_word binary32 true 1 2 gives 0x8000_0000
    ∷ nearest_word binary32 false 1 3 gives 0x0000_0000
    ∷ nearest_word binary32 false 2 3 gives 0x0000_0001
    ∷ nearest_word binary32 false 3 2 gives 0x0000_0002
    ∷ nearest_word binary32 false 5 2 gives 0x0000_0002
    -- ties where a digit is dropped, down and up
    ∷ nearest_word binary32 false 16777217 1 gives 0x0100_0000
    ∷ nearest_word binary32 false 16777219 1 gives 0x0100_0002
    ∷ nearest_word binary32 false 33554434 1 gives 0x0180_0000
    ∷ nearest_word binary32 false 33554438 1 gives 0x0180_0002
    ∷ nearest_word binary32 false 67108893 1 gives 0x0200_0004
    -- a carry into the next exponent
    ∷ nearest_word binary32 false 16777215 1 gives 0x00ff_ffff
    ∷ nearest_word binary32 false 33554431 1 gives 0x0180_0000
    ∷ nearest_word binary32 true ((2 ^ 25 - 1) * 2 ^ 100) 1 gives 0xb380_0000
    -- past the largest: half a step more, and just below that
    ∷ nearest_word binary32 false (past binary32) 1 gives 0x7f80_0000
    ∷ nearest_word binary32 false (past binary32 - 1) 1 gives 0x7f7f_ffff
    ∷ nearest_word binary32 false (past binary32 * 3) 3 gives 0x7f80_0000
    ∷ nearest_word binary32 false (past binary32 * 3 - 1) 3 gives 0x7f7f_ffff
    ∷ nearest_word binary32 true (past binary32) 1 gives 0xff80_0000
    ∷ nearest_word binary32 true (past binary32 - 1) 1 gives 0xff7f_ffff
    ∷ nearest_word binary32 false (past binary32 * 2) 1 gives 0x7f80_0000
    ∷ []

pub roundings_agree : agree roundings ≡ true
unfolding nearest_word past round units to_bits
roundings_agree = refl

-- ruled out: an odd fraction on a tie, the further of two, the other sign, more than 32 bits, and an infinity one unit early or late
pub wrong_roundings : (Rounded binary32 false 3 2 1 → ⊥) × (Rounded binary32 false 4 3 2 → ⊥) × (Rounded binary32 true 1 2 0 → ⊥) × (Rounded binary32 true 1 2 0x1_8000_0000 → ⊥)
    × (Rounded binary32 false (past binary32 - 1) 1 0x7f80_0000 → ⊥) × (Rounded binary32 false (past binary32) 1 0x7f7f_ffff → ⊥)
unfolding nearest_word past round units to_bits
wrong_roundings = (
  (λ h. let e : ◌≡◌ {A = ℕ} 1 2 = rounded_only binary32 false 3 2 1 (lit< tt) h in omega (arith, e)),
  (λ h. let e : ◌≡◌ {A = ℕ} 2 1 = rounded_only binary32 false 4 3 2 (lit< tt) h in omega (arith, e)),
  (λ h. let e : ◌≡◌ {A = ℕ} 0 0x8000_0000 = rounded_only binary32 true 1 2 0 (lit< tt) h in omega (arith, e)),
  (λ h. let e : ◌≡◌ {A = ℕ} 0x1_8000_0000 0x8000_0000 = rounded_only binary32 true 1 2 0x1_8000_0000 (lit< tt) h in omega (arith, e)),
  (λ h. let e : ◌≡◌ {A = ℕ} 0x7f80_0000 0x7f7f_ffff = rounded_only binary32 false (past binary32 - 1) 1 0x7f80_0000 (lit< tt) h in omega (arith, e)),
  (λ h. let e : ◌≡◌ {A = ℕ} 0x7f7f_ffff 0x7f80_0000 = rounded_only binary32 false (past binary32) 1 0x7f7f_ffff (lit< tt) h in omega (arith, e)),
)
