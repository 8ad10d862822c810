-- The answers that are known word by word, by one computation over the definitions that the contracts cite: the words on both sides of
-- each test, and words that show each constant. Assumes nothing.
use Rattle.std.proofs.Common.{◌≡◌, true, List, [], ◌∷◌, pos, negsuc, refl}
use lib.Ieee.{binary32, add, sub, mul, div, rem, lt, le, eq, nan_bits, of_bits, to_bits, of_int, to_signed}
use Rattle.format.specs.Sign.{abs_word, copysign_word, turned_word, signum_word}
use Rattle.format.specs.Exponent.{set_exponent_word}
use Rattle.format.specs.Parts.{trunc_word, fract_word, written}
use Rattle.format.specs.Whole.{floor_word, ceil_word, round_word}
use Rattle.format.specs.Estimates.{sqrt_word, inv_word, invsqrt_word}
use Rattle.float.specs.Engine.{ieee}
use Rattle.float.specs.Recip.{correction, recip_word}
use Rattle.float.specs.Exp.{series, power_word, exp_word}
use Rattle.float.specs.Ln.{polynomial, logarithm, ln_word}
use Rattle.float.specs.Powi.{works, powi_word, products_of}
use Rattle.float.specs.Powf.{powf_word}
use Rattle.float.specs.Cos.{cos_word, sin_word}
use Rattle.float.specs.Atan.{atan_norm_word, atan_word}
use Rattle.float.specs.Atan2.{quarters, atan2_word}
use Rattle.float.specs.Hypot.{hypot_word}
use Rattle.float.specs.Asin.{asin_word}
use Rattle.float.specs.Acos.{acos_word}
use Rattle.float.specs.Tan.{tan_word}
use Rattle.float.specs.RemEuclid.{rem_euclid_word}
use Rattle.float.specs.DivEuclid.{div_euclid_word}
use Rattle.float.proofs.Rows.{Row, ◌gives◌, agree}

abbrev pub rows : List Row
rows =
    -- signs
    abs_word binary32 0x8000_0000 gives 0x0000_0000
    ∷ abs_word binary32 0xffff_ffff gives 0x7fff_ffff
    ∷ copysign_word binary32 0x3f80_0000 0x8000_0000 gives 0xbf80_0000
    ∷ copysign_word binary32 0xffc0_0001 0x7fff_ffff gives 0x7fc0_0001
    ∷ signum_word binary32 0x0000_0000 gives 0x3f80_0000
    ∷ signum_word binary32 0x8000_0000 gives 0xbf80_0000
    ∷ signum_word binary32 0x7f80_0000 gives 0x3f80_0000
    ∷ signum_word binary32 0x7f80_0001 gives 0x7fc0_0000
    ∷ signum_word binary32 0xffff_ffff gives 0x7fc0_0000
    ∷ turned_word binary32 0x3f80_0000 gives 0xbf80_0000
    ∷ turned_word binary32 0xffc0_0001 gives 0x7fc0_0001
    -- a word's exponent field: its own bits, one that sets the sign, and those that fall away
    ∷ set_exponent_word binary32 0xbfc0_0000 0 gives 0x8040_0000
    ∷ set_exponent_word binary32 0x3fc0_0000 255 gives 0x7fc0_0000
    ∷ set_exponent_word binary32 0x3fc0_0000 256 gives 0x8040_0000
    ∷ set_exponent_word binary32 0xbfc0_0000 256 gives 0x8040_0000
    ∷ set_exponent_word binary32 0x3fc0_0000 512 gives 0x0040_0000
    ∷ set_exponent_word binary32 0x3fc0_0000 4294967295 gives 0xffc0_0000
    -- parts: below 1 and from 1 on; past 2 ^ 32 the places wrap
    ∷ trunc_word binary32 0x3f7f_ffff gives 0x0000_0000
    ∷ trunc_word binary32 0xbf7f_ffff gives 0x8000_0000
    ∷ trunc_word binary32 0x3f80_0000 gives 0x3f80_0000
    ∷ trunc_word binary32 0x3fff_ffff gives 0x3f80_0000
    ∷ trunc_word binary32 0xc020_0000 gives 0xc000_0000
    ∷ trunc_word binary32 0x4b00_0001 gives 0x4b00_0001
    ∷ trunc_word binary32 0x4f80_0001 gives 0x4f80_0000
    ∷ fract_word binary32 0x3f7f_ffff gives 0x3f7f_ffff
    ∷ fract_word binary32 0x3f80_0000 gives 0x0000_0000
    ∷ fract_word binary32 0xbf80_0000 gives 0x8000_0000
    ∷ fract_word binary32 0xbfff_ffff gives 0xbf7f_fffe
    ∷ fract_word binary32 0x4f80_0001 gives 0x3400_0000
    -- through the integer: at one, above and below, and past its ends
    ∷ floor_word binary32 0x3f7f_ffff gives 0x0000_0000
    ∷ floor_word binary32 0x3f80_0000 gives 0x3f80_0000
    ∷ floor_word binary32 0xbf7f_ffff gives 0xbf80_0000
    ∷ floor_word binary32 0xbf80_0000 gives 0xbf80_0000
    ∷ floor_word binary32 0xbf80_0001 gives 0xc000_0000
    ∷ floor_word binary32 0x8000_0001 gives 0xbf80_0000
    ∷ floor_word binary32 0x4f32_d05e gives 0x4f00_0000
    ∷ floor_word binary32 0xcf80_0000 gives 0xcf00_0000
    ∷ floor_word binary32 0x7fc0_0000 gives 0x0000_0000
    ∷ ceil_word binary32 0x3f80_0001 gives 0x4000_0000
    ∷ ceil_word binary32 0x0000_0000 gives 0x8000_0000
    ∷ ceil_word binary32 0xbf7f_ffff gives 0x8000_0000
    ∷ ceil_word binary32 0xcf80_0000 gives 0xcf00_0000
    ∷ round_word binary32 0x3eff_ffff gives 0x3f80_0000
    ∷ round_word binary32 0x3f00_0000 gives 0x3f80_0000
    ∷ round_word binary32 0x3eff_fffe gives 0x0000_0000
    ∷ round_word binary32 0xbf00_0000 gives 0xbf80_0000
    ∷ round_word binary32 0x8000_0000 gives 0x0000_0000
    ∷ round_word binary32 0x4b00_0001 gives 0x4b00_0002
    -- estimates: what is at least 0, -0 too, and what is not
    ∷ sqrt_word binary32 0x7f80_0000 gives 0x5f80_0000
    ∷ sqrt_word binary32 0x7f80_0001 gives 0x7fc0_0000
    ∷ sqrt_word binary32 0x8000_0001 gives 0x7fc0_0000
    ∷ sqrt_word binary32 0x8000_0000 gives 0x5fc0_0000
    ∷ sqrt_word binary32 0xff80_0000 gives 0x7fc0_0000
    ∷ sqrt_word binary32 0x0000_0001 gives 0x1fc0_0000
    ∷ inv_word binary32 0x0000_0000 gives 0x7f00_0000
    ∷ inv_word binary32 0xffff_ffff gives 0x7f00_0001
    ∷ invsqrt_word 0xffff_ffff gives 0xdf37_5a87
    ∷ invsqrt_word 0x0000_0001 gives 0x5f37_5a86
    -- recip: both sides of 0 and far from it
    ∷ recip_word 0x0000_0000 gives 0x7f80_0000
    ∷ recip_word 0x8000_0000 gives 0xff80_0000
    ∷ recip_word 0x3f80_0000 gives 0x3f80_0004
    ∷ recip_word 0xbf80_0000 gives 0xbf80_0004
    ∷ recip_word 0x4001_0000 gives 0x3efe_03fd
    ∷ recip_word 0xc001_0000 gives 0xbefe_03fd
    ∷ recip_word 0xc622_ce00 gives 0xb8c9_4590
    ∷ recip_word 0x7e00_0000 gives 0x0100_0004
    ∷ recip_word 0x0080_0000 gives 0x7e80_0004
    ∷ recip_word 0x7f80_0000 gives 0xff80_0000
    ∷ recip_word 0x7fc0_0001 gives 0x7fc0_0000
    -- exp: 0, and on both sides of less than 2 ^ -23 from 1 and from -1
    ∷ exp_word 0x0000_0000 gives 0x3f80_0000
    ∷ exp_word 0x3f7f_fffe gives 0x402d_f78b
    ∷ exp_word 0x3f7f_ffff gives 0x402d_f854
    ∷ exp_word 0x3f80_0000 gives 0x402d_f854
    ∷ exp_word 0x3f80_0001 gives 0x402d_f78c
    ∷ exp_word 0xbf7f_fffe gives 0x3ebc_5c1c
    ∷ exp_word 0xbf7f_ffff gives 0x3ebc_5ab2
    ∷ exp_word 0xbf80_0000 gives 0x3ebc_5ab2
    ∷ exp_word 0xbf80_0001 gives 0x3ebc_5c1a
    -- the exponent 127, 128 without a fraction and with one, 129; -126, -127 and -128
    ∷ exp_word 0x42b1_7217 gives 0x7f7f_ce06
    ∷ exp_word 0x42b1_7218 gives 0x7f80_0000
    ∷ exp_word 0x42b1_7219 gives 0x7fc0_0000
    ∷ exp_word 0x42b2_d4fb gives 0x7fc0_0000
    ∷ exp_word 0x42b2_d4fc gives 0x7f80_0000
    ∷ exp_word 0xc2b0_0f33 gives 0x0000_4e61
    ∷ exp_word 0xc2b0_0f34 gives 0x0000_0000
    ∷ exp_word 0xc2b0_0f35 gives 0x0000_0000
    -- a sum past the integer's end, and a NaN
    ∷ exp_word 0xcf31_7219 gives 0x0000_0000
    ∷ exp_word 0x7f80_0000 gives 0x7f80_0000
    ∷ exp_word 0xff80_0000 gives 0x0000_0000
    ∷ exp_word 0xffc0_0000 gives 0x7f80_0000
    -- the constants
    ∷ exp_word 0x3d6c_54c0 gives 0x3f87_9a42
    ∷ exp_word 0xc0c4_e61e gives 0x3b0b_8c8d
    ∷ exp_word 0xc0c6_0000 gives 0x3b06_e254
    -- ln: on both sides of less than 2 ^ -23 from 1, and of 1
    ∷ ln_word 0x3f7f_fffe gives 0xb87f_0000
    ∷ ln_word 0x3f7f_ffff gives 0x0000_0000
    ∷ ln_word 0x3f80_0000 gives 0x0000_0000
    ∷ ln_word 0x3f80_0001 gives 0x387f_0000
    ∷ ln_word 0x3fff_ffff gives 0x3f31_6e24
    ∷ ln_word 0x4000_0000 gives 0x3f31_7610
    ∷ ln_word 0x3d94_0000 gives 0xc02c_3e11
    ∷ ln_word 0x40cc_0000 gives 0x3fed_190e
    ∷ ln_word 0x0000_0000 gives 0xc2b0_0f3c
    ∷ ln_word 0x7f7f_ffff gives 0x42b1_7210
    ∷ ln_word 0x7f80_0000 gives 0x7fc0_0000
    ∷ ln_word 0xbf80_0000 gives 0x40d1_2cac
    ∷ ln_word 0xffc0_0000 gives 0x7fc0_0000
    -- powi: the power 0 and -2 ^ 31, and a zero with its neighbours
    ∷ powi_word 0x0000_0000 (pos 0) gives 0x3f80_0000
    ∷ powi_word 0x7fc0_0000 (pos 0) gives 0x3f80_0000
    ∷ powi_word 0x3f80_0000 (negsuc 2147483647) gives 0x7fc0_0000
    ∷ powi_word 0x0000_0000 (pos 1) gives 0x0000_0000
    ∷ powi_word 0x8000_0000 (pos 1) gives 0x8000_0000
    ∷ powi_word 0x0000_0001 (pos 2) gives 0x0000_0000
    ∷ powi_word 0x0000_0000 (negsuc 0) gives 0x7f80_0000
    ∷ powi_word 0x8000_0000 (negsuc 0) gives 0xff80_0000
    ∷ powi_word 0x8000_0000 (negsuc 1) gives 0x7f80_0000
    ∷ powi_word 0x0000_0000 (negsuc 16909320) gives 0x7f80_0000
    ∷ powi_word 0x8000_0000 (negsuc 16909320) gives 0xff80_0000
    -- both sides of 0.5 and of 2, and between them
    ∷ powi_word 0xbf00_0000 (pos 151) gives 0x8000_0000
    ∷ powi_word 0xbeff_ffff (pos 151) gives 0x0000_0000
    ∷ powi_word 0x3eff_ffff (pos 75) gives 0x0000_0000
    ∷ powi_word 0xc000_0000 (negsuc 150) gives 0x0000_0000
    ∷ powi_word 0xbfff_ffff (negsuc 150) gives 0x8000_0000
    ∷ powi_word 0x3f7f_ffff (pos 150) gives 0x3f7f_ff6a
    ∷ powi_word 0x3f7f_ffff (negsuc 127) gives 0x3f80_0080
    -- the product of exponents 127 and 128, then -149 and -150
    ∷ powi_word 0x4000_0000 (pos 127) gives 0x7f00_0000
    ∷ powi_word 0x4000_0000 (pos 128) gives 0x7f80_0000
    ∷ powi_word 0x7f00_0000 (pos 1) gives 0x7f00_0000
    ∷ powi_word 0x3eff_ffff (negsuc 63) gives 0x7f80_0000
    ∷ powi_word 0xbeff_ffff (negsuc 64) gives 0xff80_0000
    ∷ powi_word 0x4000_0000 (negsuc 148) gives 0x0000_0001
    ∷ powi_word 0x3e7f_ffff (pos 49) gives 0x0e7f_ffcf
    ∷ powi_word 0x3e7f_ffff (pos 50) gives 0x0000_0000
    ∷ powi_word 0xc000_0001 (pos 3) gives 0xc100_0003
    ∷ powi_word 0x4040_0000 (pos 3) gives 0x41d8_0000
    ∷ powi_word 0x4040_0000 (pos 128) gives 0x7f80_0000
    ∷ powi_word 0x3f80_0000 (pos 1) gives 0x3f80_0000
    ∷ powi_word 0x3fc0_0000 (pos 10) gives 0x4266_a900
    ∷ powi_word 0x3fc0_0000 (negsuc 6) gives 0x3d6f_bab8
    ∷ powi_word 0x7fc0_0000 (negsuc 0) gives 0x7fc0_0000
    -- its products, on both sides of each test: a power 0, the least, and 1; a zero and the least number above it
    ∷ products_of 0x3f80_0000 (pos 0) gives 0
    ∷ products_of 0x3f80_0000 (negsuc 2147483647) gives 0
    ∷ products_of 0x3f80_0000 (negsuc 2147483646) gives 61
    ∷ products_of 0x3f80_0000 (pos 1) gives 1
    ∷ products_of 0x3f80_0000 (negsuc 0) gives 1
    ∷ products_of 0x0000_0000 (pos 1) gives 0
    ∷ products_of 0x8000_0000 (pos 1) gives 0
    ∷ products_of 0x0000_0001 (pos 1) gives 1
    ∷ products_of 0x8000_0000 (negsuc 0) gives 1
    ∷ products_of 0x8000_0000 (negsuc 1) gives 0
    ∷ products_of 0x0000_0000 (negsuc 33818639) gives 0
    ∷ products_of 0x0000_0001 (negsuc 33818639) gives 29
    -- both sides of 0.5 and of 2, then of 127 and of -149
    ∷ products_of 0x3eff_ffff (pos 75) gives 0
    ∷ products_of 0x3f00_0000 (pos 75) gives 10
    ∷ products_of 0x3fff_ffff (pos 128) gives 8
    ∷ products_of 0x4000_0000 (pos 128) gives 0
    ∷ products_of 0x4000_0000 (pos 127) gives 13
    ∷ products_of 0xbeff_ffff (negsuc 63) gives 0
    ∷ products_of 0xbeff_ffff (negsuc 62) gives 11
    ∷ products_of 0x4000_0000 (negsuc 148) gives 11
    ∷ products_of 0x4000_0000 (negsuc 149) gives 0
    ∷ products_of 0x4040_0000 (pos 128) gives 0
    -- the most, and one more
    ∷ products_of 0x3f80_0000 (pos 1048575) gives 39
    ∷ products_of 0xbfff_ffff (negsuc 1048574) gives 39
    ∷ products_of 0x3f00_0000 (pos 1048576) gives 21
    -- a NaN and an infinity, by their exponent alone
    ∷ products_of 0x7fc0_0000 (pos 1) gives 0
    ∷ products_of 0x7fc0_0000 (negsuc 0) gives 1
    ∷ products_of 0x7f80_0000 (negsuc 1) gives 0
    -- powf: from 0 and below, and what the Rust takes for whole and for even
    ∷ powf_word 0x0000_0000 0x3f80_0000 gives 0x0000_0000
    ∷ powf_word 0x8000_0000 0x3f80_0000 gives 0x04ac_858c
    ∷ powf_word 0x8000_0001 0x3f80_0000 gives 0x8000_5015
    ∷ powf_word 0x8000_0001 0x4000_0000 gives 0x0000_0000
    ∷ powf_word 0xc080_0000 0x3f00_0000 gives 0x4000_00fe
    ∷ powf_word 0xc000_0000 0x3e99_999a gives 0x7fc0_0000
    ∷ powf_word 0xc000_0000 0x4000_0000 gives 0x4080_03f8
    ∷ powf_word 0xc000_0000 0x4040_0000 gives 0xc100_05f4
    ∷ powf_word 0xc000_0000 0x3fc0_0000 gives 0x7fc0_0000
    ∷ powf_word 0xbf80_0000 0x4f00_0000 gives 0x3f80_0000
    ∷ powf_word 0xbf80_0000 0x4eff_ffff gives 0x3f80_0000
    ∷ powf_word 0xbf80_0000 0x4b80_0001 gives 0x3f80_0000
    ∷ powf_word 0xbf80_0000 0x4b7f_ffff gives 0xbf80_0000
    ∷ powf_word 0x7fc0_0000 0x3f80_0000 gives 0xff80_0000
    ∷ powf_word 0x7fc0_0000 0x4000_0000 gives 0x7f80_0000
    ∷ powf_word 0x4000_0000 0x4049_0fdb gives 0x410d_39fc
    -- cos and sin
    ∷ cos_word ieee 0x0000_0000 gives 0x3f80_0000
    ∷ cos_word ieee 0x3f80_0000 gives 0x3f0a_5d25
    ∷ cos_word ieee 0xbfc9_0fdb gives 0x0000_0000
    ∷ cos_word ieee 0xbfc9_0fdc gives 0xb446_6667
    ∷ cos_word ieee 0xcbc9_0fdc gives 0xc08b_3333
    ∷ cos_word ieee 0x3fd1_0000 gives 0xbd7b_3a7b
    ∷ sin_word ieee 0x0000_0000 gives 0x0000_0000
    ∷ sin_word ieee 0x3f80_0000 gives 0x3f57_984f
    ∷ sin_word ieee 0xbe00_0000 gives 0xbdfd_5248
    -- atan
    ∷ atan_norm_word ieee 0x0000_0000 gives 0x0000_0000
    ∷ atan_norm_word ieee 0x8000_0000 gives 0x8000_0000
    ∷ atan_norm_word ieee 0x3f80_0000 gives 0x3f00_0000
    ∷ atan_norm_word ieee 0xc049_0fdb gives 0xbf4d_ad43
    ∷ atan_norm_word ieee 0xffc0_0000 gives 0x7fc0_0000
    ∷ atan_word ieee 0x0000_0000 gives 0x0000_0000
    ∷ atan_word ieee 0x3f80_0000 gives 0x3f49_0fdb
    ∷ atan_word ieee 0xbd80_0000 gives 0xbd75_9fd6
    -- atan2: two zeros, the axes, the four quadrants, and both sides of 2 quarters
    ∷ atan2_word 0x0000_0000 0x0000_0000 gives 0x7fc0_0000
    ∷ atan2_word 0x0000_0000 0x8000_0000 gives 0x7fc0_0000
    ∷ atan2_word 0x8000_0000 0x0000_0000 gives 0x7fc0_0000
    ∷ atan2_word 0x8000_0000 0x8000_0000 gives 0x7fc0_0000
    ∷ atan2_word 0x0000_0000 0x3f80_0000 gives 0x0000_0000
    ∷ atan2_word 0x8000_0000 0x3f80_0000 gives 0x0000_0000
    ∷ atan2_word 0x0000_0000 0xbf80_0000 gives 0x4049_0fdb
    ∷ atan2_word 0x8000_0000 0xbf80_0000 gives 0x4049_0fdb
    ∷ atan2_word 0x3f80_0000 0x4040_0000 gives 0x3ea5_2f9f
    ∷ atan2_word 0x3f80_0000 0xc040_0000 gives 0x4034_69e7
    ∷ atan2_word 0xbf80_0000 0xc040_0000 gives 0xc034_69e8
    ∷ atan2_word 0xbf80_0000 0x4040_0000 gives 0xbea5_2f9b
    ∷ atan2_word 0x3f80_0000 0x0000_0000 gives 0x3fc9_0fdb
    ∷ atan2_word 0xbf80_0000 0x8000_0000 gives 0xbfc9_0fdb
    ∷ atan2_word 0xb500_0000 0xbf80_0000 gives 0xc049_0fd9
    ∷ atan2_word 0x3500_0000 0xbf80_0000 gives 0x4049_0fd9
    ∷ atan2_word 0xc140_0000 0x41eb_0000 gives 0xbec7_9354
    -- hypot
    ∷ hypot_word 0x4040_0000 0x4080_0000 gives 0x40a4_0000
    ∷ hypot_word 0xc040_0000 0x3f80_0000 gives 0x4050_0000
    ∷ hypot_word 0x0000_0000 0x0000_0000 gives 0x1fc0_0000
    ∷ hypot_word 0x7f80_0000 0xff80_0000 gives 0x5f80_0000
    ∷ hypot_word 0x7fc0_0000 0x3f80_0000 gives 0x7fc0_0000
    -- asin: 0, both ends, just past them, and further off
    ∷ asin_word 0x0000_0000 gives 0x0000_0000
    ∷ asin_word 0x8000_0000 gives 0x8000_0000
    ∷ asin_word 0x3f00_0000 gives 0x3f09_6859
    ∷ asin_word 0xbf00_0000 gives 0xbf09_6859
    ∷ asin_word 0x3f7f_ffff gives 0x3fc9_0565
    ∷ asin_word 0x3f80_0000 gives 0x3fc9_0fdb
    ∷ asin_word 0xbf80_0000 gives 0xbfc9_0fdb
    ∷ asin_word 0x3f80_0001 gives 0x04e7_a8cb
    ∷ asin_word 0x4000_0000 gives 0x7fc0_0000
    ∷ asin_word 0x7f80_0000 gives 0x7fc0_0000
    -- acos: what is above 0, a zero, and what is neither; both ends, and just past them
    ∷ acos_word 0x0000_0000 gives 0x3fc9_0fdb
    ∷ acos_word 0x8000_0000 gives 0x3fc9_0fdb
    ∷ acos_word 0x0000_0001 gives 0x7fc0_0000
    ∷ acos_word 0x8000_0001 gives 0x7fc0_0000
    ∷ acos_word 0x217f_ffff gives 0x3fc9_0fdb
    ∷ acos_word 0xa180_0000 gives 0x3fc9_0fdb
    ∷ acos_word 0x3f00_0000 gives 0x3f86_3fdf
    ∷ acos_word 0xbf00_0000 gives 0x4005_efec
    ∷ acos_word 0x3f7f_ffff gives 0x39b3_d987
    ∷ acos_word 0xbf7f_ffff gives 0x4049_0a3c
    ∷ acos_word 0x3f80_0000 gives 0x1fb3_d15e
    ∷ acos_word 0xbf80_0000 gives 0x4049_0fdb
    ∷ acos_word 0x3f80_0001 gives 0x7fc0_0000
    ∷ acos_word 0x7f80_0000 gives 0x7fc0_0000
    -- tan: where the cosine is a zero, and beside it
    ∷ tan_word 0x0000_0000 gives 0x0000_0000
    ∷ tan_word 0x8000_0000 gives 0x0000_0000
    ∷ tan_word 0x3f80_0000 gives 0x3fc7_723f
    ∷ tan_word 0xbf80_0000 gives 0xbfc7_7241
    ∷ cos_word ieee 0x3fc9_0fda gives 0x33c6_6667
    ∷ tan_word 0x3fc9_0fda gives 0x4b25_294a
    ∷ cos_word ieee 0xbfc9_0fda gives 0x0000_0000
    ∷ tan_word 0xbfc9_0fda gives 0xff80_0000
    ∷ tan_word 0x3fc9_0fdb gives 0x7f80_0000
    ∷ tan_word 0x7f80_0000 gives 0x7fc0_0000
    -- rem_euclid: the remainder above 0, either zero, and below 0, by a divisor of either sign
    ∷ rem_euclid_word 0x40e0_0000 0x4040_0000 gives 0x3f80_0000
    ∷ rem_euclid_word 0x40e0_0000 0xc040_0000 gives 0x3f80_0000
    ∷ rem_euclid_word 0xc0e0_0000 0x4040_0000 gives 0x4000_0000
    ∷ rem_euclid_word 0xc0e0_0000 0xc040_0000 gives 0x4000_0000
    ∷ rem_euclid_word 0x40c0_0000 0x4040_0000 gives 0x0000_0000
    ∷ rem_euclid_word 0xc0c0_0000 0x4040_0000 gives 0x8000_0000
    ∷ rem_euclid_word 0x8000_0000 0x3f80_0000 gives 0x8000_0000
    ∷ rem_euclid_word 0x8000_0001 0x3f80_0000 gives 0x3f80_0000
    ∷ rem_euclid_word 0x0000_0001 0x3f80_0000 gives 0x0000_0001
    ∷ rem_euclid_word 0x7f7f_ffff 0x40a0_0000 gives 0x0000_0000
    ∷ rem_euclid_word 0x3f80_0000 0x0000_0000 gives 0x7fc0_0000
    ∷ rem_euclid_word 0x3f80_0000 0x7f80_0000 gives 0x3f80_0000
    ∷ rem_euclid_word 0xbf80_0000 0x7f80_0000 gives 0x7f80_0000
    ∷ rem_euclid_word 0x7f80_0000 0x3f80_0000 gives 0x7fc0_0000
    -- div_euclid: the same, a divisor that is a zero, and quotients past 2 ^ 32; two zeros make a NaN, and trunc's answer to it is an infinity
    ∷ div_euclid_word 0x40e0_0000 0x4040_0000 gives 0x4000_0000
    ∷ div_euclid_word 0x40e0_0000 0xc040_0000 gives 0xc000_0000
    ∷ div_euclid_word 0xc0e0_0000 0x4040_0000 gives 0xc040_0000
    ∷ div_euclid_word 0xc0e0_0000 0xc040_0000 gives 0x4040_0000
    ∷ div_euclid_word 0xc0c0_0000 0x4040_0000 gives 0xc000_0000
    ∷ div_euclid_word 0x8000_0001 0x3f80_0000 gives 0xbf80_0000
    ∷ div_euclid_word 0x8000_0001 0xbf80_0000 gives 0x3f80_0000
    ∷ div_euclid_word 0x3f80_0000 0x0000_0000 gives 0x7f80_0000
    ∷ div_euclid_word 0xbf80_0000 0x0000_0000 gives 0xff80_0000
    ∷ div_euclid_word 0xbf80_0000 0x8000_0000 gives 0x7f80_0000
    ∷ div_euclid_word 0x0000_0000 0x0000_0000 gives 0x7f80_0000
    ∷ div_euclid_word 0xbf80_0000 0x7f80_0000 gives 0xbf80_0000
    ∷ div_euclid_word 0x3f80_0000 0x0000_0001 gives 0x7f80_0000
    ∷ div_euclid_word 0x4f80_0001 0x3f80_0000 gives 0x4f80_0000
    ∷ []

pub exact : agree rows ≡ true
unfolding written correction recip_word series power_word exp_word polynomial logarithm ln_word works powi_word products_of powf_word cos_word sin_word atan_norm_word atan_word quarters atan2_word hypot_word asin_word acos_word tan_word rem_euclid_word div_euclid_word add sub mul div rem lt le eq nan_bits of_bits to_bits of_int to_signed
exact = refl
