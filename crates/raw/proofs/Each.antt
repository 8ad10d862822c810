-- Each kernel under its number: how many words it reads, and to two words an answer that no other kernel gives. Assumes nothing.
use Prim.Native.Nat.{ℕ}
use mathlib.Core.Path.{◌≡◌, refl}
use mathlib.Core.List.{List, [], ◌∷◌, map}
use lib.Ieee.{add, sub, mul, div, rem, lt, le, eq, nan_bits, of_bits, to_bits, of_int, to_signed}
use Rattle.format.specs.Parts.{written}
use Rattle.float.specs.Recip.{correction, recip_word}
use Rattle.float.specs.Exp.{series, power_word, exp_word}
use Rattle.float.specs.Ln.{polynomial, logarithm, ln_word}
use Rattle.float.specs.Powi.{works, powi_word}
use Rattle.float.specs.Powf.{powf_word}
use Rattle.float.specs.Atan.{atan_norm_word, atan_word}
use Rattle.float.specs.Atan2.{quarters, atan2_word}
use Rattle.float.specs.Cos.{cos_word, sin_word}
use Rattle.float.specs.Hypot.{hypot_word}
use Rattle.float.specs.Asin.{asin_word}
use Rattle.float.specs.Acos.{acos_word}
use Rattle.float.specs.Tan.{tan_word}
use Rattle.float.specs.RemEuclid.{rem_euclid_word}
use Rattle.float.specs.DivEuclid.{div_euclid_word}
use Rattle.raw.specs.declared.kernel.Kernel.TheVariants.{Trunc, Fract, Floor, Ceil, Round, Abs, Copysign, Signum, Sqrt, Invsqrt, Inv, Recip, Exp, Ln, Powi, Powf, Atan, Atan2, Cos, Sin, Hypot, Asin, Acos, Tan, RemEuclid, DivEuclid}
use Rattle.raw.specs.Raw.{kernel_of, operands_of, raw_of}
use Rattle.raw.specs.Numbers.{number_of}

pub record Case : Type 0 where
  pub number : ℕ
  pub first : ℕ
  pub second : ℕ
  pub operands : ℕ
  pub answer : ℕ

abbrev at : ℕ → ℕ → ℕ → ℕ → ℕ → Case
at n a b count r = record { number = n; first = a; second = b; operands = count; answer = r }

abbrev pub cases : List Case
cases =
    at 0 0x4020_0000 0x4040_0000 0 0x0000_0000  -- none
    ∷ at 1 0xcf32_d05e 0x0000_0000 1 0xcf32_d05e  -- trunc
    ∷ at 2 0xc020_0000 0x0000_0000 1 0xbf00_0000  -- fract
    ∷ at 3 0xc013_3333 0x0000_0000 1 0xc040_0000  -- floor
    ∷ at 4 0x4013_3333 0x0000_0000 1 0x4040_0000  -- ceil
    ∷ at 5 0x4b00_0001 0x0000_0000 1 0x4b00_0002  -- round
    ∷ at 6 0xffc0_0001 0x8000_0000 1 0x7fc0_0001  -- abs
    ∷ at 7 0x4020_0000 0xc040_0000 2 0xc020_0000  -- copysign
    ∷ at 8 0xff80_0000 0x0000_0000 1 0xbf80_0000  -- signum
    ∷ at 9 0x4080_0000 0x0000_0000 1 0x4000_0000  -- sqrt
    ∷ at 10 0x4020_0000 0x0000_0000 1 0x3f27_5a86  -- invsqrt
    ∷ at 11 0x4020_0000 0x0000_0000 1 0x3ee0_0000  -- inv
    ∷ at 12 0x4020_0000 0x0000_0000 1 0x3ecc_ccb7  -- recip
    ∷ at 13 0x4020_0000 0x0000_0000 1 0x4142_e7a2  -- exp
    ∷ at 14 0x4020_0000 0x0000_0000 1 0x3f6a_94e0  -- ln
    ∷ at 15 0x4020_0000 0x0000_0003 2 0x417a_0000  -- powi
    ∷ at 16 0x4020_0000 0x4040_0000 2 0x4179_df10  -- powf
    ∷ at 17 0x4020_0000 0x0000_0000 1 0x3f98_1e0d  -- atan
    ∷ at 18 0x4020_0000 0x4040_0000 2 0x3f32_352f  -- atan2
    ∷ at 19 0x4020_0000 0x0000_0000 1 0xbf4d_48e1  -- cos
    ∷ at 20 0x4020_0000 0x0000_0000 1 0x3f19_50a0  -- sin
    ∷ at 21 0x4020_0000 0x4040_0000 2 0x407a_0000  -- hypot
    ∷ at 22 0x3f00_0000 0x0000_0000 1 0x3f09_6859  -- asin
    ∷ at 23 0x3f00_0000 0x0000_0000 1 0x3f86_3fdf  -- acos
    ∷ at 24 0x4020_0000 0x0000_0000 1 0xbf3f_30f3  -- tan
    ∷ at 25 0xc120_0000 0x4040_0000 2 0x4000_0000  -- rem_euclid
    ∷ at 26 0xc120_0000 0x4040_0000 2 0xc080_0000  -- div_euclid
    ∷ at 27 0x4020_0000 0x4040_0000 0 0x0000_0000  -- none
    ∷ []

pub numbered : map (λ c. operands_of (kernel_of c.number)) cases ≡ map (λ c. c.operands) cases
numbered = refl

pub answered : map (λ c. raw_of (kernel_of c.number) c.first c.second) cases ≡ map (λ c. c.answer) cases
unfolding written correction recip_word series power_word exp_word polynomial logarithm ln_word works powi_word powf_word atan_norm_word atan_word quarters atan2_word cos_word sin_word hypot_word asin_word acos_word tan_word rem_euclid_word div_euclid_word add sub mul div rem lt le eq nan_bits of_bits to_bits of_int to_signed
answered = refl

-- ---- each name has its number

pub named :
    map number_of (Trunc ∷ Fract ∷ Floor ∷ Ceil ∷ Round ∷ Abs ∷ Copysign ∷ Signum ∷ Sqrt ∷ Invsqrt ∷ Inv ∷ Recip ∷ Exp ∷ Ln ∷ Powi ∷ Powf ∷ Atan ∷ Atan2 ∷ Cos ∷ Sin ∷ Hypot ∷ Asin ∷ Acos ∷ Tan ∷ RemEuclid ∷ DivEuclid ∷ [])
    ≡ 1 ∷ 2 ∷ 3 ∷ 4 ∷ 5 ∷ 6 ∷ 7 ∷ 8 ∷ 9 ∷ 10 ∷ 11 ∷ 12 ∷ 13 ∷ 14 ∷ 15 ∷ 16 ∷ 17 ∷ 18 ∷ 19 ∷ 20 ∷ 21 ∷ 22 ∷ 23 ∷ 24 ∷ 25 ∷ 26 ∷ []
named = refl
