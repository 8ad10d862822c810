-- Worked examples as one table over the definitions, and one test that every row's word is the one expected. Assumes nothing.
use Rattle.std.proofs.Common.{◌≡◌, true, List, [], ◌∷◌, refl}
use lib.Ieee.{binary32, lt, eq, le, of_bits}
use Rattle.format.specs.Estimates.{sqrt_word, inv_word, invsqrt_word}
use Rattle.format.specs.Parts.{trunc_word, fract_word, written}
use Rattle.float.proofs.Rows.{Row, ◌gives◌, agree}

abbrev pub table : List Row
table =
    sqrt_word binary32 0x4080_0000 gives 0x4000_0000
    ∷ sqrt_word binary32 0x4000_0000 gives 0x3fc0_0000
    ∷ sqrt_word binary32 0x3f80_0001 gives 0x3f80_0000
    ∷ sqrt_word binary32 0x0000_0000 gives 0x1fc0_0000
    ∷ sqrt_word binary32 0x8000_0000 gives 0x5fc0_0000
    ∷ inv_word binary32 0x3fc0_0000 gives 0x3f40_0000
    ∷ inv_word binary32 0xbf80_0000 gives 0xbf80_0000
    ∷ invsqrt_word 0x3f80_0000 gives 0x3f77_5a86
    ∷ trunc_word binary32 0xc020_0000 gives 0xc000_0000
    ∷ trunc_word binary32 0x7fc0_0000 gives 0x7f80_0000
    ∷ fract_word binary32 0xc020_0000 gives 0xbf00_0000
    ∷ fract_word binary32 0x7fc0_0000 gives 0x3f00_0000
    ∷ []

pub examples : agree table ≡ true
unfolding written le lt eq of_bits
examples = refl
