-- The constants of the two number types, and one of cos. Definitions only.
use Rattle.std.specs.Prelude.{ℕ, List, [], ◌∷◌}

-- 0; 1; the distance from 1 to the next number; the NaN; the infinities; 1/pi, ln 2, log2 e, e, pi and pi/2, each the nearest number; the masks of the
-- sign, the exponent and the fraction; the exponent's bias; how many bits the fraction has; and cos's half of 1/pi
abbrev pub constants : List ℕ
constants =
    0 ∷ 0x3f80_0000 ∷ 0x3400_0000 ∷ 0x7fc0_0000 ∷ 0x7f80_0000 ∷ 0xff80_0000
    ∷ 0x3ea2_f983 ∷ 0x3f31_7218 ∷ 0x3fb8_aa3b ∷ 0x402d_f854 ∷ 0x4049_0fdb ∷ 0x3fc9_0fdb
    ∷ 0x8000_0000 ∷ 0x7f80_0000 ∷ 0x007f_ffff ∷ 127 ∷ 23
    ∷ 0x3e22_f983 ∷ []

-- at 64 bits: 0; 1; the distance from 1 to the next number; the NaN; the infinities; the masks; the bias; and how many bits the fraction has
abbrev pub double_constants : List ℕ
double_constants =
    0 ∷ 0x3ff0_0000_0000_0000 ∷ 0x3cb0_0000_0000_0000 ∷ 0x7ff8_0000_0000_0000 ∷ 0x7ff0_0000_0000_0000 ∷ 0xfff0_0000_0000_0000
    ∷ 0x8000_0000_0000_0000 ∷ 0x7ff0_0000_0000_0000 ∷ 0x000f_ffff_ffff_ffff ∷ 1023 ∷ 52 ∷ []
