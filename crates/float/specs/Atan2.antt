-- The steps of atan2 of a word y and a word x: the quotient for the first quadrant, brought to the quadrant by the two signs. Definitions only.
use Rattle.std.specs.Prelude.{ℕ, cond, pos, from_bits, to_bits, Float}
use Rattle.std.specs.Float.{binary32}
use Rattle.std.specs.Float.Ieee.{unlike, add, sub, mul, lt, of_int}
use Rattle.format.specs.Fields.{negative}
use Rattle.float.specs.Engine.{ieee, abs_of}
use Rattle.float.specs.Atan.{sign_or, quotient}

-- from where the quotient counts, in quarter turns
abbrev pub offset : ℕ → ℕ → ℕ
offset y x = cond (negative binary32 x) 2 (cond (negative binary32 y) 4 0)

-- the quotient, with b = |0.596227 * x * y|
abbrev pub ratio : Float → Float → Float
ratio y x = quotient ieee (mul binary32 x x) (abs_of ieee (mul binary32 (mul binary32 (from_bits binary32 0x3f18_a255) x) y)) (mul binary32 y y)

-- in quarter turns, from 0 to 4; the quotient counts backward where the signs differ
unfoldable pub quarters : ℕ → ℕ → Float
quarters y x =
    add binary32 (of_int binary32 (pos (offset y x)))
    (from_bits binary32 (sign_or (unlike (negative binary32 x) (negative binary32 y)) (to_bits binary32 (ratio (from_bits binary32 y) (from_bits binary32 x)))))

-- past 2 quarters a whole turn is taken off; 0x3fc9_0fdb is PI / 2
abbrev pub within_half : Float → Float
within_half q = cond (lt (from_bits binary32 0x4000_0000) q) (sub binary32 q (from_bits binary32 0x4080_0000)) q

unfoldable pub atan2_word : ℕ → ℕ → ℕ
unfolding quarters
atan2_word y x = to_bits binary32 (mul binary32 (from_bits binary32 0x3fc9_0fdb) (within_half (quarters y x)))
