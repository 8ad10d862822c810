-- The steps after the quotient of either arctangent, from its word. Definitions only.
use Rattle.std.specs.Prelude.{ℕ, cond, pos, Float}
use Rattle.std.specs.Float.{binary32}
use Rattle.std.specs.Float.Ieee.{unlike, add, mul, lt, of_bits, to_bits, of_int}
use Rattle.format.specs.Fields.{negative}
use Rattle.float.specs.Atan.{sign_or}
use Rattle.float.specs.Atan2.{offset, within_half}

-- PI / 2 times a number, as a word
abbrev pub in_radians : Float → ℕ
in_radians x = to_bits binary32 (mul binary32 (of_bits binary32 0x3fc9_0fdb) x)

-- atan's angle of a quotient, by the word's sign
abbrev pub signed_word : ℕ → ℕ → ℕ
signed_word w q = in_radians (of_bits binary32 (sign_or (negative binary32 w) q))

-- what is taken off a number of quarters: past 2 of them a whole turn
abbrev pub whole_turn : Float → Float
whole_turn q = cond (lt (of_bits binary32 0x4000_0000) q) (of_bits binary32 0x4080_0000) (of_bits binary32 0)

-- atan2's, by the signs of both
abbrev pub quadrant_word : ℕ → ℕ → ℕ → ℕ
quadrant_word y x q = in_radians (within_half (add binary32 (of_int binary32 (pos (offset y x))) (of_bits binary32 (sign_or (unlike (negative binary32 x) (negative binary32 y)) q))))
