-- A word of a binary format by its fields: the sign bit, then the exponent field, then the fraction. Definitions only.
-- `top f` is the weight of the sign bit, `hid f` that of the exponent field, `ones f` the field of an infinity or a NaN, `emax f` the bias.
use Rattle.std.specs.Prelude.{ℕ, ◌+◌, ◌*◌, ◌/◌, ◌%◌, Bool, cond, leb}
use mir.Val.{bits, width_of}
use Rattle.std.specs.Float.{Format}
use Rattle.std.specs.Float.Ieee.{hid, ones, top, emax}

-- how many bits a word has: 32 or 64
abbrev pub width : Format → ℕ
width f = bits (width_of f)

abbrev pub negative : Format → ℕ → Bool
negative f w = leb (top f) w

abbrev pub magnitude : Format → ℕ → ℕ
magnitude f w = w % top f

abbrev pub exponent : Format → ℕ → ℕ
exponent f w = w % top f / hid f

abbrev pub fraction : Format → ℕ → ℕ
fraction f w = w % hid f

-- a sign as the bit that it sets
abbrev pub sign_bit : Format → Bool → ℕ
sign_bit f s = cond s (top f) 0

-- 1, whose exponent field is the bias; an infinity; and the NaN with the sign clear and only the highest bit of the fraction set
abbrev pub one_word : Format → ℕ
one_word f = emax f * hid f

abbrev pub inf_word : Format → ℕ
inf_word f = ones f * hid f

abbrev pub nan_word : Format → ℕ
nan_word f = ones f * hid f + hid f / 2
