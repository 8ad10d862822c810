-- What the Rust's helpers on exponents answer, for every word: the exponent's value, a word with another exponent, and the
-- two tests by which powf knows a whole and an even power. Definitions only.
use Rattle.std.specs.Prelude.{ℕ, ◌+◌, ◌-◌, ◌*◌, ◌%◌, ◌^◌, Bool, true, cond, ◌||◌, ℤ, nat_abs, leb, eqb}
use Rattle.std.specs.Float.{Format}
use Rattle.std.specs.Float.Ieee.{hid, top, emax, minus, of_bits, to_signed}
use Rattle.format.specs.Fields.{width, negative, exponent, fraction, sign_bit}

-- the exponent field less the bias
abbrev pub exponent_value : Format → ℕ → ℤ
exponent_value f w = minus (exponent f w) (emax f)

-- The word with n for its exponent field, n being a whole word: it is moved up, its high bits fall away, and it is or-ed onto
-- the sign and the fraction. So of an n past the field's own bits the next one sets the sign, and a sign that is set stays.
abbrev pub moved : Format → ℕ → ℕ
moved f n = n * hid f % (2 * top f)

abbrev pub set_exponent_word : Format → ℕ → ℕ → ℕ
set_exponent_word f w n = sign_bit f (negative f w || negative f (moved f n)) + moved f n % top f + fraction f w

-- by how many places the exponent moves the point up: none where it is negative; a count is taken modulo the word's width
abbrev pub places : Format → ℕ → ℕ
places f w = (exponent f w - emax f) % width f

-- Whether no bit of the fraction is left below the point once it is moved up by those places. So 0.5 is whole.
abbrev pub is_integer_word : Format → ℕ → Bool
is_integer_word f w = eqb (w * 2 ^ places f w % hid f) 0

-- Whether the cast to a 32-bit integer is even; from 2 ^ 31 on every value is called even, and a NaN or an infinity too.
abbrev pub is_even_word : Format → ℕ → Bool
is_even_word f w = cond (leb (emax f + 31) (exponent f w)) true (eqb (nat_abs (to_signed 31 (of_bits f w)) % 2) 0)
