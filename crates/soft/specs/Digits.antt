-- What the functions inside promise, over whole numbers: a word taken apart, and the kit's rounding of a number that is not a word
-- yet. The laws tie it to the definitions of rounding and of the operations; nothing of it has to be believed. Definitions only.
use Rattle.std.specs.Prelude.{ℕ, ◌+◌, ◌-◌, ◌*◌, ◌^◌, Bool, cond, eqb}
use Rattle.std.specs.Float.{Format}
use Rattle.std.specs.Float.Ieee.{low, hid, round, to_bits}
use Rattle.format.specs.Fields.{exponent, fraction}

-- a finite word is a number of at most `prec` digits, moved up by some places: the leading digit is there where the exponent field is not 0
unfoldable pub digits_of : Format → ℕ → ℕ
digits_of f w = cond (eqb (exponent f w) 0) (fraction f w) (hid f + fraction f w)

unfoldable pub places_of : Format → ℕ → ℕ
places_of f w = exponent f w - 1

-- n / d units of the format's smallest value, rounded
unfoldable pub nearest_word : Format → Bool → ℕ → ℕ → ℕ
nearest_word f s n d = to_bits f (round f s n (d * 2 ^ low f))

-- m * 2 ^ (at - 300) units, rounded: 300 is any number that is high enough for no place of an exact result to be below 0
unfoldable pub scaled_word : Format → Bool → ℕ → ℕ → ℕ
unfolding nearest_word
scaled_word f s m at = nearest_word f s (m * 2 ^ at) (2 ^ 300)
