-- The number that a finite word is, over whole numbers: a sign and a count of units of 2 ^ -(low f), the format's smallest value.
-- An exponent field of 0 has no leading digit and counts as a field of 1. Definitions only.
use Rattle.std.specs.Prelude.{ℕ, zero, suc, ◌+◌, ◌*◌, ◌^◌, ◌<◌}
use Rattle.std.specs.Float.{Format}
use Rattle.std.specs.Float.Ieee.{hid, ones}
use Rattle.format.specs.Fields.{exponent, fraction}

abbrev pub units_at : Format → ℕ → ℕ → ℕ
units_at f zero t = t
units_at f (suc x) t = (hid f + t) * 2 ^ x

abbrev pub units : Format → ℕ → ℕ
units f w = units_at f (exponent f w) (fraction f w)

-- neither an infinity nor a NaN
abbrev pub Finite : Format → ℕ → Type 0
Finite f w = exponent f w < ones f
