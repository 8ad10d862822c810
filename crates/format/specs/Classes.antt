-- The classes of words that the refusals speak of, over the format: an infinity or a NaN; either zero; a number that is no zero and has
-- an exponent field of 0; and one below 0. Definitions only.
use Rattle.std.specs.Prelude.{ℕ, Bool, not, ◌&&◌, eqb}
use Rattle.std.specs.Float.{Format}
use Rattle.std.specs.Float.Ieee.{ones}
use Rattle.format.specs.Fields.{negative, magnitude, exponent}

-- an infinity or a NaN
abbrev pub is_endless : Format → ℕ → Bool
is_endless f w = eqb (exponent f w) (ones f)

-- 0 or -0
abbrev pub is_zero : Format → ℕ → Bool
is_zero f w = eqb (magnitude f w) 0

-- nearer to 0 than every normal number, and not 0
abbrev pub is_small : Format → ℕ → Bool
is_small f w = eqb (exponent f w) 0 && not (is_zero f w)

-- the sign bit is set, and it is no zero; a NaN with it too, which refusal 1 turns away before
abbrev pub is_below_zero : Format → ℕ → Bool
is_below_zero f w = negative f w && not (is_zero f w)
