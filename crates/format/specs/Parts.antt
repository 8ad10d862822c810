-- trunc and fract: which bits of a word lie below the point, and what is left with and without them. Definitions only.
use Rattle.std.specs.Prelude.{ℕ, ◌+◌, ◌-◌, ◌*◌, ◌/◌, ◌%◌, ◌^◌, cond, ltb}
use Rattle.std.specs.Float.{Format}
use Rattle.std.specs.Float.Ieee.{prec, emax, hid, size}
use Rattle.format.specs.Fields.{negative, exponent, sign_bit}
use Rattle.format.specs.Exponent.{places}

-- the bits of the word below the point
abbrev pub below_point : Format → ℕ → ℕ
below_point f w = w % 2 ^ (prec f - 1 - places f w)

-- a number below 1 has no whole part but its sign; elsewhere the bits below the point are cleared
abbrev pub trunc_word : Format → ℕ → ℕ
trunc_word f w = cond (ltb (exponent f w) (emax f)) (sign_bit f (negative f w)) (w - below_point f w)

-- the word of n units of the format's smallest value, as `lib.Ieee` writes it: the leading digits, and how many were dropped
unfoldable pub written : Format → ℕ → ℕ
unfolding size
written f n = let k = size n - prec f in k * hid f + n / 2 ^ k

-- a number below 1 is its own fraction; elsewhere the fraction is the bits below the point, at their own weight
abbrev pub fract_word : Format → ℕ → ℕ
fract_word f w =
    cond (ltb (exponent f w) (emax f)) w
    (sign_bit f (negative f w) + written f (below_point f w * 2 ^ places f w * 2 ^ (emax f - 1)))
