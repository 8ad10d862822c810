-- floor, ceil and round in the Rust's steps: through the cast to a 32-bit integer and back, each operation rounded once. Definitions only.
use Rattle.std.specs.Prelude.{ℕ, ◌*◌, ◌-◌, cond, Float}
use Rattle.std.specs.Float.{Format}
use Rattle.std.specs.Float.Ieee.{emax, hid, neg, add, sub, lt, of_bits, to_bits, of_int, to_signed}
use Rattle.format.specs.Fields.{one_word}
use Rattle.format.specs.Sign.{copysign_word}

-- 1/2
abbrev pub half_word : Format → ℕ
half_word f = (emax f - 1) * hid f

-- a number through the integer that it is cast to
abbrev pub through_int : Format → Float → Float
through_int f x = of_int f (to_signed 31 x)

-- one less where that is above the number
abbrev pub floor_value : Format → Float → Float
floor_value f x = cond (lt x (through_int f x)) (sub f (through_int f x) (of_bits f (one_word f))) (through_int f x)

abbrev pub floor_word : Format → ℕ → ℕ
floor_word f w = to_bits f (floor_value f (of_bits f w))

-- the floor of the negated number, negated
abbrev pub ceil_word : Format → ℕ → ℕ
ceil_word f w = to_bits f (neg (floor_value f (neg (of_bits f w))))

-- a half with the number's own sign added, then cut
abbrev pub round_word : Format → ℕ → ℕ
round_word f w = to_bits f (through_int f (add f (of_bits f w) (of_bits f (copysign_word f (half_word f) w))))
