-- For which words the arctangents are told to be odd, and for which they, cos and sin lie between two numbers. Definitions only.
use Rattle.std.specs.Prelude.{ℕ, ◌≤◌, ◌<◌}
use Rattle.std.specs.Float.{binary32}
use Rattle.format.specs.Fields.{magnitude}
use Rattle.format.specs.Ordered.{Within}

-- |x| under 2 ^ 64: atan_norm and atan
abbrev pub Under64 : ℕ → Type 0
Under64 w = magnitude binary32 w < 0x5f80_0000

-- |x| to 26353590, some 2 ^ 22 turns: cos
abbrev pub CosTurns : ℕ → Type 0
CosTurns w = magnitude binary32 w ≤ 0x4bc9_0fdb

-- |x| to 26353588: sin, which goes a quarter turn back
abbrev pub SinTurns : ℕ → Type 0
SinTurns w = magnitude binary32 w ≤ 0x4bc9_0fda

-- from -1 to 1
abbrev pub WithinOne : ℕ → Type 0
WithinOne = Within binary32 0x3f80_0000

-- from -PI / 2 to PI / 2
abbrev pub WithinQuarter : ℕ → Type 0
WithinQuarter = Within binary32 0x3fc9_0fdb
