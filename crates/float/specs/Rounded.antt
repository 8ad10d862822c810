-- The operations of binary32, each rounded once, as signs between two numbers, and a word as the number that it is. Definitions only.
use Rattle.std.specs.Prelude.{ℕ, Bool, from_bits, Float}
use Rattle.std.specs.Float.{binary32}
use Rattle.std.specs.Float.Ieee.{add, sub, mul, div, lt}
use Rattle.float.specs.Engine.{ieee, abs_of}

infixl 6 ◌⊕◌ ◌⊖◌
infixl 7 ◌⊗◌ ◌⊘◌
abbrev pub ◌⊕◌ : Float → Float → Float
◌⊕◌ = add binary32

abbrev pub ◌⊖◌ : Float → Float → Float
◌⊖◌ = sub binary32

abbrev pub ◌⊗◌ : Float → Float → Float
◌⊗◌ = mul binary32

abbrev pub ◌⊘◌ : Float → Float → Float
◌⊘◌ = div binary32

abbrev pub number : ℕ → Float
number = from_bits binary32

-- less than 2 ^ -23 apart
abbrev pub is_at : Float → Float → Bool
is_at x y = lt (abs_of ieee (x ⊖ y)) (number 0x3400_0000)
