-- What the steps of a kernel run on: four rounded operations, and a number's way from a word and back to one. Definitions only.
-- Steps over any engine are stated once and read at each: `ieee` has the numbers and the operations of `lib.Ieee`.
use Rattle.std.specs.Prelude.{ℕ, from_bits, to_bits, Float}
use Rattle.std.specs.Float.{binary32}
use Rattle.std.specs.Float.Ieee.{add, sub, mul, div}
use Rattle.format.specs.Sign.{abs_word}
use Rattle.format.specs.Whole.{floor_word}

pub record Engine (X : Type 0) : Type 0 where
  pub add : X → X → X
  pub sub : X → X → X
  pub mul : X → X → X
  pub div : X → X → X
  pub number : ℕ → X
  pub word : X → ℕ

abbrev pub ieee : Engine Float
ieee = record {
  add = add binary32;
  sub = sub binary32;
  mul = mul binary32;
  div = div binary32;
  number = from_bits binary32;
  word = to_bits binary32;
}

-- the two steps that read a number's bits
abbrev pub abs_of : {X : Type 0} → Engine X → X → X
abs_of e x = e.number (abs_word binary32 (e.word x))

abbrev pub floor_of : {X : Type 0} → Engine X → X → X
floor_of e x = e.number (floor_word binary32 (e.word x))
