-- The steps of atan_norm and atan, for every word, over any engine: a quotient for the first quadrant, and the sign put on it as a bit.
-- Definitions only.
use Rattle.std.specs.Prelude.{ℕ, ◌+◌, Bool, cond, ◌||◌}
use Rattle.std.specs.Float.{binary32}
use Rattle.std.specs.Float.Ieee.{nan_bits}
use Rattle.format.specs.Fields.{negative, magnitude, sign_bit, nan_word}
use Rattle.float.specs.Engine.{Engine, abs_of}

-- the sign bit s or-ed onto a word: one that is set stays
abbrev pub sign_or : Bool → ℕ → ℕ
sign_or s w = sign_bit binary32 (s || negative binary32 w) + magnitude binary32 w

-- the same as an answer: onto a NaN no sign is put, and it is the one NaN
abbrev pub signed_answer : Bool → ℕ → ℕ
signed_answer s w = cond (nan_bits binary32 w) (nan_word binary32) (sign_or s w)

module _ {X : Type 0} (e : Engine X) where
  -- n / (a + b + n), where n = b + c
  abbrev pub quotient : X → X → X → X
  quotient a b c = e.div (e.add b c) (e.add (e.add a b) (e.add b c))

  -- 0x3f18_a255 is 0.596227
  abbrev pub first_quadrant : X → X
  first_quadrant x = quotient (e.number 0x3f80_0000) (abs_of e (e.mul (e.number 0x3f18_a255) x)) (e.mul x x)

  unfoldable pub atan_norm_word : ℕ → ℕ
  atan_norm_word w = signed_answer (negative binary32 w) (e.word (first_quadrant (e.number w)))

  -- 0x3fc9_0fdb is PI / 2
  unfoldable pub atan_word : ℕ → ℕ
  atan_word w = e.word (e.mul (e.number 0x3fc9_0fdb) (e.number (atan_norm_word w)))
