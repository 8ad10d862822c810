-- The four operations as words to a word, as `lib.Ieee` has them, and the engine whose numbers are words. Definitions only.
use Rattle.std.specs.Prelude.{ℕ, cond}
use Rattle.std.specs.Float.{Format, binary32}
use Rattle.std.specs.Float.Ieee.{add, sub, mul, div, of_bits, to_bits, nan_bits}
use Rattle.format.specs.Fields.{nan_word}
use Rattle.float.specs.Engine.{Engine}

unfoldable pub add_word : Format → ℕ → ℕ → ℕ
add_word f a b = to_bits f (add f (of_bits f a) (of_bits f b))

unfoldable pub sub_word : Format → ℕ → ℕ → ℕ
sub_word f a b = to_bits f (sub f (of_bits f a) (of_bits f b))

unfoldable pub mul_word : Format → ℕ → ℕ → ℕ
mul_word f a b = to_bits f (mul f (of_bits f a) (of_bits f b))

unfoldable pub div_word : Format → ℕ → ℕ → ℕ
div_word f a b = to_bits f (div f (of_bits f a) (of_bits f b))

-- a word as a number of the engine: a NaN is the one NaN
abbrev pub one_nan : ℕ → ℕ
one_nan w = cond (nan_bits binary32 w) (nan_word binary32) w

abbrev pub soft : Engine ℕ
soft = record {
  add = add_word binary32;
  sub = sub_word binary32;
  mul = mul_word binary32;
  div = div_word binary32;
  number = one_nan;
  word = λ (w : ℕ). w;
}
