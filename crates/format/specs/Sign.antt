-- The sign kernels: IEEE 754's abs and copySign, which keep every other bit, a NaN's too, and signum, whose words are Rust's.
use Rattle.std.specs.Prelude.{ℕ, ◌+◌, ◌≡◌, Bool, not, cond, Float}
use Rattle.std.specs.Float.{Format, nan, inf, fin}
use Rattle.std.specs.Float.Ieee.{of_bits, nan_bits}
use Rattle.format.specs.Fields.{negative, magnitude, exponent, fraction, sign_bit, one_word, nan_word}

abbrev pub abs_word : Format → ℕ → ℕ
abs_word f w = magnitude f w

abbrev pub copysign_word : Format → ℕ → ℕ → ℕ
copysign_word f w y = sign_bit f (negative f y) + magnitude f w

-- the sign bit turned
abbrev pub turned_word : Format → ℕ → ℕ
turned_word f w = sign_bit f (not (negative f w)) + magnitude f w

-- 1 with the operand's sign bit, zeros too, and a NaN for a NaN
abbrev pub signum_word : Format → ℕ → ℕ
signum_word f w = cond (nan_bits f w) (nan_word f) (copysign_word f (one_word f) w)

-- the same value with the sign s; a NaN has none
abbrev pub with_sign : Bool → Float → Float
with_sign s nan = nan
with_sign s (inf t) = inf s
with_sign s (fin t m e) = fin s m e

-- What IEEE 754 says of abs (s is false) and of copySign (s is the other operand's sign): r is w with the sign bit s,
-- every other bit as it was, whatever w is; so its value is w's with that sign.
pub record SignSet (f : Format) (s : Bool) (w r : ℕ) : Type 0 where
  pub sign : negative f r ≡ s
  pub field : exponent f r ≡ exponent f w
  pub digits : fraction f r ≡ fraction f w
  pub value : of_bits f r ≡ with_sign s (of_bits f w)
