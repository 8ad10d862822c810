-- powf's steps, for every pair of words: E raised to the power times the logarithm; of a number below 0 only for what the Rust takes for a
-- whole power, by the magnitude, and negated where it takes the power for odd. Definitions only.
use Rattle.std.specs.Prelude.{ℕ, cond, to_bits}
use Rattle.std.specs.Float.{binary32}
use Rattle.std.specs.Float.Ieee.{neg}
use Rattle.format.specs.Fields.{magnitude, nan_word}
use Rattle.format.specs.Exponent.{is_integer_word, is_even_word}
use Rattle.format.specs.Estimates.{at_least_zero}
use Rattle.float.specs.Rounded.{◌⊗◌, number}
use Rattle.float.specs.Exp.{exp_word}
use Rattle.float.specs.Ln.{ln_word}

-- the word of the once rounded n * ln(x)
abbrev pub product_word : ℕ → ℕ → ℕ
product_word w n = to_bits binary32 (number n ⊗ number (ln_word w))

abbrev pub raised_word : ℕ → ℕ → ℕ
raised_word w n = exp_word (product_word w n)

unfoldable pub powf_word : ℕ → ℕ → ℕ
powf_word w n =
    cond (at_least_zero binary32 w) (raised_word w n)
    (cond (is_integer_word binary32 n)
    (cond (is_even_word binary32 n) (raised_word (magnitude binary32 w) n)
    (to_bits binary32 (neg (number (raised_word (magnitude binary32 w) n)))))
    (nan_word binary32))
