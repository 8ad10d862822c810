-- exp's steps, for every word: three operands known at once, and else a series for the fraction of the operand's binary logarithm, whose
-- whole part goes into the exponent. Definitions only.
use Rattle.std.specs.Prelude.{ℕ, ◌+◌, ◌-◌, ◌%◌, ◌^◌, cond, ℤ, pos, negsuc, ◌+ℤ◌, int_lt, to_bits, Float}
use Rattle.std.specs.Float.{binary32}
use Rattle.std.specs.Float.Ieee.{neg, eq, to_signed}
use Rattle.std.specs.Int.{w32}
use Rattle.std.proofs.Common.{of_z}
use Rattle.format.specs.Parts.{trunc_word, fract_word}
use Rattle.format.specs.Exponent.{exponent_value, set_exponent_word}
use Rattle.float.specs.Rounded.{◌⊕◌, ◌⊗◌, ◌⊘◌, number, is_at}

-- 1 + s / i * total, for the word i
abbrev pub term : Float → ℕ → Float → Float
term s i total = number 0x3f80_0000 ⊕ s ⊘ number i ⊗ total

-- from the innermost out: i is 4, 3, 2 and 1
unfoldable pub series : Float → Float
series s = term s 0x3f80_0000 (term s 0x4000_0000 (term s 0x4040_0000 (term s 0x4080_0000 (number 0x3f80_0000))))

-- an integer brought into the range of 32 bits: past either end, that end
abbrev pub clipped : ℤ → ℤ
clipped z = cond (int_lt (pos (2 ^ 31 - 1)) z) (pos (2 ^ 31 - 1)) (cond (int_lt z (negsuc (2 ^ 31 - 1))) (negsuc (2 ^ 31 - 1)) z)

-- A word with the exponent k: below -127 it is 0, past 128 an infinity. With 128 and a fraction it is a NaN, read and written as the one NaN.
abbrev pub scaled_word : ℕ → ℤ → ℕ
scaled_word w k =
    cond (int_lt k (negsuc 126)) 0
    (cond (int_lt (pos 128) k) 0x7f80_0000
    (to_bits binary32 (number (set_exponent_word binary32 w ((of_z w32 k + 127) % 2 ^ 32)))))

-- 0x3fb8_aa3b is the binary logarithm of E, 0x3f31_7218 the natural one of 2
abbrev pub log_word : ℕ → ℕ
log_word w = to_bits binary32 (number w ⊗ number 0x3fb8_aa3b)

abbrev pub series_word : ℕ → ℕ
series_word t = to_bits binary32 (series (number (fract_word binary32 t) ⊗ number 0x3f31_7218))

abbrev pub exponent_of : ℕ → ℤ
exponent_of t = clipped (exponent_value binary32 (series_word t) +ℤ to_signed 31 (number (trunc_word binary32 t)))

unfoldable pub power_word : ℕ → ℕ
power_word t = scaled_word (series_word t) (exponent_of t)

-- 0x402d_f854 is E
unfoldable pub exp_word : ℕ → ℕ
exp_word w =
    let x = number w in
    cond (eq x (number 0)) 0x3f80_0000
    (cond (is_at x (number 0x3f80_0000)) 0x402d_f854
    (cond (is_at x (neg (number 0x3f80_0000))) (to_bits binary32 (number 0x3f80_0000 ⊘ number 0x402d_f854))
    (power_word (log_word w))))
