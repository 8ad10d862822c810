-- ln's steps, for every word: 0 near 1; below 1 the logarithm of inv's answer, negated; each operation rounded once. Definitions only.
use Rattle.std.specs.Prelude.{ℕ, ◌*◌, cond, pos, to_bits, Float}
use Rattle.std.specs.Float.{binary32}
use Rattle.std.specs.Float.Ieee.{hid, neg, lt, of_int}
use Rattle.std.specs.Int.{w32}
use Rattle.std.proofs.Common.{of_z}
use Rattle.format.specs.Fields.{exponent}
use Rattle.format.specs.Exponent.{exponent_value}
use Rattle.format.specs.Estimates.{inv_word}
use Rattle.float.specs.Rounded.{◌⊕◌, ◌⊖◌, ◌⊗◌, ◌⊘◌, number, is_at}

-- -1.7417939 + (2.8212026 + (-1.4699568 + (0.44717955 - 0.056570851 * z) * z) * z) * z
unfoldable pub polynomial : Float → Float
polynomial z =
    let a = neg (number 0x3fde_f31a) in
    let b = number 0x4034_8e95 in
    let c = neg (number 0x3fbc_278b) in
    let d = number 0x3ee4_f4b8 in
    let e = number 0x3d67_b6d6 in
    a ⊕ (b ⊕ (c ⊕ (d ⊖ e ⊗ z) ⊗ z) ⊗ z) ⊗ z

-- the exponent as a number; a negative one gains 2 ^ 32
abbrev pub power : ℕ → Float
power w = of_int binary32 (pos (of_z w32 (exponent_value binary32 w)))

-- the number over the one whose word is the exponent field alone
abbrev pub rest : ℕ → Float
rest w = number w ⊘ number (exponent binary32 w * hid binary32)

-- 0x3f31_7218 is ln 2
unfoldable pub logarithm : ℕ → Float
logarithm w = power w ⊗ number 0x3f31_7218 ⊕ polynomial (rest w)

unfoldable pub ln_word : ℕ → ℕ
ln_word w =
    let x = number w in
    cond (is_at x (number 0x3f80_0000)) 0 (to_bits binary32 (cond (lt x (number 0x3f80_0000)) (neg (logarithm (inv_word binary32 w))) (logarithm w)))
