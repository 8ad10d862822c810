-- powf's answer to a positive normal number is no NaN, as long as the power times the logarithm lies where exp's is none. Assumes nothing.
use Prim.Native.Nat.{ℕ, ◌≤◌}
use native.Mathlib.Nat.{le_of_lt}
use mathlib.Core.Path.{◌≡◌}
use mathlib.Core.Logic.{◌⊎◌}
use mathlib.Core.Bool.{false}
use lib.Ieee.{binary32, nan_bits}
use Rattle.format.specs.Estimates.{Normal}
use Rattle.format.proofs.AtLeastZero.{up_to_infinity}
use Rattle.float.specs.Powf.{product_word, powf_word}
use Rattle.sizes.proofs.Exp.{exp_number}

pub powf_number : (w n : ℕ) → Normal binary32 w → (product_word w n ≤ 0x42b0_0000) ⊎ ((0x8000_0000 ≤ product_word w n) × (product_word w n ≤ 0xc2ae_0000))
    → nan_bits binary32 (powf_word w n) ≡ false
unfolding powf_word
powf_number w n h k = rw (up_to_infinity binary32 w (le_of_lt h.below)) (exp_number (product_word w n) k)
