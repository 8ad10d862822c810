-- How a double's answer goes with its operand: the laws of `format` at binary64, and the words where each ends. Assumes nothing.
use Prim.Native.Nat.{ℕ, ◌^◌, ◌≤◌, ◌<◌}
use mathlib.Core.Path.{◌≡◌, refl}
use mathlib.Core.Bool.{true, false}
use lib.Dec.{lit<}
use lib.Ieee.{binary64, le, lt, eq, of_bits}
use Rattle.format.specs.Estimates.{sqrt_word, inv_word, Normal}
use Rattle.format.specs.Ordered.{Unsigned, Unwrapped, EvenPower, NoLarger, Squares, OddAt}
use Rattle.format.proofs.EstimateOrder as order
use Rattle.format.proofs.SqrtExact as exact

-- ---- sqrt

-- each answer is a positive normal number
pub sqrt_normal : (w : ℕ) → Unsigned binary64 w → Normal binary64 (sqrt_word binary64 w)
sqrt_normal = order.sqrt_normal binary64

pub sqrt_keeps_order : (w v : ℕ) → Unsigned binary64 v → w ≤ v → NoLarger binary64 (sqrt_word binary64 w) (sqrt_word binary64 v)
sqrt_keeps_order = order.sqrt_keeps_order binary64

pub sqrt_rises : (w v : ℕ) → Unsigned binary64 w → Unsigned binary64 v → le (of_bits binary64 w) (of_bits binary64 v) ≡ true → NoLarger binary64 (sqrt_word binary64 w) (sqrt_word binary64 v)
sqrt_rises = order.sqrt_rises binary64

-- at each normal even power of two its square is the number, with nothing over
pub sqrt_exact : (i j w : ℕ) → EvenPower binary64 i j w → Squares binary64 (sqrt_word binary64 w) w
sqrt_exact = exact.sqrt_exact binary64

-- it does not always rise; and past the infinity the answers' words fall, from a NaN's root to that of -0
pub sqrt_rests : sqrt_word binary64 0x0000_0000_0000_0000 ≡ sqrt_word binary64 0x0000_0000_0000_0001
unfolding le lt eq of_bits
sqrt_rests = refl

pub sqrt_falls_past : sqrt_word binary64 0x8000_0000_0000_0000 < sqrt_word binary64 0x7ff0_0000_0000_0001
unfolding le lt eq of_bits
sqrt_falls_past = lit< tt

-- ---- inv

pub inv_turns_order : (w v : ℕ) → Unwrapped binary64 v → w ≤ v → NoLarger binary64 (inv_word binary64 v) (inv_word binary64 w)
inv_turns_order = order.inv_turns_order binary64

pub inv_apart : (w v : ℕ) → Unwrapped binary64 v → w < v → (inv_word binary64 v < inv_word binary64 w) × (le (of_bits binary64 (inv_word binary64 w)) (of_bits binary64 (inv_word binary64 v)) ≡ false)
inv_apart = order.inv_apart binary64

-- past 2 ^ 1023 the subtraction wraps: from 0 to the last word of all, a NaN
pub inv_wraps : (inv_word binary64 0x7fe0_0000_0000_0000 ≡ 0) × (inv_word binary64 0x7fe0_0000_0000_0001 ≡ 0xffff_ffff_ffff_ffff)
inv_wraps = (refl, refl)

pub inv_odd : (w : ℕ) → w < 2 ^ 64 → OddAt binary64 (inv_word binary64) w
inv_odd = order.inv_odd binary64
