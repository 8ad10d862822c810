-- The kernels that work on a word's bits answer with a number, not a NaN, wherever their meaning is stated, and sqrt from 0 up to the infinity.
-- Assumes nothing.
use Prim.Native.Nat.{ℕ, ◌+◌, ◌/◌, ◌%◌, ◌^◌, ◌≤◌, ◌<◌}
use native.Mathlib.Nat.{le_of_lt}
use native.Mathlib.Omega.{arith}
use mathlib.Core.Path.{◌≡◌}
use mathlib.Core.Bool.{false}
use lib.Ieee.{binary32, nan_bits}
use Rattle.format.specs.Fields.{magnitude, one_word}
use Rattle.format.specs.Value.{Finite}
use Rattle.format.specs.Sign.{abs_word, copysign_word, signum_word}
use Rattle.format.specs.Parts.{trunc_word, fract_word}
use Rattle.format.specs.Whole.{floor_word, ceil_word, round_word}
use Rattle.format.specs.Meaning.{Under32, To31, Under23}
use Rattle.format.specs.Estimates.{sqrt_word, inv_word, invsqrt_word, Normal, Invertible}
use Rattle.format.proofs.Nan.{finite_number}
use Rattle.format.proofs.Sign.{abs_is, copysign_is}
use Rattle.format.proofs.PartsMeaning.{trunc_under, fract_under}
use Rattle.format.proofs.FloorMeaning.{floor_is, ceil_is}
use Rattle.format.proofs.RoundMeaning.{round_is_nearest}
use Rattle.format.proofs.Inv.{inv_bound_by_size}
use Rattle.format.proofs.AtLeastZero.{up_to_infinity}
use Rattle.format.proofs.Invsqrt.{invsqrt_finite}

-- ---- the whole and fraction parts

pub trunc_number : (w : ℕ) → w < 2 ^ 32 → Under32 w → nan_bits binary32 (trunc_word binary32 w) ≡ false
trunc_number w l h = finite_number binary32 (trunc_word binary32 w) (trunc_under binary32 w l h).finite

pub fract_number : (w : ℕ) → Under32 w → nan_bits binary32 (fract_word binary32 w) ≡ false
fract_number w h = finite_number binary32 (fract_word binary32 w) (fract_under binary32 w h).finite

pub floor_number : (w : ℕ) → To31 w → nan_bits binary32 (floor_word binary32 w) ≡ false
floor_number w h = finite_number binary32 (floor_word binary32 w) (floor_is w h).finite

pub ceil_number : (w : ℕ) → To31 w → nan_bits binary32 (ceil_word binary32 w) ≡ false
ceil_number w h = finite_number binary32 (ceil_word binary32 w) (ceil_is w h).finite

pub round_number : (w : ℕ) → Under23 w → nan_bits binary32 (round_word binary32 w) ≡ false
round_number w h = finite_number binary32 (round_word binary32 w) (round_is_nearest w h).finite

-- ---- the sign

pub abs_number : (w : ℕ) → Finite binary32 w → nan_bits binary32 (abs_word binary32 w) ≡ false
abs_number w h = finite_number binary32 (abs_word binary32 w) (rw (abs_is binary32 w).field h)

pub copysign_number : (w v : ℕ) → Finite binary32 w → nan_bits binary32 (copysign_word binary32 w v) ≡ false
copysign_number w v h = finite_number binary32 (copysign_word binary32 w v) (rw (copysign_is binary32 w v).field h)

pub signum_number : (w : ℕ) → Finite binary32 w → nan_bits binary32 (signum_word binary32 w) ≡ false
signum_number w h = rw (finite_number binary32 w h) (copysign_number (one_word binary32) w (omega arith))

-- ---- the estimates

-- of every word with its sign clear that is no NaN
pub sqrt_of_word : (w : ℕ) → w ≤ 0x7f80_0000 → nan_bits binary32 (sqrt_word binary32 w) ≡ false
sqrt_of_word w h = rw (up_to_infinity binary32 w h) (finite_number binary32 ((w + 0x3f80_0000) % 2 ^ 32 / 2) (omega arith))

pub sqrt_number : (w : ℕ) → Normal binary32 w → nan_bits binary32 (sqrt_word binary32 w) ≡ false
sqrt_number w n = sqrt_of_word w (le_of_lt n.below)

pub inv_number : (w : ℕ) → w < 2 ^ 32 → Invertible binary32 (magnitude binary32 w) → nan_bits binary32 (inv_word binary32 w) ≡ false
inv_number w l h = finite_number binary32 (inv_word binary32 w) (inv_bound_by_size binary32 w l h).finite

pub invsqrt_number : (w : ℕ) → Normal binary32 w → nan_bits binary32 (invsqrt_word w) ≡ false
invsqrt_number w h = finite_number binary32 (invsqrt_word w) (invsqrt_finite w h)
