-- The refusals in one table of the definitions: both sides of every end of a gate, and the operations that a refusal is about
-- beside those that it is not. And the ends of the gates as the numbers that are meant, the word that is judged, and where an answer is
-- not the raw word. Assumes nothing.
use Prim.Native.Nat.{ℕ, ◌+◌}
use mathlib.Core.Path.{◌≡◌, refl}
use mathlib.Core.Bool.{Bool, true, false, cond, not}
use mathlib.Core.List.{List, [], ◌∷◌, ◌++◌, map}
use lib.Dec.{eqb}
use lib.IntN.{pos, negsuc}
use lib.Ieee.{fin, binary32, add, sub, mul, div, lt, le, eq, nan_bits, of_bits, to_bits, of_int, to_signed}
use Rattle.float.specs.Cos.{cos_word}
use Rattle.float.specs.Ln.{polynomial, logarithm, ln_word}
use Rattle.guard.specs.Operations.{op_trunc, op_fract, op_floor, op_ceil, op_round, op_abs, op_copysign, op_signum, op_sqrt, op_invsqrt, op_inv, op_recip, op_exp, op_ln, op_powi, op_powf, op_atan, op_atan2, op_cos, op_sin, op_hypot, op_asin, op_acos, op_tan, op_rem_euclid, op_div_euclid}
use Rattle.guard.specs.Gates.{low, high, other, gate_of, judged_size, judged}
use Rattle.guard.specs.Refusals.{two_floats, refuses_zero, refuses_small, refuses_sign, refusal_behind, refusal_of}
use Rattle.guard.specs.Guarded.{value_of}

-- ---- the ends as numbers: 2 ^ 32, 2 ^ 31, 2 ^ 23, 2 ^ 126, 2 ^ 125, -87, 88, 2 ^ 64, 2 ^ -60, 2 ^ 62, 1 and 256

-- the word above an end that is under a bound
abbrev under : ℕ → ℕ
under op = high (gate_of op) + 1

abbrev to : ℕ → ℕ
to op = high (gate_of op)

abbrev from : ℕ → ℕ
from op = low (gate_of op)

pub ends_are_numbers : map (of_bits binary32)
    (under op_trunc ∷ under op_fract ∷ to op_floor ∷ to op_ceil ∷ under op_round ∷ to op_inv ∷ to op_recip ∷ from op_exp ∷ to op_exp ∷ from op_powf ∷ to op_powf
    ∷ under op_atan ∷ from op_atan2 ∷ to op_atan2 ∷ from op_hypot ∷ to op_hypot
    ∷ under op_asin ∷ from op_acos ∷ under op_acos ∷ under op_rem_euclid ∷ under op_div_euclid ∷ [])
    ≡ fin false 1 (pos 32) ∷ fin false 1 (pos 32) ∷ fin false 1 (pos 31) ∷ fin false 1 (pos 31) ∷ fin false 1 (pos 23) ∷ fin false 1 (pos 126) ∷ fin false 1 (pos 125)
    ∷ fin true 87 (pos 0) ∷ fin false 11 (pos 3) ∷ fin true 87 (pos 0) ∷ fin false 11 (pos 3)
    ∷ fin false 1 (pos 64) ∷ fin false 1 (negsuc 59) ∷ fin false 1 (pos 62) ∷ fin false 1 (negsuc 59) ∷ fin false 1 (pos 62)
    ∷ fin false 1 (pos 0) ∷ fin false 1 (negsuc 59) ∷ fin false 1 (pos 0) ∷ fin false 1 (pos 23) ∷ fin false 1 (pos 23) ∷ []
unfolding of_bits
ends_are_numbers = refl

-- cos, sin and tan end together, at 256
pub angles_end : map (of_bits binary32) (to op_cos ∷ to op_sin ∷ to op_tan ∷ []) ≡ fin false 1 (pos 8) ∷ fin false 1 (pos 8) ∷ fin false 1 (pos 8) ∷ []
unfolding of_bits
angles_end = refl

-- ---- the operations that a refusal is about, of all

abbrev all : List ℕ
all = op_trunc ∷ op_fract ∷ op_floor ∷ op_ceil ∷ op_round ∷ op_abs ∷ op_copysign ∷ op_signum ∷ op_sqrt ∷ op_invsqrt ∷ op_inv ∷ op_recip ∷ op_exp ∷ op_ln ∷ op_powi ∷ op_powf ∷ op_atan ∷ op_atan2 ∷ op_cos ∷ op_sin ∷ op_hypot ∷ op_asin ∷ op_acos ∷ op_tan ∷ op_rem_euclid ∷ op_div_euclid ∷ []

abbrev of_two_floats : List ℕ
of_two_floats = op_copysign ∷ op_powf ∷ op_atan2 ∷ op_hypot ∷ op_rem_euclid ∷ op_div_euclid ∷ []

abbrev of_zeros : List ℕ
of_zeros = op_invsqrt ∷ op_inv ∷ op_recip ∷ op_ln ∷ op_powi ∷ op_powf ∷ []

abbrev of_small : List ℕ
of_small = op_sqrt ∷ of_zeros

-- that take both zeros and small numbers; acos takes zeros alone
abbrev of_neither : List ℕ
of_neither = op_trunc ∷ op_fract ∷ op_floor ∷ op_ceil ∷ op_round ∷ op_abs ∷ op_copysign ∷ op_signum ∷ op_exp ∷ op_atan ∷ op_atan2 ∷ op_cos ∷ op_sin ∷ op_hypot ∷ op_asin ∷ op_tan ∷ op_rem_euclid ∷ op_div_euclid ∷ []

abbrev of_signs : List ℕ
of_signs = op_sqrt ∷ op_invsqrt ∷ op_ln ∷ op_powf ∷ []

abbrev kept : (ℕ → Bool) → List ℕ → List ℕ
kept p [] = []
kept p (op ∷ ops) = cond (p op) (op ∷ kept p ops) (kept p ops)

pub two_floats_are : kept two_floats all ≡ of_two_floats
two_floats_are = refl

pub zero_refusers : kept refuses_zero all ≡ of_zeros
zero_refusers = refl

pub small_refusers : kept refuses_small all ≡ of_small
small_refusers = refl

pub sign_refusers : kept refuses_sign all ≡ of_signs
sign_refusers = refl

-- ---- the rows that do not begin at 0, and those with a word that is judged the other way

pub not_from_zero : kept (λ op. not (eqb (from op) 0x0000_0000)) all ≡ op_exp ∷ op_powf ∷ op_atan2 ∷ op_hypot ∷ op_acos ∷ []
not_from_zero = refl

pub otherwise : (kept (λ op. not (eqb (other (gate_of op)) 0xffff_ffff)) all ≡ op_round ∷ op_acos ∷ []) × (other (gate_of op_round) ∷ other (gate_of op_acos) ∷ [] ≡ 0x3eff_ffff ∷ 0x0000_0000 ∷ [])
otherwise = (refl, refl)

-- ---- an operation, its two words, and the refusal

pub record Case : Type 0 where
  pub op : ℕ
  pub first : ℕ
  pub second : ℕ
  pub refusal : ℕ

abbrev at : ℕ → ℕ → ℕ → ℕ → Case
at op a b n = record { op = op; first = a; second = b; refusal = n }

-- both sides of each end
abbrev pub ends : List Case
ends =
    at op_trunc 0x4f7f_ffff 0x0000_0000 0
    ∷ at op_trunc 0xcf7f_ffff 0x0000_0000 0
    ∷ at op_trunc 0x4f80_0000 0x0000_0000 4
    ∷ at op_trunc 0xcf80_0000 0x0000_0000 4
    ∷ at op_fract 0x4f7f_ffff 0x0000_0000 0
    ∷ at op_fract 0x4f80_0000 0x0000_0000 4
    ∷ at op_floor 0x4f00_0000 0x0000_0000 0
    ∷ at op_floor 0xcf00_0000 0x0000_0000 0
    ∷ at op_floor 0x4f00_0001 0x0000_0000 4
    ∷ at op_floor 0xcf00_0001 0x0000_0000 4
    ∷ at op_floor 0x8000_0001 0x0000_0000 0
    ∷ at op_ceil 0x4f00_0000 0x0000_0000 0
    ∷ at op_ceil 0x4f00_0001 0x0000_0000 4
    ∷ at op_round 0x4aff_ffff 0x0000_0000 0
    ∷ at op_round 0x4b00_0000 0x0000_0000 4
    ∷ at op_round 0x3eff_ffff 0x0000_0000 4
    ∷ at op_round 0xbeff_ffff 0x0000_0000 4
    ∷ at op_round 0x3eff_fffe 0x0000_0000 0
    ∷ at op_round 0x3f00_0000 0x0000_0000 0
    ∷ at op_sqrt 0x0080_0000 0x0000_0000 0
    ∷ at op_sqrt 0x007f_ffff 0x0000_0000 9
    ∷ at op_sqrt 0x0000_0000 0x0000_0000 0
    ∷ at op_sqrt 0x8000_0000 0x0000_0000 0
    ∷ at op_sqrt 0x807f_ffff 0x0000_0000 9
    ∷ at op_sqrt 0x8080_0000 0x0000_0000 3
    ∷ at op_sqrt 0x7f7f_ffff 0x0000_0000 0
    ∷ at op_sqrt 0x7f80_0000 0x0000_0000 1
    ∷ at op_invsqrt 0x0080_0000 0x0000_0000 0
    ∷ at op_invsqrt 0x007f_ffff 0x0000_0000 9
    ∷ at op_inv 0x7e80_0000 0x0000_0000 0
    ∷ at op_inv 0x7e80_0001 0x0000_0000 4
    ∷ at op_inv 0xfe80_0000 0x0000_0000 0
    ∷ at op_inv 0xfe80_0001 0x0000_0000 4
    ∷ at op_inv 0xff7f_ffff 0x0000_0000 4
    ∷ at op_recip 0x7e00_0000 0x0000_0000 0
    ∷ at op_recip 0xfe00_0000 0x0000_0000 0
    ∷ at op_recip 0x7e00_0001 0x0000_0000 4
    ∷ at op_recip 0xfe00_0001 0x0000_0000 4
    ∷ at op_exp 0xc2ae_0000 0x0000_0000 0
    ∷ at op_exp 0xc2ae_0001 0x0000_0000 4
    ∷ at op_exp 0x42b0_0000 0x0000_0000 0
    ∷ at op_exp 0x42b0_0001 0x0000_0000 4
    ∷ at op_exp 0x8000_0000 0x0000_0000 0
    ∷ at op_ln 0x0080_0000 0x0000_0000 0
    ∷ at op_ln 0x007f_ffff 0x0000_0000 9
    ∷ at op_powi 0x3f80_0000 0x0010_0000 0
    ∷ at op_powi 0x3f80_0000 0x0010_0001 5
    ∷ at op_powi 0x3f80_0000 0xfff0_0000 0
    ∷ at op_powi 0x3f80_0000 0xffef_ffff 5
    ∷ at op_powi 0x3f80_0000 0x7f80_0000 5
    ∷ at op_powi 0x3f80_0000 0x8000_0000 5
    ∷ at op_powi 0x007f_ffff 0x0000_0000 9
    ∷ at op_powf 0x4000_0000 0x42fd_e464 0
    ∷ at op_powf 0x4000_0000 0x42fd_e465 4
    ∷ at op_powf 0x4000_0000 0xc2fb_01cb 0
    ∷ at op_powf 0x4000_0000 0xc2fb_01cc 4
    ∷ at op_powf 0x4000_0000 0x7f7f_ffff 4
    ∷ at op_powf 0x4000_0000 0x7f80_0000 1
    ∷ at op_powf 0x8000_0000 0x3f80_0000 2
    ∷ at op_powf 0xc000_0000 0x3f80_0000 3
    ∷ at op_copysign 0x3f80_0000 0x7f80_0000 1
    ∷ at op_copysign 0x3f80_0000 0x7f7f_ffff 0
    ∷ at op_atan 0x5f7f_ffff 0x0000_0000 0
    ∷ at op_atan 0xdf7f_ffff 0x0000_0000 0
    ∷ at op_atan 0x5f80_0000 0x0000_0000 4
    ∷ at op_atan2 0x2180_0000 0x0000_0000 0
    ∷ at op_atan2 0x217f_ffff 0x0000_0000 4
    ∷ at op_atan2 0x0000_0000 0xa180_0000 0
    ∷ at op_atan2 0x0000_0000 0xa17f_ffff 4
    ∷ at op_atan2 0x5e80_0000 0x0000_0000 0
    ∷ at op_atan2 0x5e80_0001 0x0000_0000 4
    ∷ at op_atan2 0x0000_0000 0xde80_0000 0
    ∷ at op_atan2 0x0000_0000 0xde80_0001 4
    ∷ at op_atan2 0x0000_0000 0x0000_0000 4
    ∷ at op_atan2 0x0000_0000 0x7f80_0000 1
    ∷ at op_hypot 0x2180_0000 0x0000_0000 0
    ∷ at op_hypot 0x217f_ffff 0x0000_0000 4
    ∷ at op_hypot 0x0000_0000 0x2180_0000 0
    ∷ at op_hypot 0x0000_0000 0x217f_ffff 4
    ∷ at op_hypot 0xde80_0000 0x0000_0000 0
    ∷ at op_hypot 0xde80_0001 0x0000_0000 4
    ∷ at op_hypot 0x0000_0000 0x5e80_0000 0
    ∷ at op_hypot 0x0000_0000 0x5e80_0001 4
    ∷ at op_cos 0x4380_0000 0x0000_0000 0
    ∷ at op_cos 0xc380_0000 0x0000_0000 0
    ∷ at op_cos 0x4380_0001 0x0000_0000 4
    ∷ at op_cos 0xc380_0001 0x0000_0000 4
    ∷ at op_sin 0x4380_0000 0x0000_0000 0
    ∷ at op_sin 0xc380_0000 0x0000_0000 0
    ∷ at op_sin 0x4380_0001 0x0000_0000 4
    ∷ at op_sin 0xc380_0001 0x0000_0000 4
    ∷ at op_asin 0x3f7f_ffff 0x0000_0000 0
    ∷ at op_asin 0xbf7f_ffff 0x0000_0000 0
    ∷ at op_asin 0x3f80_0000 0x0000_0000 4
    ∷ at op_asin 0xbf80_0000 0x0000_0000 4
    ∷ at op_acos 0x0000_0000 0x0000_0000 0
    ∷ at op_acos 0x8000_0000 0x0000_0000 0
    ∷ at op_acos 0x0000_0001 0x0000_0000 4
    ∷ at op_acos 0x8000_0001 0x0000_0000 4
    ∷ at op_acos 0x217f_ffff 0x0000_0000 4
    ∷ at op_acos 0xa17f_ffff 0x0000_0000 4
    ∷ at op_acos 0x2180_0000 0x0000_0000 0
    ∷ at op_acos 0xa180_0000 0x0000_0000 0
    ∷ at op_acos 0x3f7f_ffff 0x0000_0000 0
    ∷ at op_acos 0xbf7f_ffff 0x0000_0000 0
    ∷ at op_acos 0x3f80_0000 0x0000_0000 4
    ∷ at op_acos 0xbf80_0000 0x0000_0000 4
    ∷ at op_tan 0x4380_0000 0x0000_0000 0
    ∷ at op_tan 0xc380_0000 0x0000_0000 0
    ∷ at op_tan 0x4380_0001 0x0000_0000 4
    ∷ at op_tan 0xc380_0001 0x0000_0000 4
    ∷ at op_tan 0x3fc9_0fda 0x0000_0000 0
    ∷ at op_tan 0xbfc9_0fda 0x0000_0000 4
    ∷ at op_tan 0x3fc9_0fdb 0x0000_0000 4
    ∷ at op_tan 0xbfc9_0fdb 0x0000_0000 4
    ∷ at op_rem_euclid 0x4aff_ffff 0x3f80_0000 0
    ∷ at op_rem_euclid 0xcaff_ffff 0x3f80_0000 0
    ∷ at op_rem_euclid 0x4b00_0000 0x3f80_0000 4
    ∷ at op_rem_euclid 0x4b00_0000 0xbf80_0000 4
    ∷ at op_rem_euclid 0x7f7f_ffff 0x7f7f_ffff 0
    ∷ at op_rem_euclid 0x3f80_0000 0x0000_0000 4
    ∷ at op_rem_euclid 0x0000_0000 0x8000_0000 4
    ∷ at op_rem_euclid 0x3f80_0000 0x0000_0001 4
    ∷ at op_rem_euclid 0x0000_0001 0x0000_0001 0
    ∷ at op_div_euclid 0x4aff_ffff 0xbf80_0000 0
    ∷ at op_div_euclid 0x4b00_0000 0x3f80_0000 4
    ∷ at op_div_euclid 0xcb00_0000 0x3f80_0000 4
    ∷ at op_div_euclid 0x7f7f_ffff 0x7f7f_ffff 0
    ∷ at op_div_euclid 0x3f80_0000 0x8000_0000 4
    ∷ at op_div_euclid 0x0000_0000 0x0000_0000 4
    ∷ []

-- the same of several operations
abbrev each : List ℕ → ℕ → ℕ → ℕ → List Case
each ops a b n = map (λ op. at op a b n) ops

-- each list of operations that a refusal is about, and beside it the others, which answer such words or refuse them otherwise
abbrev pub lists : List Case
lists =
    -- 1: the first operand of each, before anything else, and the second of six
    each all 0xff80_0000 0x0000_0000 1
    ++ each of_two_floats 0x3f80_0000 0x7f80_0000 1
    ++ each of_two_floats 0x0000_0000 0x7f80_0000 1
    ++ each (op_powi ∷ []) 0x7f80_0000 0x0010_0001 1
    ++ each (op_powf ∷ []) 0x8000_0001 0x7f80_0000 1
    ++ each (op_powf ∷ []) 0xc000_0000 0xff80_0000 1
    ++ each (op_trunc ∷ op_fract ∷ op_floor ∷ op_ceil ∷ op_round ∷ op_abs ∷ op_signum ∷ op_sqrt ∷ op_invsqrt ∷ op_inv ∷ op_recip ∷ op_exp ∷ op_ln ∷ op_atan ∷ op_cos ∷ op_sin ∷ op_tan ∷ []) 0x4000_0000 0xff80_0000 0
    ++ each (op_asin ∷ op_acos ∷ []) 0x3f00_0000 0xff80_0000 0
    -- 2: a zero, before the gate and the power; sqrt answers it, with either sign
    ++ each of_zeros 0x0000_0000 0x0000_0000 2
    ++ each of_zeros 0x8000_0000 0x7f7f_ffff 2
    ++ each (op_sqrt ∷ op_acos ∷ of_neither) 0x0000_0000 0x3f80_0000 0
    ++ each (op_sqrt ∷ op_acos ∷ of_neither) 0x8000_0000 0x3f80_0000 0
    -- 9: a small first operand, from the words beside the zeros to those beside the normal numbers, before the sign, the gate and the power
    ++ each of_small 0x0000_0001 0x0000_0000 9
    ++ each of_small 0x007f_ffff 0x0010_0001 9
    ++ each of_small 0x8000_0001 0x0000_0000 9
    ++ each of_small 0x807f_ffff 0x7f7f_ffff 9
    ++ each of_small 0x0080_0000 0x0000_0001 0
    ++ each (op_inv ∷ op_recip ∷ op_powi ∷ []) 0x8080_0000 0x0000_0001 0
    ++ each of_neither 0x807f_ffff 0x3f80_0000 0
    -- 3: a first operand below 0, before the gate, which powf's product would not pass
    ++ each of_signs 0x8080_0000 0x0000_0000 3
    ++ each (op_powf ∷ []) 0xc000_0000 0x7f7f_ffff 3
    ++ each (op_trunc ∷ op_fract ∷ op_floor ∷ op_ceil ∷ op_round ∷ op_abs ∷ op_copysign ∷ op_signum ∷ op_inv ∷ op_recip ∷ op_exp ∷ op_powi ∷ op_atan ∷ op_atan2 ∷ op_cos ∷ op_sin ∷ op_hypot ∷ op_tan ∷ []) 0xbf80_0000 0x0000_0001 0
    ++ each (op_asin ∷ op_acos ∷ op_rem_euclid ∷ op_div_euclid ∷ []) 0xbf00_0000 0xbf80_0000 0
    -- 4: no gate
    ++ each (op_abs ∷ op_copysign ∷ op_signum ∷ op_sqrt ∷ op_invsqrt ∷ op_ln ∷ op_powi ∷ []) 0x7f7f_ffff 0x0000_0001 0
    -- 5: the power is powi's, and no float's place
    ++ each (op_powi ∷ []) 0x4000_0000 0xff80_0000 5
    ++ each (op_copysign ∷ op_atan2 ∷ op_hypot ∷ []) 0x4000_0000 0xbf80_0000 0
    ++ each (op_powf ∷ []) 0x3f80_0000 0x7f7f_ffff 0

abbrev pub cases : List Case
cases = ends ++ lists

pub edges : map (λ c. refusal_of c.op c.first c.second) cases ≡ map (λ c. c.refusal) cases
unfolding refusal_behind judged polynomial logarithm ln_word cos_word add sub mul div lt nan_bits of_bits to_bits of_int to_signed
edges = refl

-- ---- the word that is judged: the larger of two, an infinity for tan beside a zero cosine, a quotient, and else the operand's magnitude; exp's
-- with its sign, and powf's product

pub judged_sizes : (judged_size op_atan2 0xbf80_0000 0xc000_0000 ∷ judged_size op_hypot 0xc000_0000 0x3f80_0000
    ∷ judged_size op_tan 0xbfc9_0fda 0 ∷ judged_size op_tan 0x3fc9_0fda 0 ∷ judged_size op_tan 0xbfc9_0fdb 0
    ∷ judged_size op_rem_euclid 0xc120_0000 0x4000_0000 ∷ judged_size op_div_euclid 0x4120_0000 0xc000_0000 ∷ judged_size op_div_euclid 0x0000_0000 0x0000_0000
    ∷ judged_size op_acos 0x8000_0000 0 ∷ judged_size op_cos 0xbfc9_0fdb 0 ∷ judged_size op_inv 0xbf80_0000 0 ∷ [])
    ≡ 0x4000_0000 ∷ 0x4000_0000
    ∷ 0x7f80_0000 ∷ 0x3fc9_0fda ∷ 0x7f80_0000
    ∷ 0x40a0_0000 ∷ 0x40a0_0000 ∷ 0x7fc0_0000
    ∷ 0x0000_0000 ∷ 0x3fc9_0fdb ∷ 0x3f80_0000 ∷ []
unfolding cos_word add sub mul div lt nan_bits of_bits to_bits of_int to_signed
judged_sizes = refl

pub judged_words : (judged op_exp 0xc000_0000 0 ∷ judged op_powf 0x3f80_0000 0xc000_0000 ∷ judged op_abs 0xc000_0000 0 ∷ []) ≡ 0xc000_0000 ∷ 0x8000_0000 ∷ 0x4000_0000 ∷ []
unfolding judged polynomial logarithm ln_word add sub mul div lt nan_bits of_bits to_bits of_int
judged_words = refl

-- ---- the value of an answered call: sqrt's of a zero is that zero, sqrt's of any other word and another operation's of a zero are raw, and so
-- is inv's of a number below 0, which keeps the sign

pub values : (value_of op_sqrt 0x0000_0000 0 ∷ value_of op_sqrt 0x8000_0000 0 ∷ value_of op_sqrt 0x0000_0001 0 ∷ value_of op_sqrt 0x4080_0000 0
    ∷ value_of op_abs 0x8000_0000 0 ∷ value_of op_signum 0x8000_0000 0 ∷ value_of op_inv 0x0000_0000 0
    ∷ value_of op_inv 0xbf80_0000 0 ∷ value_of op_inv 0x8080_0000 0 ∷ value_of op_inv 0xfe80_0000 0 ∷ [])
    ≡ 0x0000_0000 ∷ 0x8000_0000 ∷ 0x1fc0_0000 ∷ 0x4000_0000 ∷ 0x0000_0000 ∷ 0xbf80_0000 ∷ 0x7f00_0000
    ∷ 0xbf80_0000 ∷ 0xfe80_0000 ∷ 0x8080_0000 ∷ []
unfolding le lt eq nan_bits of_bits
values = refl
