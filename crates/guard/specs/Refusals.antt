-- The refusals 1, 2, 9, 3, 4 and 5, in the order in which they are judged: each has its number, the operations that can give it, and
-- when it holds. The first that holds is given. Definitions only.
use Rattle.std.specs.Prelude.{ℕ, ◌^◌, Bool, not, ◌||◌, List, [], ◌∷◌, ltb, eqb, nat_abs}
use Rattle.std.specs.Float.{binary32}
use Rattle.std.specs.Int.{w32}
use Rattle.std.proofs.Common.{to_z}
use Rattle.format.specs.Classes.{is_endless, is_zero, is_small, is_below_zero}
use Rattle.format.specs.First.{among, every, Refusal, first_of}
use Rattle.guard.specs.declared.gate.Gate.{Gate}
use Rattle.guard.specs.Operations.{op_copysign, op_sqrt, op_invsqrt, op_inv, op_recip, op_ln, op_powi, op_powf, op_atan2, op_hypot, op_rem_euclid, op_div_euclid}
use Rattle.guard.specs.Gates.{gate_of, passes, judged}

-- powi's second word as a power: below -2 ^ 20 or above 2 ^ 20
abbrev pub is_past_power : ℕ → Bool
is_past_power n = ltb (2 ^ 20) (nat_abs (to_z w32 n))

-- ---- the operations that a rule is about

-- the second operand is a float
abbrev pub two_floats : ℕ → Bool
two_floats = among (op_copysign ∷ op_powf ∷ op_atan2 ∷ op_hypot ∷ op_rem_euclid ∷ op_div_euclid ∷ [])

-- these have no answer for a zero
abbrev pub refuses_zero : ℕ → Bool
refuses_zero = among (op_invsqrt ∷ op_inv ∷ op_recip ∷ op_ln ∷ op_powi ∷ op_powf ∷ [])

-- these and sqrt take no small number; sqrt answers a zero
abbrev pub refuses_small : ℕ → Bool
refuses_small op = eqb op op_sqrt || refuses_zero op

abbrev pub refuses_sign : ℕ → Bool
refuses_sign = among (op_sqrt ∷ op_invsqrt ∷ op_ln ∷ op_powf ∷ [])

-- ---- the rules

-- behind a gate, which is the operation's own, in the order of the table; 1 stands twice, for the first operand and for a second that is
-- a float
abbrev pub refusals : Gate → List Refusal
refusals g =
    record { number = 1; by = every; when = λ op a b. is_endless binary32 a }
    ∷ record { number = 1; by = two_floats; when = λ op a b. is_endless binary32 b }
    ∷ record { number = 2; by = refuses_zero; when = λ op a b. is_zero binary32 a }
    ∷ record { number = 9; by = refuses_small; when = λ op a b. is_small binary32 a }
    ∷ record { number = 3; by = refuses_sign; when = λ op a b. is_below_zero binary32 a }
    ∷ record { number = 4; by = every; when = λ op a b. not (passes g (judged op a b)) }
    ∷ record { number = 5; by = among (op_powi ∷ []); when = λ op a b. is_past_power b }
    ∷ []

unfoldable pub refusal_behind : Gate → ℕ → ℕ → ℕ → ℕ
refusal_behind g op a b = first_of (refusals g) op a b

-- behind the operation's own gate
abbrev pub refusal_of : ℕ → ℕ → ℕ → ℕ
refusal_of op a b = refusal_behind (gate_of op) op a b
