-- The gates of the operations on doubles, and their refusals 1, 2, 9, 3 and 4, in the order in which they are judged. Definitions only.
use Rattle.std.specs.Prelude.{ℕ, Bool, not, ◌||◌, List, [], ◌∷◌, get_or, leb, eqb}
use Rattle.std.specs.Float.{binary64}
use Rattle.format.specs.Fields.{magnitude}
use Rattle.format.specs.Classes.{is_endless, is_zero, is_small, is_below_zero}
use Rattle.format.specs.First.{Refusal, every, first_of}
use Rattle.double.specs.Operations.{op_sqrt, op_inv}

-- ---- the gates

-- every finite magnitude passes
abbrev pub unbounded : ℕ
unbounded = 0x7fef_ffff_ffff_ffff

-- the highest magnitude that passes, in the order of the numbers, from 00, which is no operation; an end that is "under" a bound is the
-- word below it
abbrev pub gates : List ℕ
gates =
    unbounded
    ∷ 0x43ef_ffff_ffff_ffff  -- trunc: |x| under 2 ^ 64
    ∷ 0x43ef_ffff_ffff_ffff  -- fract: the same
    ∷ unbounded
    ∷ unbounded
    ∷ unbounded
    ∷ unbounded
    ∷ unbounded
    ∷ unbounded
    ∷ unbounded  -- sqrt
    ∷ unbounded
    ∷ 0x7fd0_0000_0000_0000  -- inv: |x| to 2 ^ 1022
    ∷ []

abbrev pub gate_of : ℕ → ℕ
gate_of op = get_or gates op unbounded

abbrev pub passes : ℕ → ℕ → Bool
passes g w = leb (magnitude binary64 w) g

-- ---- the operations that a rule is about

abbrev pub refuses_zero : ℕ → Bool
refuses_zero op = eqb op op_inv

-- sqrt answers a zero, and takes no small number
abbrev pub refuses_small : ℕ → Bool
refuses_small op = eqb op op_sqrt || refuses_zero op

abbrev pub refuses_sign : ℕ → Bool
refuses_sign op = eqb op op_sqrt

-- ---- the rules

-- behind a gate, which is the operation's own; no operation on doubles has a second word
abbrev pub refusals : ℕ → List Refusal
refusals g =
    record { number = 1; by = every; when = λ op a b. is_endless binary64 a }
    ∷ record { number = 2; by = refuses_zero; when = λ op a b. is_zero binary64 a }
    ∷ record { number = 9; by = refuses_small; when = λ op a b. is_small binary64 a }
    ∷ record { number = 3; by = refuses_sign; when = λ op a b. is_below_zero binary64 a }
    ∷ record { number = 4; by = every; when = λ op a b. not (passes g a) }
    ∷ []

unfoldable pub refusal_behind : ℕ → ℕ → ℕ → ℕ
refusal_behind g op a = first_of (refusals g) op a 0

-- behind the operation's own gate
abbrev pub refusal_of : ℕ → ℕ → ℕ
refusal_of op a = refusal_behind (gate_of op) op a
