-- What a call gives that may be refused: the number of its refusal, and whether it is answered. Definitions only.
use Rattle.std.specs.Prelude.{ℕ, zero, suc, Result, Ok, Err}
use Rattle.refusals.specs.declared.Refusal.{Refusal}
use Rattle.refusals.specs.Numbers.{number_of, numbered}

-- 0 where the call is answered
abbrev pub refusal_given : {T : Type 0} → Result T Refusal → ℕ
refusal_given (Ok x) = 0
refusal_given (Err r) = number_of r

-- the call was not refused
abbrev pub Answered : {T : Type 0} → Result T Refusal → Type 0
Answered (Ok x) = Unit {0}
Answered (Err r) = ⊥

abbrev pub refused_with : {T : Type 0} → ℕ → Result T Refusal
refused_with n = Err (numbered n)

-- refused with n, or where n is 0 answered with x
abbrev pub given : {T : Type 0} → ℕ → T → Result T Refusal
given zero x = Ok x
given (suc n) x = refused_with (suc n)
