-- A call is answered exactly where the number of its refusal is 0, and that number says which refusal it is. Assumes nothing.
use Rattle.std.proofs.Common.{ℕ, zero, suc, ◌≤◌, ◌≡◌, refl, sym, ap, ◌∙◌, Result, Ok, Err}
use Rattle.std.proofs.Common.{arith}
use Rattle.std.specs.Result.{result_unwrap_or}
use Rattle.refusals.specs.declared.Refusal.{Refusal}
use Rattle.refusals.specs.declared.Refusal.TheVariants.{NotFinite, Zero, Negative, Outside, PowerOutside, NoSuchOperation, Malformed, NoRoom, Small, Lengths, Full, WornOut, TooLong, TooDeep, NotARecipe}
use Rattle.refusals.specs.Numbers.{number_of, numbered}
use Rattle.refusals.specs.Given.{refusal_given, Answered, given}
use Rattle.refusals.proofs.Numbers.{back}

pub not_0 : (r : Refusal) → number_of r ≡ 0 → ⊥
not_0 NotFinite e = omega (arith, e)
not_0 Zero e = omega (arith, e)
not_0 Negative e = omega (arith, e)
not_0 Outside e = omega (arith, e)
not_0 PowerOutside e = omega (arith, e)
not_0 NoSuchOperation e = omega (arith, e)
not_0 Malformed e = omega (arith, e)
not_0 NoRoom e = omega (arith, e)
not_0 Small e = omega (arith, e)
not_0 Lengths e = omega (arith, e)
not_0 Full e = omega (arith, e)
not_0 WornOut e = omega (arith, e)
not_0 TooLong e = omega (arith, e)
not_0 TooDeep e = omega (arith, e)
not_0 NotARecipe e = omega (arith, e)

module _ {T : Type 0} where
  pub answered_none : (r : Result T Refusal) → Answered r → refusal_given r ≡ 0
  answered_none (Ok x) h = refl
  answered_none (Err r) h = absurd h

  pub none_answered : (r : Result T Refusal) → refusal_given r ≡ 0 → Answered r
  none_answered (Ok x) e = tt
  none_answered (Err r) e = absurd (not_0 r e)

  -- of what is given by a number
  pub given_none : (n : ℕ) (x : T) → Answered (given n x) → n ≡ 0
  given_none zero x h = refl
  given_none (suc n) x h = absurd h

  pub answer_given : (n : ℕ) (x : T) → n ≡ 0 → Ok x ≡ given n x
  answer_given n x e = rw e refl

  pub refusal_is_given : (n : ℕ) (x : T) (r : Refusal) → number_of r ≡ n → Err r ≡ given n x
  refusal_is_given zero x r e = absurd (not_0 r e)
  refusal_is_given (suc n) x r e = ap Err (sym (back r) ∙ ap numbered e)

-- a call that gives nothing but its refusal is given by the refusal's number
pub told : (n : ℕ) (r : Result (Unit {0}) Refusal) → refusal_given r ≡ n → r ≡ given n tt
told n (Ok x) e = answer_given n tt (sym e)
told n (Err r) e = refusal_is_given n tt r e

-- and one that gives x by that and the x in it, whatever stands beside a refusal
pub told_with : {T : Type 0} (n : ℕ) (x d : T) (r : Result T Refusal) → refusal_given r ≡ n → result_unwrap_or r d ≡ x → r ≡ given n x
told_with n x d (Ok y) e h = ap Ok h ∙ answer_given n x (sym e)
told_with n x d (Err r) e h = refusal_is_given n x r e

-- what is given by a number up to 15 has that number
pub number_given : {T : Type 0} (n : ℕ) (x : T) → n ≤ 15 → refusal_given (given n x) ≡ n
number_given zero x h = refl
number_given (suc zero) x h = refl
number_given (suc (suc zero)) x h = refl
number_given (suc (suc (suc zero))) x h = refl
number_given (suc (suc (suc (suc zero)))) x h = refl
number_given (suc (suc (suc (suc (suc zero))))) x h = refl
number_given (suc (suc (suc (suc (suc (suc zero)))))) x h = refl
number_given (suc (suc (suc (suc (suc (suc (suc zero))))))) x h = refl
number_given (suc (suc (suc (suc (suc (suc (suc (suc zero)))))))) x h = refl
number_given (suc (suc (suc (suc (suc (suc (suc (suc (suc zero))))))))) x h = refl
number_given (suc (suc (suc (suc (suc (suc (suc (suc (suc (suc zero)))))))))) x h = refl
number_given (suc (suc (suc (suc (suc (suc (suc (suc (suc (suc (suc zero))))))))))) x h = refl
number_given (suc (suc (suc (suc (suc (suc (suc (suc (suc (suc (suc (suc zero)))))))))))) x h = refl
number_given (suc (suc (suc (suc (suc (suc (suc (suc (suc (suc (suc (suc (suc zero))))))))))))) x h = refl
number_given (suc (suc (suc (suc (suc (suc (suc (suc (suc (suc (suc (suc (suc (suc zero)))))))))))))) x h = refl
number_given (suc (suc (suc (suc (suc (suc (suc (suc (suc (suc (suc (suc (suc (suc (suc zero))))))))))))))) x h = refl
number_given (suc (suc (suc (suc (suc (suc (suc (suc (suc (suc (suc (suc (suc (suc (suc (suc n)))))))))))))))) x h = absurd (let z : ⊥ = omega arith in z)
