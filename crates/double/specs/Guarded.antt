-- What a guarded call on a double answers: a number, or a refusal; and what that is as words. Definitions only.
use Rattle.std.specs.Prelude.{ℕ, ◌≡◌, cond, eqb, Float, Result, Ok, Err}
use Rattle.std.specs.Float.{binary64}
use Rattle.std.specs.Float.Ieee.{of_bits, to_bits}
use Rattle.format.specs.Sign.{turned_word}
use Rattle.refusals.specs.declared.Refusal.{Refusal}
use Rattle.refusals.specs.Given.{refusal_given, Answered, given}
use Rattle.double.specs.Operations.{is_known, value_of}
use Rattle.double.specs.Refusals.{refusal_of}

-- ---- an answer as words

-- a refusal's word is 0
abbrev pub word_in : Result Float Refusal → ℕ
word_in (Ok x) = to_bits binary64 x
word_in (Err r) = 0

-- ---- what each call answers

-- the answer r is the refusal n, or where n is 0 the number whose word is w; and what that is as words
pub record Gives (n w : ℕ) (r : Result Float Refusal) : Type 0 where
  pub answer : r ≡ given n (of_bits binary64 w)
  pub refusal : refusal_given r ≡ n
  pub word : word_in r ≡ cond (eqb n 0) w 0

abbrev pub Guards : ℕ → ℕ → Result Float Refusal → Type 0
Guards op a = Gives (refusal_of op a) (value_of op a)

-- the call of an operand with its sign turned is refused alike, and where there is an answer, that has its sign turned too
abbrev pub TurnsSign : ℕ → ℕ → Result Float Refusal → Type 0
TurnsSign op a r = (s : Result Float Refusal) → Guards op (turned_word binary64 a) s → (refusal_given s ≡ refusal_given r) × (Answered r → word_in s ≡ turned_word binary64 (word_in r))

-- by number: 6 where the number has no kernel
abbrev pub refusal_by_number : ℕ → ℕ → ℕ
refusal_by_number op a = cond (is_known op) (refusal_of op a) 6

abbrev pub GuardsByNumber : ℕ → ℕ → Result Float Refusal → Type 0
GuardsByNumber op a = Gives (refusal_by_number op a) (value_of op a)
