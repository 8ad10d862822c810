-- What a guarded call answers, and the answer as words: a refusal's number, 0 where there is none, and one word or two; and how many products
-- were formed for it. Definitions only.
use Rattle.std.specs.Prelude.{ℕ, ◌≡◌, cond, ◌&&◌, eqb, Result, Ok, Err}
use Rattle.std.specs.Float.{binary32}
use Rattle.std.specs.Float.Ieee.{of_bits, to_bits}
use Rattle.std.specs.Int.{w32}
use Rattle.std.proofs.Common.{to_z}
use Rattle.format.specs.Classes.{is_zero}
use Rattle.format.specs.Sign.{turned_word}
use Rattle.format.specs.Parts.{trunc_word, fract_word}
use Rattle.float.specs.Powi.{products_of}
use Rattle.raw.specs.Raw.{Kernel, kernel_of, operands_of, raw_of}
use Rattle.refusals.specs.declared.Refusal.{Refusal}
use Rattle.refusals.specs.Given.{refusal_given, Answered, given}
use Rattle.guard.specs.declared.Value.{Value}
use Rattle.guard.specs.declared.WholeAndRest.{WholeAndRest}
use Rattle.guard.specs.Operations.{op_trunc, op_sqrt, op_powi}
use Rattle.guard.specs.Refusals.{refusal_of}

-- ---- an answer as words

abbrev pub Answer : Type 0
Answer = Result Value Refusal

-- a refusal's value is the zero word
abbrev pub word_of : Answer → ℕ
word_of (Ok v) = to_bits binary32 v.number
word_of (Err r) = 0

-- a refusal has no products
abbrev pub products_in : Answer → ℕ
products_in (Ok v) = v.products
products_in (Err r) = 0

abbrev pub whole_of : Result WholeAndRest Refusal → ℕ
whole_of (Ok p) = to_bits binary32 p.whole
whole_of (Err r) = 0

abbrev pub rest_of : Result WholeAndRest Refusal → ℕ
rest_of (Ok p) = to_bits binary32 p.rest
rest_of (Err r) = 0

abbrev pub products_in_parts : Result WholeAndRest Refusal → ℕ
products_in_parts (Ok p) = p.products
products_in_parts (Err r) = 0

-- ---- what each call answers

-- the number whose word is w, for which p products were formed
abbrev pub value_after : ℕ → ℕ → Value
value_after p w = record { number = of_bits binary32 w; products = p }

-- refused with n, or where n is 0 answered with that number
abbrev pub given_after : ℕ → ℕ → ℕ → Answer
given_after p n w = given n (value_after p w)

-- the answer r is the refusal n, or where n is 0 the number whose word is w, for which p products were formed; and what that is as words
pub record GivesAfter (p n w : ℕ) (r : Answer) : Type 0 where
  pub answer : r ≡ given_after p n w
  pub refusal : refusal_given r ≡ n
  pub word : word_of r ≡ cond (eqb n 0) w 0
  pub count : products_in r ≡ cond (eqb n 0) p 0

abbrev pub Gives : ℕ → ℕ → Answer → Type 0
Gives n w r = GivesAfter 0 n w r

-- the word that an operation answers with, where it is not refused: its raw kernel's, but that a zero is its own square root
abbrev pub value_at : ℕ → Kernel → ℕ → ℕ → ℕ
value_at op k a b = cond (eqb op op_sqrt && is_zero binary32 a) a (raw_of k a b)

abbrev pub value_of : ℕ → ℕ → ℕ → ℕ
value_of op a b = value_at op (kernel_of op) a b

-- how many products an operation forms for its answer: powi as many as its squaring has, and no other any
abbrev pub products_at : ℕ → ℕ → ℕ → ℕ
products_at op a b = cond (eqb op op_powi) (products_of a (to_z w32 b)) 0

-- and how many its answer counts: none beside a refusal
abbrev pub products_given : ℕ → ℕ → ℕ → ℕ
products_given op a b = cond (eqb (refusal_of op a b) 0) (products_at op a b) 0

-- a guarded operation on two words
abbrev pub Guards : ℕ → ℕ → ℕ → Answer → Type 0
Guards op a b r = GivesAfter (products_at op a b) (refusal_of op a b) (value_of op a b) r

-- the call of an operand with its sign turned is refused alike, and where there is an answer, that has its sign turned too
abbrev pub TurnsSign : ℕ → ℕ → Answer → Type 0
TurnsSign op a r = (s : Answer) → Guards op (turned_word binary32 a) 0 s → (refusal_given s ≡ refusal_given r) × (Answered r → word_of s ≡ turned_word binary32 (word_of r))

-- an operation by number: 6 where the number has no kernel
abbrev pub refusal_by_number : ℕ → ℕ → ℕ → ℕ
refusal_by_number op a b = cond (eqb (operands_of (kernel_of op)) 0) 6 (refusal_of op a b)

abbrev pub GuardsByNumber : ℕ → ℕ → ℕ → Answer → Type 0
GuardsByNumber op a b r = GivesAfter (products_at op a b) (refusal_by_number op a b) (value_of op a b) r

-- trunc and fract together, behind the gate that they share
pub record GivesParts (w : ℕ) (r : Result WholeAndRest Refusal) : Type 0 where
  pub answer : r ≡ given (refusal_of op_trunc w 0) (record { whole = of_bits binary32 (trunc_word binary32 w); rest = of_bits binary32 (fract_word binary32 w); products = 0 })
  pub refusal : refusal_given r ≡ refusal_of op_trunc w 0
  pub word : whole_of r ≡ cond (eqb (refusal_of op_trunc w 0) 0) (trunc_word binary32 w) 0
  pub second : rest_of r ≡ cond (eqb (refusal_of op_trunc w 0) 0) (fract_word binary32 w) 0
  pub count : products_in_parts r ≡ 0
