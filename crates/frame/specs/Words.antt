-- An operation number and two words, answered as a frame is: the refusal in the high 32 bits and the word in the low 32. Definitions only.
use Rattle.std.specs.Prelude.{ℕ, ◌≡◌, ◌+◌, ◌-◌, ◌*◌, ◌/◌, ◌%◌, ◌^◌, cond, not, ◌&&◌, leb, eqb, Result}
use Rattle.std.specs.Result.{result_unwrap_or}
use Rattle.refusals.specs.declared.Refusal.{Refusal}
use Rattle.refusals.specs.Given.{refusal_given}
use Rattle.raw.specs.Raw.{kernel_of, operands_of, raw_of}
use Rattle.guard.specs.Refusals.{refusal_of}
use Rattle.guard.specs.Guarded.{value_of}

abbrev pub packed : ℕ → ℕ → ℕ
packed n w = n * 2 ^ 32 + w

-- the answer r is the refusal in the high 32 bits of n, or where they are 0 the word in the low 32
pub record Unpacks (n : ℕ) (r : Result ℕ Refusal) : Type 0 where
  pub refusal : refusal_given r ≡ n / 2 ^ 32
  pub word : result_unwrap_or r 0 ≡ n % 2 ^ 32

-- the word beside the refusal n: 0, or where n is 0 the word w
abbrev pub word_beside : ℕ → ℕ → ℕ
word_beside n w = cond (eqb n 0) w 0

abbrev pub answer_words : ℕ → ℕ → ℕ
answer_words n w = packed n (word_beside n w)

-- a raw operation's number is its kernel's and 80
abbrev pub kernel_number : ℕ → ℕ
kernel_number op = cond (leb 0x80 op) (op - 0x80) op

-- what an operation answers to two words, raw from 80 on and guarded below
abbrev pub operation_words : ℕ → ℕ → ℕ → ℕ
operation_words op a b = cond (leb 0x80 op) (raw_of (kernel_of (op - 0x80)) a b) (answer_words (refusal_of op a b) (value_of op a b))

-- by how many words an operation reads, 6: it is no operation; 7: the second word is not used and is not 0; else 0
abbrev pub shape_of : ℕ → ℕ → ℕ
shape_of count b = cond (eqb count 0) 6 (cond (eqb count 1 && not (eqb b 0)) 7 0)

-- a frame's shape is judged first
abbrev pub framed : ℕ → ℕ → ℕ
framed n x = cond (eqb n 0) x (packed n 0)

abbrev pub words_of : ℕ → ℕ → ℕ → ℕ
words_of op a b = framed (shape_of (operands_of (kernel_of (kernel_number op))) b) (operation_words op a b)
