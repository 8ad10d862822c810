-- An operation on doubles by its number, raw or guarded: the refusal and the word. Definitions only.
use Rattle.std.specs.Prelude.{ℕ, ◌-◌, cond, eqb}
use Rattle.double.specs.Operations.{is_raw, raw_of, value_of}
use Rattle.double.specs.Guarded.{refusal_by_number}

-- a raw form refuses nothing
abbrev pub double_refusal : ℕ → ℕ → ℕ
double_refusal op a = cond (is_raw op) 0 (refusal_by_number op a)

-- a refusal's word is 0
abbrev pub double_word : ℕ → ℕ → ℕ
double_word op a = cond (is_raw op) (raw_of (op - 0x80) a) (cond (eqb (refusal_by_number op a) 0) (value_of op a) 0)
