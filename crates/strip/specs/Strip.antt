-- An operation over a strip: two lists of words are read, and a list of words and a list of refusal numbers filled. Each place holds what
-- the single call answers there. Definitions only.
use Rattle.std.specs.Prelude.{ℕ, ◌/◌, ◌%◌, ◌^◌, ◌≡◌, Bool, cond, ◌&&◌, List, [], ◌∷◌, eqb, length}
use Rattle.raw.specs.Raw.{kernel_of, operands_of}
use Rattle.frame.specs.Words.{kernel_number, words_of}

-- ---- a place

-- how many words an operation reads, 0 where it is none
abbrev pub operands_in : ℕ → ℕ
operands_in op = operands_of (kernel_of (kernel_number op))

-- the second word as an operation of so many operands is handed it: one of a single operand never sees it
abbrev pub used : ℕ → ℕ → ℕ
used count b = cond (eqb count 2) b 0

-- the single call there
abbrev pub place_words : ℕ → ℕ → ℕ → ℕ
place_words op a b = words_of op a (used (operands_in op) b)

-- its word and its refusal
unfoldable pub word_at : ℕ → ℕ → ℕ → ℕ
word_at op a b = place_words op a b % 2 ^ 32

unfoldable pub refusal_at : ℕ → ℕ → ℕ → ℕ
refusal_at op a b = place_words op a b / 2 ^ 32

-- ---- whole lists

-- place by place; where one list ends before the other there is no place, and no strip comes so far
abbrev pub zipped : (ℕ → ℕ → ℕ) → List ℕ → List ℕ → List ℕ
zipped f [] ys = []
zipped f (x ∷ xs) [] = []
zipped f (x ∷ xs) (y ∷ ys) = f x y ∷ zipped f xs ys

-- every place of the last two holds what the single call answers
pub record Fills (op : ℕ) (first second answers refusals : List ℕ) : Type 0 where
  pub words : answers ≡ zipped (word_at op) first second
  pub numbers : refusals ≡ zipped (refusal_at op) first second

-- the four have one length, as a fact and as a test
pub record Agree (first second answers refusals : List ℕ) : Type 0 where
  pub seconds : length second ≡ length first
  pub words : length answers ≡ length first
  pub numbers : length refusals ≡ length first

abbrev pub agree : List ℕ → List ℕ → List ℕ → List ℕ → Bool
agree first second answers refusals = eqb (length second) (length first) && eqb (length answers) (length first) && eqb (length refusals) (length first)

-- ---- the strip call, by the lists that are lent

-- lengths are judged first, then the operation
abbrev pub strip_refusal : ℕ → List ℕ → List ℕ → List ℕ → List ℕ → ℕ
strip_refusal op first second answers refusals = cond (agree first second answers refusals) (cond (eqb (operands_in op) 0) 6 0) 10

-- what a list is left with: filled by f where n is 0, and as it was where n is a refusal
abbrev pub strip_leaves : (ℕ → ℕ → ℕ) → ℕ → List ℕ → List ℕ → List ℕ → List ℕ
strip_leaves f n first second was = cond (eqb n 0) (zipped f first second) was

-- a strip over the first four lists returns n and leaves the last two
pub record Strips (op : ℕ) (first second answers refusals : List ℕ) (n : ℕ) (answered refused : List ℕ) : Type 0 where
  pub refusal : n ≡ strip_refusal op first second answers refusals
  pub words : answered ≡ strip_leaves (word_at op) n first second answers
  pub numbers : refused ≡ strip_leaves (refusal_at op) n first second refusals
