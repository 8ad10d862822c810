-- What a run writes, of a reader whose bytes are known to a writer of which it is known what it holds: the answers f to what was read. Definitions only.
use Rattle.std.specs.Prelude.{ℕ, zero, suc, ◌≡◌, min, List, [], ◌++◌, length, take, Option, Result, Ok, Err}
use Rattle.std.specs.Io.KnownBytes.{Appends, Consumes}
use Rattle.lines.specs.declared.Held.{Held}
use Rattle.lines.specs.Held.{after, answers_from, last_answer}

-- some bytes were taken from the reader, the answers to the lines that end in them were added to what the writer holds, and t is the line then begun
pub record Answered (f : List ℕ → List ℕ) {n : ℕ} (s : Held n) (left left' held held' : Option (List ℕ)) (t : Held n) : Type 0 where
  pub bytes : List ℕ
  pub read : Consumes left left' bytes
  pub written : Appends held held' (answers_from f s bytes)
  pub lines : t ≡ after s bytes

-- what is due for some bytes with which the input ends
abbrev pub due : (List ℕ → List ℕ) → {n : ℕ} → Held n → List ℕ → List ℕ
due f s bytes = answers_from f s bytes ++ last_answer f (after s bytes)

-- what is due for what a read answered: at the end of the input the last line's answer
abbrev pub due_for : {E : Type 0} → (List ℕ → List ℕ) → {n : ℕ} → Held n → Result ℕ E → List ℕ → List ℕ
due_for f s (Ok zero) buffer = last_answer f s
due_for f s (Ok (suc k)) buffer = answers_from f s (take (min (suc k) (length buffer)) buffer)
due_for f s (Err e) buffer = []
