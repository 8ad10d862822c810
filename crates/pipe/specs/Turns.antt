-- The turns of a run, as far as a contract can speak of them: each takes the bytes that a read has brought, and the next one begins with the
-- line that it leaves. Which bytes those are, and whether the input has ended, the read knows. Definitions only.
use Rattle.std.specs.Prelude.{ℕ, ◌≤◌, ◌<◌, ◌≡◌, List, [], ◌∷◌, length, take, Option, IfSome, Result, IsOkAnd}
use Rattle.lines.specs.declared.Held.{Held}
use Rattle.lines.specs.Lines.{joined}
use Rattle.lines.specs.Held.{fresh, after}
use Rattle.pipe.specs.Known.{brought}

-- what is done with what a read answered: only where it brought some bytes does the run go on, with the line begun after all of them
pub record TookAll {E : Type 0} {n : ℕ} (s : Held n) (got : Result ℕ E) (buffer : List ℕ) (t : Held n) : Type 0 where
  pub some : IsOkAnd got (λ k. 0 < k)
  pub lines : t ≡ after s (take (brought got (length buffer)) buffer)

abbrev pub Takes : {E : Type 0} {n : ℕ} → Held n → Result ℕ E → List ℕ → Option (Held n) → Type 0
Takes s got buffer r = IfSome r (TookAll s got buffer)

-- a turn that goes on has taken some bytes from the front of the buffer, and the line then begun is the one after them
pub record Took {n : ℕ} (s : Held n) (buffer : List ℕ) (t : Held n) : Type 0 where
  pub read : ℕ
  pub some : 0 < read
  pub within : read ≤ length buffer
  pub lines : t ≡ after s (take read buffer)

abbrev pub Turns : {n : ℕ} → Held n → List ℕ → Option (Held n) → Type 0
Turns s buffer r = IfSome r (Took s buffer)

-- none of them is empty
abbrev pub AllSome : List (List ℕ) → Type 0
AllSome [] = Unit
AllSome (c ∷ cs) = (0 < length c) × AllSome cs

-- so many reads have been taken in turn, from the first on, and t is the line then begun
pub record Taken (reads : ℕ) {n : ℕ} (t : Held n) : Type 0 where
  pub chunks : List (List ℕ)
  pub count : length chunks ≡ reads
  pub some : AllSome chunks
  pub lines : t ≡ after (fresh n) (joined chunks)

-- a run of so many turns at the most that still goes on has used them all
abbrev pub Runs : ℕ → {n : ℕ} → Option (Held n) → Type 0
Runs most r = IfSome r (Taken most)
