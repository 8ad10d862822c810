-- What a run writes, to a writer of which it is known what it holds: an answer for each line, in order. Definitions only.
use Rattle.std.specs.Prelude.{ℕ, ◌≡◌, List, [], ◌∷◌, ◌++◌, take, Option}
use Rattle.std.specs.Io.KnownBytes.{Appends}
use Rattle.frame.specs.Frame.{words_bytes}
use Rattle.recipe.specs.Entry.{AnswersEntry}
use Rattle.pipe.specs.Known.{AppendsFront}

-- the bytes are an answer to each of some lines, one after the other
abbrev pub AreAnswers : List (List ℕ) → List ℕ → Type 0
AreAnswers [] out = out ≡ []
AreAnswers (l ∷ ls) out = (w : ℕ) × (more : List ℕ) × AnswersEntry l w × (out ≡ words_bytes w ++ more) × AreAnswers ls more

-- answers to some lines are added to what the writer holds
abbrev pub Adds : List (List ℕ) → Option (List ℕ) → Option (List ℕ) → Type 0
Adds ls held held' = (out : List ℕ) × AreAnswers ls out × Appends held held' out

-- answers to the first of some lines are added, and of the last of these answers maybe not all bytes
abbrev pub AddsFirst : List (List ℕ) → Option (List ℕ) → Option (List ℕ) → Type 0
AddsFirst ls held held' = (n : ℕ) × (out : List ℕ) × AreAnswers (take n ls) out × AppendsFront held held' out
