-- What is written to answer the line that is held. Definitions only.
use Rattle.std.specs.Prelude.{ℕ, ◌≡◌, List}
use Rattle.frame.specs.Frame.{words_bytes}
use Rattle.recipe.specs.Entry.{AnswersEntry}
use Rattle.lines.specs.declared.Held.{Held}
use Rattle.lines.specs.Held.{line_of}

-- the eleven bytes of the answer to what is held
pub record Tells (s : Held 250) (answer : List ℕ) : Type 0 where
  pub words : ℕ
  pub answers : AnswersEntry (line_of s) words
  pub bytes : answer ≡ words_bytes words
