-- An entry of a list of recipes: x as eight digits, a blank, and the recipe. Its answer is the recipe's at x, or 7. Definitions only.
use Rattle.std.specs.Prelude.{ℕ, ◌≡◌, Bool, true, false, ◌&&◌, List, drop}
use Rattle.std.specs.Float.{binary32}
use Rattle.std.specs.Float.Ieee.{of_bits}
use Rattle.frame.specs.Frame.{number_at}
use Rattle.frame.specs.Words.{packed}
use Rattle.recipe.specs.Text.{bytes}
use Rattle.recipe.specs.Begins.{digits, begins}
use Rattle.recipe.specs.Answers.{AnswersWords}

abbrev pub is_entry : List ℕ → Bool
is_entry line = digits 8 line && begins (bytes " ") (drop 8 line)

pub record AnswersEntry (line : List ℕ) (w : ℕ) : Type 0 where
  pub malformed : is_entry line ≡ false → w ≡ packed 7 0
  pub worked : is_entry line ≡ true → AnswersWords (drop 9 line) (of_bits binary32 (number_at 0 8 line)) w
