-- Answers word by word: a row says what a definition gives, and one computed test tries a whole table of them. Assumes nothing.
use Rattle.std.proofs.Common.{ℕ, Bool, true, ◌&&◌, eqb, List, [], ◌∷◌}

infix 70 ◌gives◌
pub data Row : Type 0 where
  ◌gives◌ : ℕ → ℕ → Row

abbrev pub agree : List Row → Bool
agree [] = true
agree (a gives b ∷ rows) = eqb a b && agree rows
