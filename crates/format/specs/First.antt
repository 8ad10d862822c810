-- Refusals in order: each has its number, the operations that can give it, and when it holds. The first that holds is given.
-- Definitions only.
use Rattle.std.specs.Prelude.{ℕ, Bool, true, false, cond, ◌&&◌, ◌||◌, List, [], ◌∷◌, eqb}

-- ---- the operations that a rule is about

-- whether a number is in a list
abbrev pub among : List ℕ → ℕ → Bool
among [] op = false
among (k ∷ ks) op = eqb op k || among ks op

abbrev pub every : ℕ → Bool
every op = true

-- ---- the rules

-- its number, the operations that give it, and when it holds of an operation and its two words
pub record Refusal : Type 0 where
  pub number : ℕ
  pub by : ℕ → Bool
  pub when : ℕ → ℕ → ℕ → Bool

abbrev pub holds : Refusal → ℕ → ℕ → ℕ → Bool
holds r op a b = r.by op && r.when op a b

-- the number of the first that holds, and 0 where none does
abbrev pub first_of : List Refusal → ℕ → ℕ → ℕ → ℕ
first_of [] op a b = 0
first_of (r ∷ rs) op a b = cond (holds r op a b) r.number (first_of rs op a b)
