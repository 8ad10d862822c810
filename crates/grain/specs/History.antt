-- A history of offers: a list of words, the earliest first. What it leaves of a record, and how many of its samples were taken and how many
-- refused, each by going through it. Definitions only.
use Rattle.std.specs.Prelude.{ℕ, zero, suc, ◌+◌, ◌≡◌, List, [], ◌∷◌, cond, eqb}
use Rattle.grain.specs.declared.Grain.{Grain}
use Rattle.grain.specs.Grain.{refusal_of, record_after}

abbrev pub after : Grain → List ℕ → Grain
after g [] = g
after g (w ∷ ws) = after (record_after g w) ws

-- 1 for an offer whose refusal is 0: the sample was taken
abbrev pub one_if_taken : ℕ → ℕ
one_if_taken zero = 1
one_if_taken (suc n) = 0

-- 1 for an offer with any other refusal but 12, after which nothing is counted
abbrev pub one_if_refused : ℕ → ℕ
one_if_refused zero = 0
one_if_refused (suc n) = cond (eqb (suc n) 12) 0 1

abbrev pub accepted_in : Grain → List ℕ → ℕ
accepted_in g [] = 0
accepted_in g (w ∷ ws) = one_if_taken (refusal_of g w) + accepted_in (record_after g w) ws

abbrev pub refused_in : Grain → List ℕ → ℕ
refused_in g [] = 0
refused_in g (w ∷ ws) = one_if_refused (refusal_of g w) + refused_in (record_after g w) ws

-- every sample of the history that was taken is such a word
abbrev pub EachTaken : (ℕ → Type 0) → Grain → List ℕ → Type 0
EachTaken Q g [] = Unit
EachTaken Q g (w ∷ ws) = (refusal_of g w ≡ 0 → Q w) × EachTaken Q (record_after g w) ws
