-- The bytes so far are digits, and n is what they write.
use Rattle.std.proofs.Common.{◌≡◌, ℕ, ◌*◌, ◌^◌, ◌<◌, true, take, get_or}
use Rattle.frame.specs.Frame.{is_digit, number_after}
use Rattle.recipe.proofs.token.number.Given as goal

abbrev pub invariant-loop-b : goal.invariant-loop-b
invariant-loop-b l = ((k : ℕ) → k < l.b-index → is_digit (get_or l.eight k 0) ≡ true) × (l.n ≡ number_after 0 (take l.b-index l.eight)) × (l.n < 2 ^ (4 * l.b-index))
