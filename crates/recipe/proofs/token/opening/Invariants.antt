-- What the openings that are left give is what all give.
use Rattle.recipe.proofs.Fronts.{Tried}
use Rattle.recipe.proofs.token.opening.Given as goal

abbrev pub invariant-loop-name : goal.invariant-loop-name
invariant-loop-name l = Tried l.name-items l.name-index l.line
