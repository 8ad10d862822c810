-- The deepest beginning so far, or one that ends further on.
use Rattle.std.proofs.Common.{◌≡◌, ◌≤◌, drop}
use Rattle.recipe.specs.Grammar.{larger, depth_after, depth_of}
use Rattle.recipe.proofs.nesting.depth.Given as goal

abbrev pub invariant-loop-b : goal.invariant-loop-b
invariant-loop-b l = (l.opens ≤ l.b-index) × (l.closes ≤ l.b-index) × (depth_of l.line ≡ larger l.deepest (depth_after l.opens l.closes (drop l.b-index l.line)))
