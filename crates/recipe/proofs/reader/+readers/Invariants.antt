-- The cycle of the readers: it falls by depth, and the loop by unread bytes.
use Rattle.std.proofs.Common.{ℕ, ◌+◌, ◌*◌, length}
use Rattle.recipe.specs.declared.reader.Rank.{Rank}
use Rattle.recipe.specs.declared.reader.Rank.TheVariants.{Sums, Products}
use Rattle.recipe.specs.Reader.{tree_at}
use Rattle.recipe.proofs.Chains.{Stands}
use Rattle.recipe.proofs.reader.+readers.Given as goal

abbrev height : Rank → ℕ
height Sums = 2
height Products = 0

abbrev pub decreases-chain : goal.decreases-chain
decreases-chain l = 5 * l.depth + height l.rank + 2

abbrev pub decreases-part : goal.decreases-part
decreases-part l = 5 * l.depth + height l.rank + 1

abbrev pub decreases-factor : goal.decreases-factor
decreases-factor l = 5 * l.depth

abbrev pub invariant-chain-loop-operation : goal.invariant-chain-loop-operation
invariant-chain-loop-operation l = Stands l.rank l.x l.depth (tree_at l.rank l.depth l.line) l.read.worth l.read.rest.now

abbrev pub decreases-chain-loop-operation : goal.decreases-chain-loop-operation
decreases-chain-loop-operation l = length l.read.rest.now
