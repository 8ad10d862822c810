-- The places so far hold what `place` gave.
use Rattle.std.proofs.Common.{◌<◌, ℕ, slice_index}
use Rattle.strip.proofs.lists.Lists.fill_by.Given as goal

abbrev pub invariant-loop-i : goal.invariant-loop-i
invariant-loop-i g l = (k : ℕ) → k < l.i → goal.F-post g l.place (slice_index l.first k) (slice_index l.second k) (slice_index l.answers k, slice_index l.refusals k)
