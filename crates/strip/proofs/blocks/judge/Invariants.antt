-- Or-ed marks whose highest bit is clear tell of every place so far that it is in reach.
use Rattle.std.proofs.Common.{◌≡◌, true, length, ◌<◌, ◌^◌, slice_index, ℕ}
use Rattle.strip.specs.Reach.{reach}
use Rattle.strip.proofs.blocks.judge.Given as goal

abbrev pub invariant-loop-a : goal.invariant-loop-a
invariant-loop-a g l = l.marks < 2 ^ 31 → (i : ℕ) → i < length l.yielded → reach g.row.OP (slice_index l.s.first.now i) (slice_index l.s.second.now i) ≡ true
