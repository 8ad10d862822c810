-- As long as the or-ed marks' highest bit is clear, the steps on the words so far are the answers.
use Rattle.std.proofs.Common.{◌<◌, ◌^◌}
use Rattle.strip.proofs.Sofar.{Sofar}
use Rattle.strip.proofs.blocks.try_bits.Given as goal

abbrev pub invariant-loop-i : goal.invariant-loop-i
invariant-loop-i g l = l.marks < 2 ^ 31 → Sofar g.row.OP l.fn.s.first.now l.fn.s.second.now l.fn.s.answers.now l.fn.s.refusals.now l.answers l.refusals l.i
