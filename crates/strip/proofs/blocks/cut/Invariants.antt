-- The blocks so far are filled.
use Rattle.std.proofs.Common.{◌*◌}
use Rattle.strip.proofs.Sofar.{Sofar}
use Rattle.strip.proofs.blocks.cut.Given as goal

abbrev pub invariant-loop-n : goal.invariant-loop-n
invariant-loop-n g l = Sofar g.row.OP l.first l.second l.fn.answers l.fn.refusals l.answers l.refusals (l.n * 32)
