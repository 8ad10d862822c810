-- `guard::atan_norm` meets its contract: it has atan's gate. Assumes nothing.
use Rattle.std.proofs.Common.{rules}
use Rattle.guard.specs.Operations.{op_atan}
use Rattle.guard.proofs.NoNan.{atan_norm_no_nan}
use Rattle.guard.proofs.Guards.{answers_with}
use Rattle.guard.proofs.atan_norm.Goals as goal

pub returns : goal.returns
returns c = rw c.of-2.ensures (answers_with op_atan c.args.slope.0 0 _ c.of.ensures _ _ (search rules) c.atan_norm.ensures (atan_norm_no_nan c.args.slope.0) c.in_ok-first.ensures)
