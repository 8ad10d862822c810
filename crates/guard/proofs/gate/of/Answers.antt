-- The table in code is the list of the definitions, row by row.
use mathlib.Core.Path.{sym}
use lib.ListN.{get_or-eq_default}
use Rattle.format.proofs.Lists.{same_row}
use Rattle.guard.specs.Gates.{gates, unbounded}
use Rattle.guard.proofs.gate.of.Goals as goal

pub returns-then-op-lt27 : goal.returns-then-op-lt27
returns-then-op-lt27 c = same_row gates _ unbounded c.args.op c.if-op-lt27.true

pub returns : goal.returns
returns c = sym (get_or-eq_default gates unbounded c.if-op-lt27.false)
