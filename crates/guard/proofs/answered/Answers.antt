-- `guard::answered` meets its contract. Assumes nothing.
use Rattle.std.proofs.Common.{rules}
use Rattle.guard.proofs.Guards.{answers}
use Rattle.guard.proofs.answered.Goals as goal

pub returns : goal.returns
returns c = rw c.of-2.ensures (answers c.args.op c.args.a.0 c.args.b _ c.of.ensures _ (search rules) (search rules) (search rules) c.requires c.in_ok-first.ensures)
