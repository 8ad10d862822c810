-- `double::guarded::inv` meets its contract. Assumes nothing.
use Rattle.std.proofs.Common.{rules}
use Rattle.double.proofs.Meaning.{inv_bounded, inv_turns}
use Rattle.double.proofs.guarded.inv.Goals as goal

pub returns-clause-bound : goal.returns-clause-bound
returns-clause-bound c = inv_bounded c.args.x.0 _ (search rules) c.answered.ensures

pub returns-clause-sign : goal.returns-clause-sign
returns-clause-sign c = inv_turns c.args.x.0 _ (search rules) c.answered.ensures
