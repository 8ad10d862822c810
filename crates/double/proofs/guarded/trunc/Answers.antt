-- `double::guarded::trunc` meets its contract. Assumes nothing.
use Rattle.std.proofs.Common.{rules}
use Rattle.double.proofs.Meaning.{trunc_means}
use Rattle.double.proofs.guarded.trunc.Goals as goal

pub returns-clause-ieee : goal.returns-clause-ieee
returns-clause-ieee c = trunc_means c.args.x.0 _ (search rules) c.answered.ensures
