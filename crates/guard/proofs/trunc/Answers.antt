-- `guard::trunc` meets its contract. Assumes nothing.
use Rattle.std.proofs.Common.{rules}
use Rattle.guard.proofs.Meaning.{trunc_means}
use Rattle.guard.proofs.trunc.Goals as goal

pub returns-clause-ieee : goal.returns-clause-ieee
returns-clause-ieee c = trunc_means c.args.x.0 0 _ (search rules) c.answered.ensures
