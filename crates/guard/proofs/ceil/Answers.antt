-- `guard::ceil` meets its contract. Assumes nothing.
use Rattle.guard.proofs.Meaning.{ceil_means}
use Rattle.guard.proofs.ceil.Goals as goal

pub returns-clause-ieee : goal.returns-clause-ieee
returns-clause-ieee c = ceil_means c.args.x.0 0 _ c.answered.ensures
