-- `guard::floor` meets its contract. Assumes nothing.
use Rattle.guard.proofs.Meaning.{floor_means}
use Rattle.guard.proofs.floor.Goals as goal

pub returns-clause-ieee : goal.returns-clause-ieee
returns-clause-ieee c = floor_means c.args.x.0 0 _ c.answered.ensures
