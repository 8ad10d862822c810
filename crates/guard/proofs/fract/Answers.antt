-- `guard::fract` meets its contract. Assumes nothing.
use Rattle.guard.proofs.Meaning.{fract_means}
use Rattle.guard.proofs.fract.Goals as goal

pub returns-clause-ieee : goal.returns-clause-ieee
returns-clause-ieee c = fract_means c.args.x.0 0 _ c.answered.ensures
