-- `double::guarded::fract` meets its contract. Assumes nothing.
use Rattle.double.proofs.Meaning.{fract_means}
use Rattle.double.proofs.guarded.fract.Goals as goal

pub returns-clause-ieee : goal.returns-clause-ieee
returns-clause-ieee c = fract_means c.args.x.0 _ c.answered.ensures
