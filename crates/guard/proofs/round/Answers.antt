-- `guard::round` meets its contract. Assumes nothing.
use Rattle.guard.proofs.Meaning.{round_means}
use Rattle.guard.proofs.round.Goals as goal

pub returns-clause-ieee : goal.returns-clause-ieee
returns-clause-ieee c = round_means c.args.x.0 0 _ c.answered.ensures
