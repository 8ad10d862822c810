-- `guard::rem_euclid` meets its contract. Assumes nothing.
use Rattle.guard.proofs.Meaning.{rem_euclid_left}
use Rattle.guard.proofs.rem_euclid.Goals as goal

pub returns-clause-range : goal.returns-clause-range
returns-clause-range c = rem_euclid_left c.args.x.0 c.args.y.0 _ c.answered.ensures
