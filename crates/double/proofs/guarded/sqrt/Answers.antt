-- `double::guarded::sqrt` meets its contract. Assumes nothing.
use Rattle.double.proofs.Meaning.{sqrt_bounded}
use Rattle.double.proofs.guarded.sqrt.Goals as goal

pub returns-clause-bound : goal.returns-clause-bound
returns-clause-bound c = sqrt_bounded c.args.x.0 _ c.answered.ensures
