-- `guard::invsqrt` meets its contract. Assumes nothing.
use Rattle.guard.proofs.Meaning.{invsqrt_bounded, invsqrt_tightly}
use Rattle.guard.proofs.invsqrt.Goals as goal

pub returns-clause-bound : goal.returns-clause-bound
returns-clause-bound c = invsqrt_bounded c.args.x.0 0 _ c.answered.ensures

pub returns-clause-tight : goal.returns-clause-tight
returns-clause-tight c = invsqrt_tightly c.args.x.0 0 _ c.answered.ensures
