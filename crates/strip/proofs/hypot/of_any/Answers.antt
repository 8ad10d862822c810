-- The words that are read are numbers.
use Rattle.strip.proofs.Sized.{read_two}
use Rattle.strip.proofs.Sides.{answered}
use Rattle.strip.proofs.hypot.of_any.Goals as goal

pub of_numbers-requires : goal.of_numbers-requires
of_numbers-requires c = let n = read_two c.args.w c.args.v in (cc n.0, cc n.1)

pub returns : goal.returns
returns c = cc (answered c.args.w c.args.v)
