-- Only the NaN differs from itself. Assumes nothing.
use lib.Ieee.{binary64}
use Rattle.format.proofs.Nan.{nan_told, no_nan}
use Rattle.double.proofs.F64.of.Goals as goal

pub float_to_bits-result : goal.float_to_bits-result
float_to_bits-result c = no_nan c.args.x c.if-x.false

pub returns-then-x : goal.returns-then-x
returns-then-x c = nan_told binary64 c.args.x c.if-x.true
