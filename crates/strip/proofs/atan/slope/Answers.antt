-- The size is no NaN either, and `proofs/Slopes.antt` has its quotient.
use lib.Ieee.{binary32}
use Rattle.strip.proofs.Sized.{size_nan}
use Rattle.strip.proofs.Slopes.{sized_slope}
use Rattle.strip.proofs.atan.slope.Goals as goal

pub float_from_bits-size : goal.float_from_bits-size
float_from_bits-size c = rw (c.abs-size.ensures.steps, size_nan binary32 _, c.requires) tt

pub returns : goal.returns
returns c = sized_slope _ c.abs-size.ensures.steps
