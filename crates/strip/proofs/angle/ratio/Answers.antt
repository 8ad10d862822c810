-- The sizes are no NaNs either, and `proofs/Quadrants.antt` has their quotient.
use lib.Ieee.{binary32}
use Rattle.strip.proofs.Sized.{size_nan}
use Rattle.strip.proofs.Quadrants.{sized_ratio}
use Rattle.strip.proofs.angle.ratio.Goals as goal

pub float_from_bits-height : goal.float_from_bits-height
float_from_bits-height c = rw (c.abs-height.ensures.steps, size_nan binary32 _, c.requires.0) tt

pub float_from_bits-across : goal.float_from_bits-across
float_from_bits-across c = rw (c.abs-across.ensures.steps, size_nan binary32 _, c.requires.1) tt

pub returns : goal.returns
returns c = sized_ratio _ _ c.abs-height.ensures.steps c.abs-across.ensures.steps
