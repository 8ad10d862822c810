-- `proofs/Slopes.antt` has the steps.
use Rattle.strip.proofs.Slopes.{signed_number, angle_number, angle_is}
use Rattle.strip.proofs.atan.signed.Goals as goal

pub float_from_bits-result : goal.float_from_bits-result
float_from_bits-result c = signed_number c.args.w c.args.quotient c.ranges.w.fits c.ranges.quotient.fits c.requires

pub float_to_bits-result : goal.float_to_bits-result
float_to_bits-result c = angle_number c.args.w c.args.quotient c.ranges.w.fits c.ranges.quotient.fits c.requires

pub returns : goal.returns
returns c = angle_is c.args.w c.args.quotient c.ranges.w.fits c.ranges.quotient.fits c.requires
