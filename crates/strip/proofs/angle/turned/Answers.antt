-- `proofs/Quadrants.antt` has the steps.
use Rattle.strip.proofs.Quadrants.{from_exact, signed_number, angle_number, angle_is}
use Rattle.strip.proofs.angle.turned.Goals as goal

pub int_to_float-from : goal.int_to_float-from
int_to_float-from c = from_exact c.args.y c.args.x c.args.quotient c.ranges.y.fits c.ranges.x.fits c.ranges.quotient.fits c.requires

pub float_from_bits-quarters : goal.float_from_bits-quarters
float_from_bits-quarters c = signed_number c.args.y c.args.x c.args.quotient c.ranges.y.fits c.ranges.x.fits c.ranges.quotient.fits c.requires

pub float_to_bits-result : goal.float_to_bits-result
float_to_bits-result c = angle_number c.args.y c.args.x c.args.quotient c.ranges.y.fits c.ranges.x.fits c.ranges.quotient.fits c.requires c.whole_turn.ensures

pub returns : goal.returns
returns c = angle_is c.args.y c.args.x c.args.quotient c.ranges.y.fits c.ranges.x.fits c.ranges.quotient.fits c.requires c.whole_turn.ensures
