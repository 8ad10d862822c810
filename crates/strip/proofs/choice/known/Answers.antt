-- Only the NaN differs from itself.
use Rattle.strip.proofs.Sized.{is_itself}
use Rattle.strip.proofs.choice.known.Goals as goal

pub float_to_bits-result : goal.float_to_bits-result
float_to_bits-result c = rw (is_itself _ c.if-x.false) tt
