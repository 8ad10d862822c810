-- The digits moved up are no more than a word holds.
use Rattle.std.proofs.Common.{arith}
use Rattle.float.proofs.LeftOf.{zeros_lead, written}
use Rattle.float.proofs.remainder.written.Goals as goal

pub overflow_sub-digits : goal.overflow_sub-digits
overflow_sub-digits c = zeros_lead c.args.digits (omega arith) c.requires.few

pub overflow_add-result : goal.overflow_add-result
overflow_add-result c = let w = written _ _ _ (omega arith) c.requires.few c.requires.low c.min-up.ensures in record { fits = omega (arith, w.below) }

pub returns : goal.returns
returns c = let w = written _ _ _ (omega arith) c.requires.few c.requires.low c.min-up.ensures in record { below = w.below; value = w.value }
