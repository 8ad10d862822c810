-- The sum is no NaN, with the sign clear.
use Rattle.std.proofs.Common.{arith}
use Rattle.strip.proofs.Sides.{total_number, total_word, halved}
use Rattle.strip.proofs.hypot.of_numbers.Goals as goal

pub float_to_bits-result : goal.float_to_bits-result
float_to_bits-result c = total_number _ _ c.requires.0 c.requires.1

pub overflow_add-result : goal.overflow_add-result
overflow_add-result c = omega (arith, total_word _ _ c.requires.0 c.requires.1)

pub returns : goal.returns
returns c = halved _ _ c.requires.0 c.requires.1
