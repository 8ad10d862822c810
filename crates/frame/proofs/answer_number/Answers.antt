-- `frame::answer_number` meets its contract. Assumes nothing.
use Rattle.std.proofs.Common.{◌∙◌}
use Rattle.frame.specs.Frame.{answer_bytes}
use Rattle.frame.proofs.answer_number.Goals as goal

pub returns-clause-bytes : goal.returns-clause-bytes
unfolding answer_bytes
returns-clause-bytes c = c.write.ensures.bytes ∙ rw c.packed_of_line.ensures
