-- `frame::answer` meets its contract. Assumes nothing.
use Rattle.std.proofs.Common.{◌∙◌}
use Rattle.frame.proofs.Answers.{repacked}
use Rattle.frame.specs.Frame.{answer_bytes}
use Rattle.frame.proofs.answer.Goals as goal

pub returns-clause-bytes : goal.returns-clause-bytes
unfolding answer_bytes
returns-clause-bytes c = c.in_ok-put.ensures.bytes ∙ rw (c.packed.ensures ∙ repacked _ _ c.of_line-answer.ensures)
