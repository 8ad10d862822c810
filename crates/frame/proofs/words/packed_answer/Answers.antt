-- `frame::words::packed_answer` meets its contract. Assumes nothing.
use Rattle.std.proofs.Common.{◌∙◌}
use Rattle.frame.proofs.Answers.{repacked}
use Rattle.frame.proofs.words.packed_answer.Goals as goal

pub returns : goal.returns
returns c = c.packed.ensures ∙ repacked _ _ c.answer.ensures
