-- An entry's answer is written.
use Rattle.std.proofs.Common.{ℕ, List, ap, ◌∙◌}
use Rattle.frame.specs.Frame.{left_with}
use Rattle.recipes.proofs.Written.{bytes_of}
use Rattle.recipes.proofs.EntriesAnswersKEPT.answer.Goals as goal

pub returns : goal.returns
returns c = c.write.ensures.bytes ∙ ap (λ (l : List ℕ). left_with l c.args.space.now) (bytes_of _ _ c.answer.ensures)
