use Rattle.std.proofs.Common.{rules}
use Rattle.recipe.proofs.Worths.{call_refused, call_worked}
use Rattle.recipe.proofs.reader.asked.Goals as goal

pub returns-in_err-word : goal.returns-in_err-word
returns-in_err-word c =
    let given = call_refused _ _ _ c.requires.1 (search rules) c.of.ensures _ _ c.packed_answer.ensures c.unpacked.ensures c.requires.0 _ c.in_err-word.was in
    search (rules, given)

pub returns : goal.returns
returns c = call_worked _ _ _ c.requires.1 (search rules) c.of.ensures _ _ c.packed_answer.ensures c.unpacked.ensures c.requires.0 _ c.in_ok-word.was _ c.value.ensures
