use Rattle.std.proofs.Common.{rules}
use Rattle.recipe.proofs.Answers.{not_read, left_over, read_whole}
use Rattle.recipe.proofs.worked_out.Goals as goal

pub returns-in-Some-empty : goal.returns-in-Some-empty
returns-in-Some-empty c = search (rules, read_whole)

pub returns-in_default : goal.returns-in_default
returns-in_default c = let s = rw c.in_default.is at c.chain.ensures in search (rules, left_over)

pub returns-in_default-2 : goal.returns-in_default-2
returns-in_default-2 c = let s = rw c.in_default.is at c.chain.ensures in search (rules, not_read)
