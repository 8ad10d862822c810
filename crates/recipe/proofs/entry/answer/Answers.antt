use Rattle.std.proofs.Common.{rules}
use Rattle.recipe.proofs.Entries.{an_entry}
use Rattle.recipe.proofs.entry.answer.Goals as goal

pub returns : goal.returns
returns c = search (rules, an_entry)
