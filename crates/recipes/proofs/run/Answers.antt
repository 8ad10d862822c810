-- What `pipe::run` writes are answers to the entries.
use Rattle.recipes.proofs.Written.{adds_all, adds_first}
use Rattle.recipes.proofs.run.Goals as goal

pub returns-clause-all : goal.returns-clause-all
returns-clause-all g c = adds_all _ _ _ _ c.run.ensures.all

pub returns-clause-first : goal.returns-clause-first
returns-clause-first g c = adds_first _ _ _ c.run.ensures.first
