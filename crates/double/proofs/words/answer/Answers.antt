-- `double::words::answer` meets its contract. Assumes nothing.
use Rattle.double.proofs.words.answer.Goals as goal

pub returns-in-130-clause-word : goal.returns-in-130-clause-word
returns-in-130-clause-word c = rw c.in-130.is c.fract.ensures.steps
