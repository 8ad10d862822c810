-- `double::guarded::call` meets its contract. Assumes nothing.
use Rattle.double.proofs.guarded.call.Goals as goal

pub returns-in-2 : goal.returns-in-2
returns-in-2 c = rw c.in-2.is c.fract.ensures.gate
