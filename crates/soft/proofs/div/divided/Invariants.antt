-- Each turn finds eight digits more.
use Rattle.soft.proofs.Long.{Turned}
use Rattle.soft.proofs.div.divided.Given as goal

abbrev pub invariant-loop-turn : goal.invariant-loop-turn
invariant-loop-turn l = Turned l.n l.by l.turn l.whole l.rest
