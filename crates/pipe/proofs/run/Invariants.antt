-- What `pipe::run` has taken, answered and written so far.
use Rattle.pipe.specs.Turns.{Taken}
use Rattle.pipe.specs.Written.{Answered}
use Rattle.lines.specs.Held.{fresh}
use Rattle.pipe.proofs.run.Given as goal

abbrev pub invariant-turns : goal.invariant-turns
invariant-turns g l = record {
  taken : Taken l._turn l.begun;
  answered : Answered g.A.Answers.bytes (fresh g.row.N) (g.R.Read.remaining l.initial.input) (g.R.Read.remaining l.input) (g.W.Write.contents l.initial.output) (g.W.Write.contents l.output) l.begun;
}
