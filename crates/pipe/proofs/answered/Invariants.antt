-- What `pipe::answered` has answered so far, and what is left.
use Rattle.std.proofs.Common.{length}
use Rattle.pipe.proofs.Chunk.{Begun}
use Rattle.pipe.proofs.answered.Given as goal

abbrev pub invariant-loop-rest : goal.invariant-loop-rest
invariant-loop-rest g l = Begun g.A.Answers.bytes l.fn.lines l.bytes (g.W.Write.contents l.initial.output) l.begun l.rest (g.W.Write.contents l.output)

abbrev pub decreases-loop-rest : goal.decreases-loop-rest
decreases-loop-rest g l = length l.rest
