-- What `Held::feed_to` has read and written so far.
use Rattle.lines.proofs.Feeding.{SoFar}
use Rattle.lines.proofs.Held.feed_to.Given as goal

abbrev pub invariant-loop-read : goal.invariant-loop-read
invariant-loop-read g l = SoFar g.A.Answers.bytes l.fn.self l.chunk l.initial.space (record { held = l.self.held; count = l.count }) l.read l.written l.space
