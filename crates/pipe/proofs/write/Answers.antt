-- `pipe::write` has written the first of the bytes at each turn of its loop.
use Rattle.pipe.proofs.Front.{within, one_more}
use Rattle.pipe.proofs.write.Goals as goal

pub loop-done-preserved : goal.loop-done-preserved
loop-done-preserved g c = record {
  within = within _ _ _ c.loop-done.invariant.within c.in-Ok.ensures.bound;
  written = one_more _ _ _ _ _ _ c.loop-done.invariant.written c.in-Ok.ensures.bytes;
}
