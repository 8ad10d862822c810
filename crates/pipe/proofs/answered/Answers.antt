-- `pipe::answered` steps through the bytes: each step leaves fewer, and adds their answers.
use Rattle.std.proofs.Common.{arith, rules, ◌≡◌, ◌<◌, length}
use Rattle.pipe.proofs.Chunk.{begin, within, fewer, onward, cut_short}
use Rattle.pipe.proofs.Front.{lent_is, on_err}
use Rattle.pipe.proofs.answered.Goals as goal

pub loop-rest-init : goal.loop-rest-init
loop-rest-init g c =
    let h : length c.args.lines.held ≡ g.row.N = search rules in
    begin _ _ _ _ h

pub returns-in_err-read-clause-first : goal.returns-in_err-read-clause-first
returns-in_err-read-clause-first g c =
    on_err _ (cut_short _ _ _ g.met.A.Answers.laws _ _ _ _ _ c.loop-rest.invariant _ c.in_err-read.ensures.first)

pub slice_bounds-rest-count : goal.slice_bounds-rest-count
slice_bounds-rest-count g c = within _ _ _ _ _ c.in_ok-read.ensures.steps

pub slice_bounds-rest-start : goal.slice_bounds-rest-start
slice_bounds-rest-start g c = within _ _ _ _ _ c.in_ok-read.ensures.steps

pub loop-rest-smaller : goal.loop-rest-smaller
loop-rest-smaller g c =
    let k : 0 < length c.loop-rest.rest.now = search rules in
    rw (lent_is c.loop-rest.rest.now c.in_ok-read.read)
    (fewer _ _ _ _ _ c.in_ok-read.ensures.steps (omega arith) k)

pub loop-rest-preserved : goal.loop-rest-preserved
loop-rest-preserved g c =
    rw (lent_is c.loop-rest.rest.now c.in_ok-read.read)
    (onward _ _ _ g.met.A.Answers.laws _ _ _ _ _ c.loop-rest.invariant _ _ c.in_ok-read.ensures.steps _ c.in_ok-read.ensures.written)
