-- `pipe::step` feeds the bytes, and what it hands to the write are the answers to those read.
use Rattle.std.proofs.Common.{rules, sym, length-take-le}
use Rattle.lines.proofs.Front.{read_within, part, answers_part}
use Rattle.pipe.proofs.Front.{on_err}
use Rattle.pipe.proofs.step.Goals as goal

pub slice_bounds-write_answers-end : goal.slice_bounds-write_answers-end
slice_bounds-write_answers-end g c = sym (length-take-le _ _ (read_within _ _ _ _ _ _ _ _ c.feed_to-read.ensures))

pub write_answers-requires : goal.write_answers-requires
write_answers-requires g c = (search rules, answers_part _ _ _ _ _ _ _ _ c.feed_to-read.ensures)

pub returns-in_err-write_answers-clause-first : goal.returns-in_err-write_answers-clause-first
returns-in_err-write_answers-clause-first g c =
    rw (part _ _ _ _ _ _ _ _ c.feed_to-read.ensures) (on_err _ c.in_err-write_answers.ensures.first)

pub returns-clause-written : goal.returns-clause-written
returns-clause-written g c =
    let e = part _ _ _ _ _ _ _ _ c.feed_to-read.ensures in
    rw e c.in_ok-write_answers.ensures.written
