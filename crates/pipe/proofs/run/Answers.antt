-- `pipe::run` takes one turn after the other.
use Rattle.std.proofs.Common.{rules, ◌<◌, length}
use Rattle.lines.proofs.Holding.{fresh_holds}
use Rattle.pipe.proofs.InTurn.{onward}
use Rattle.pipe.proofs.Written.{first_due, all_due, all_is_first, so_far}
use Rattle.pipe.proofs.Written as written
use Rattle.pipe.proofs.run.Goals as goal

pub turns-preserved : goal.turns-preserved
turns-preserved g c = record {
  taken = onward _ _ _ _ c.turns.invariant.taken (rw c.in-Some.is at c.in_ok-next.ensures.turns);
  answered = written.onward g.met.A.Answers.laws _ _ _ _ _ _ _ _ _ (fresh_holds g.row.N).long c.turns.invariant.answered (rw c.in-Some.is at c.in_ok-next.ensures.more);
}

pub returns-in_err-next-clause-first : goal.returns-in_err-next-clause-first
returns-in_err-next-clause-first g c =
    let k : 0 < length c.turns.chunk = search rules in
    first_due g.met.A.Answers.laws _ _ _ _ _ _ c.turns.invariant.answered (c.in_err-next.ensures.first k)

pub returns-in-None-clause-all : goal.returns-in-None-clause-all
returns-in-None-clause-all g c e =
    let k : 0 < length c.turns.chunk = search rules in
    all_due g.met.A.Answers.laws _ _ _ _ _ _ c.turns.invariant.answered (c.in_ok-next.ensures.all c.in-None.is k)

pub returns-in-None-clause-first : goal.returns-in-None-clause-first
returns-in-None-clause-first g c =
    let k : 0 < length c.turns.chunk = search rules in
    all_is_first g.met.A.Answers.laws _ _ _ (all_due g.met.A.Answers.laws _ _ _ _ _ _ c.turns.invariant.answered (c.in_ok-next.ensures.all c.in-None.is k))

pub returns-clause-first : goal.returns-clause-first
returns-clause-first g c = so_far g.met.A.Answers.laws _ _ _ _ _ c.turns.invariant.answered
