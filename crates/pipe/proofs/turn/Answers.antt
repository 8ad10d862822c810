-- `pipe::turn` hands on what the read answered: where it ends early, the first of what is due are written.
use Rattle.std.proofs.Common.{arith, rules, ◌≡◌, length}
use Rattle.pipe.proofs.Written.{call_due}
use Rattle.pipe.proofs.turn.Goals as goal

pub returns-clause-first : goal.returns-clause-first
returns-clause-first g c =
    let h : length c.args.lines.held ≡ g.row.N = search rules in
    let e : length c.read-got.new.buf ≡ length c.args.chunk.now = omega arith in
    call_due g.met.A.Answers.laws _ _ _ _ _ _ _ _ _ h e c.read-got.ensures.bound c.read-got.ensures.bytes c.taken.ensures.first
