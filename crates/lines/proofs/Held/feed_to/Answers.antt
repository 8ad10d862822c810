-- `Held::feed_to` reads byte by byte, and answers where a line ends.
use Rattle.std.proofs.Common.{rules, ◌≡◌, length}
use Rattle.lines.proofs.Feeding.{line, done, full}
use Rattle.lines.proofs.Held.feed_to.Goals as goal

pub returns-then-full : goal.returns-then-full
returns-then-full g c =
    let h : length c.args.self.now.held ≡ g.row.N = search rules in
    full g.met.A.Answers.laws _ _ _ _ _ _ _ c.loop-read.invariant h c.loop-read-test.true c.if-b-ne10.false c.if-full.true

pub returns : goal.returns
returns g c =
    let h : length c.args.self.now.held ≡ g.row.N = search rules in
    done g.met.A.Answers.laws _ _ _ _ _ _ _ c.loop-read.invariant h c.loop-read-test.false

pub loop-read-preserved : goal.loop-read-preserved
loop-read-preserved g c =
    line g.met.A.Answers.laws _ _ _ _ _ _ _ c.loop-read.invariant _ c.loop-read-test.true c.if-b-ne10.false c.if-full.false (rw c.line.ensures at c.answer.ensures)
