-- Or-ed marks whose highest bit is clear tell of every place.
use Rattle.std.proofs.Common.{rules, ◌≡◌, true, ◌^◌, [], ◌∷◌, length, get_or, arith, length-append}
use Rattle.std.proofs.lemmas.Slice.Zip.{zip_turn, zip_end}
use borrow.Author.Tests.{ltb-true}
use Rattle.strip.specs.Reach.{reach}
use Rattle.strip.proofs.Marks.{or_left, or_right}
use Rattle.strip.proofs.Filled.{to_next}
use Rattle.strip.proofs.blocks.judge.Goals as goal

pub loop-a-preserved : goal.loop-a-preserved
loop-a-preserved g c h i k =
    let first = c.args.s.now.first.now in
    let second = c.args.s.now.second.now in
    let t = zip_turn first second c.loop-a.yielded c.into_iter-a-iterator.result c.loop-a.a-iterator c.next.new.self c.next.result (search rules) (search rules) c.loop-a.yielded_by (c.in-Some.a, c.in-Some.b) c.in-Some.is c.next.ensures.steps in
    let m = c.mark-marks.ensures (or_right c.loop-a.marks c.mark-marks.result (2 ^ 31) h) in
    let e = length-append c.loop-a.yielded ((c.in-Some.a, c.in-Some.b) ∷ []) in
    to_next (λ j. reach g.row.OP (get_or first j 0) (get_or second j 0) ≡ true) (length c.loop-a.yielded) (c.loop-a.invariant (or_left c.loop-a.marks c.mark-marks.result (2 ^ 31) h)) (rw (t.2 0, t.3 0) at m) i (omega (arith, k, e))

pub returns : goal.returns
returns g c h i k =
    let s = c.args.s.now in
    let t = zip_end s.first.now s.second.now c.loop-a.yielded c.into_iter-a-iterator.result c.loop-a.a-iterator c.next.new.self c.next.result (search rules) (search rules) c.loop-a.yielded_by c.in-None.is c.next.ensures.steps in
    c.loop-a.invariant (ltb-true _ _ h) i (omega (arith, t, k, s.seconds))
