-- `frame::number` meets its contract. Assumes nothing.
use Rattle.std.proofs.Common.{arith, sym, ◌<◌, ◌∙◌}
use Rattle.frame.proofs.Digits.{digit_lt, all_at, next_digit, shorter, longer}
use Rattle.frame.proofs.number.Goals as goal

small : (c : goal.After-digit_of) → c.digit_of.result < 16
small c = rw c.digit_of.ensures (digit_lt _ (all_at c.args.digits.now c.requires.1 c.loop-b.b-index c.loop-b-test.true))

pub overflow_mul-n : goal.overflow_mul-n
overflow_mul-n c = record { fits = omega (arith, shorter c.loop-b.n c.loop-b.b-index c.loop-b.invariant.1 (omega (arith, c.requires.0, c.loop-b-test.true))) }

pub digit_of-requires : goal.digit_of-requires
digit_of-requires c = all_at c.args.digits.now c.requires.1 c.loop-b.b-index c.loop-b-test.true

pub overflow_add-n : goal.overflow_add-n
overflow_add-n c = record { fits = omega (arith, shorter c.loop-b.n c.loop-b.b-index c.loop-b.invariant.1 (omega (arith, c.requires.0, c.loop-b-test.true)), small c) }

pub loop-b-preserved : goal.loop-b-preserved
loop-b-preserved c =
    let l = c.loop-b in (
      sym (next_digit c.args.digits.now l.b-index c.loop-b-test.true ∙ rw (sym l.invariant.0, sym c.digit_of.ensures)),
      longer l.n c.digit_of.result l.b-index l.invariant.1 (small c),
    )
