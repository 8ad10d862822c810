use Rattle.std.proofs.Common.{◌∙◌, ◌<◌, arith, get_or, below_more}
use Rattle.frame.proofs.Digits.{digit_if, value_if, none_if, digit_lt, shorter, longer}
use Rattle.recipe.proofs.Fronts.{digits_short, eight_not, eight_are, eight_of, next_digit}
use Rattle.recipe.proofs.token.number.Goals as goal

pub returns-in_err-eight : goal.returns-in_err-eight
returns-in_err-eight c = rw c.from_residual.ensures (digits_short 8 _ c.in_err-eight.ensures.cases)

pub returns-in_err-d : goal.returns-in_err-d
returns-in_err-d c =
    let e = c.in_ok-eight.ensures.cases in
    rw c.from_residual-in_err-d.ensures (eight_not _ _ (omega (arith, e.2)) e.0 _ c.loop-b-test.true (none_if (get_or c.in_ok-eight.eight.now c.loop-b.b-index 0) c.in_err-d.ensures))

pub overflow_mul-n : goal.overflow_mul-n
overflow_mul-n c = let h = shorter _ _ c.loop-b.invariant.2 c.loop-b-test.true in record { fits = omega arith }

small : (c : goal.After-from) → c.from.result < 16
small c =
    let b = get_or c.in_ok-eight.eight.now c.loop-b.b-index 0 in
    rw (c.from.ensures, value_if b _ c.in_ok-d.ensures) (digit_lt b (digit_if b _ c.in_ok-d.ensures))

pub overflow_add-n : goal.overflow_add-n
overflow_add-n c = let h = shorter _ _ c.loop-b.invariant.2 c.loop-b-test.true in record { fits = omega (arith, small c) }

pub loop-b-preserved : goal.loop-b-preserved
loop-b-preserved c =
    let e = c.in_ok-eight.ensures.cases in
    let i = c.loop-b.invariant in
    let b = get_or c.in_ok-eight.eight.now c.loop-b.b-index 0 in (
      below_more _ _ i.0 (digit_if b _ c.in_ok-d.ensures),
      next_digit _ _ (omega (arith, e.2)) e.0 _ _ _ c.loop-b-test.true i.1 (c.from.ensures ∙ value_if b _ c.in_ok-d.ensures),
      longer _ _ _ i.2 (small c),
    )

pub returns : goal.returns
returns c =
    let e = c.in_ok-eight.ensures.cases in
    let i = c.loop-b.invariant in
    (eight_are _ _ (omega (arith, e.2)) e.0 (λ k h. i.0 k (omega arith)), eight_of _ _ e.0 _ _ (omega arith) i.1, e.1)
