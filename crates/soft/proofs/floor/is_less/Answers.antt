-- By the signs and the magnitudes.
use Rattle.std.proofs.Common.{true, false, sym}
use Rattle.soft.proofs.Less.{less_nan_first, less_nan_second, less_by}
use Rattle.soft.proofs.floor.is_less.Goals as goal
use Rattle.soft.proofs.floor.is_less.Goals.{then-is_nan-via-then-is_nan, then-is_nan-via-else-is_nan+then-is_nan-2}

pub returns-then-is_nan : goal.returns-then-is_nan
returns-then-is_nan c =
    elim c.then-is_nan.branch [
      | then-is_nan-via-then-is_nan w ↦ less_nan_first c.args.a c.args.b (sym w.if-is_nan.ensures)
      | then-is_nan-via-else-is_nan+then-is_nan-2 w ↦ less_nan_second c.args.a c.args.b (sym w.if-is_nan-2.ensures)
    ]

pub returns-in-true-true : goal.returns-in-true-true
returns-in-true-true c =
    less_by c.args.a c.args.b _ _ true true c.if-is_nan.ensures c.if-is_nan-2.ensures c.without_sign-x.ensures c.without_sign-y.ensures c.in-true-true.ensures c.in-true-true.ensures'

pub returns-in-true-false : goal.returns-in-true-false
returns-in-true-false c =
    less_by c.args.a c.args.b _ _ true false c.if-is_nan.ensures c.if-is_nan-2.ensures c.without_sign-x.ensures c.without_sign-y.ensures c.in-true-false.ensures c.in-true-false.ensures'

pub returns-in-false-true : goal.returns-in-false-true
returns-in-false-true c =
    less_by c.args.a c.args.b _ _ false true c.if-is_nan.ensures c.if-is_nan-2.ensures c.without_sign-x.ensures c.without_sign-y.ensures c.in-false-true.ensures c.in-false-true.ensures'

pub returns-in-false-false : goal.returns-in-false-false
returns-in-false-false c =
    less_by c.args.a c.args.b _ _ false false c.if-is_nan.ensures c.if-is_nan-2.ensures c.without_sign-x.ensures c.without_sign-y.ensures c.in-false-false.ensures c.in-false-false.ensures'
