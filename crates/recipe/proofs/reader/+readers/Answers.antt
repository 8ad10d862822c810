use Rattle.std.proofs.Common.{arith, rules}
use Rattle.recipe.proofs.Chains.{none_first, first, last, none_more, one_more, falls}
use Rattle.recipe.proofs.Groups.{number_read, letter_read, group_read, unopened, no_depth, no_sum, unclosed}
use Rattle.recipe.proofs.reader.+readers.Goals as goal

pub chain-returns-in_err-read : goal.chain-returns-in_err-read
chain-returns-in_err-read t c = search (rules, none_first)

pub chain-loop-operation-init : goal.chain-loop-operation-init
chain-loop-operation-init t c = search (rules, first)

pub chain-returns-in_err-right : goal.chain-returns-in_err-right
chain-returns-in_err-right t c = rw c.from_residual-in_err-right.ensures (none_more _ c.args.x _ _ _ _ c.in-Some.ensures _ _ c.loop-operation.invariant c.in_err-right.ensures)

pub chain-loop-operation-smaller : goal.chain-loop-operation-smaller
chain-loop-operation-smaller t c = search (rules, falls)

pub chain-loop-operation-preserved : goal.chain-loop-operation-preserved
chain-loop-operation-preserved t c = search (rules, one_more)

pub chain-returns : goal.chain-returns
chain-returns t c = search (rules, last)

pub part-returns-in-Sums : goal.part-returns-in-Sums
part-returns-in-Sums t c = rw c.in-Sums.is c.chain.ensures

pub part-returns-in-Products : goal.part-returns-in-Products
part-returns-in-Products t c = rw c.in-Products.is c.factor.ensures

pub factor-returns-in-Some : goal.factor-returns-in-Some
factor-returns-in-Some t c = search (rules, number_read)

pub factor-returns-in-Some-strip_prefix : goal.factor-returns-in-Some-strip_prefix
factor-returns-in-Some-strip_prefix t c = search (rules, letter_read)

pub factor-returns-in_err-kernel : goal.factor-returns-in_err-kernel
factor-returns-in_err-kernel t c = search (rules, unopened)

pub factor-returns-in_err-checked_sub : goal.factor-returns-in_err-checked_sub
factor-returns-in_err-checked_sub t c = search (rules, no_depth)

pub factor-returns-in_err-inner : goal.factor-returns-in_err-inner
factor-returns-in_err-inner t c =
    rw c.from_residual-in_err-inner.ensures
    (no_sum _ _ c.in_default.ensures c.in_default-strip_prefix.ensures.cases _ _ c.in_ok-kernel.ensures c.in_ok-checked_sub.field-0 (omega arith) c.in_err-inner.ensures)

pub factor-returns-in_err-rest : goal.factor-returns-in_err-rest
factor-returns-in_err-rest t c =
    rw c.from_residual-in_err-rest.ensures
    (unclosed _ _ c.in_default.ensures c.in_default-strip_prefix.ensures.cases _ _ c.in_ok-kernel.ensures c.in_ok-checked_sub.field-0 (omega arith) c.args.x _ c.in_ok-inner.ensures c.in_err-rest.ensures.cases)

pub factor-returns : goal.factor-returns
factor-returns t c = search (rules, group_read)
