-- By the classes of the words.
use Rattle.std.proofs.Common.{sym, ap, subst, ◌∙◌}
use lib.Ieee.{binary32}
use Rattle.soft.specs.Rounding.{infinity}
use Rattle.soft.specs.Operations.{Multiplies}
use Rattle.soft.proofs.Classes.{infinite_so, finite_so, zero_so, nonzero_so}
use Rattle.soft.proofs.Multiply.{mul_multiplies}
use Rattle.soft.proofs.mul.mul.Goals as goal
use Rattle.soft.proofs.mul.mul.Goals.{then-is_nan-via-then-is_nan, then-is_nan-via-else-is_nan+then-is_nan-2}

pub returns-then-is_nan : goal.returns-then-is_nan
returns-then-is_nan c =
    let due = mul_multiplies binary32 c.args.a c.args.b in
    let word = sym
    elim c.then-is_nan.branch [
      | then-is_nan-via-then-is_nan w ↦ due.nan_first (sym w.if-is_nan.ensures)
      | then-is_nan-via-else-is_nan+then-is_nan-2 w ↦ due.nan_second (sym w.if-is_nan-2.ensures)
    ] in
    record { word = word; rounds = subst (Multiplies binary32 c.args.a c.args.b) (sym word) due }

pub returns-then-is_zero-clause-word : goal.returns-then-is_zero-clause-word
returns-then-is_zero-clause-word c =
    sym ((mul_multiplies binary32 c.args.a c.args.b).infinite_zero (infinite_so binary32 _ c.if-is_infinite.ensures) (zero_so binary32 _ c.if-is_zero.ensures))

pub returns-else-is_zero-clause-word : goal.returns-else-is_zero-clause-word
returns-else-is_zero-clause-word c =
    c.infinity.ensures
    ∙ ap (infinity binary32) c.signs_differ.ensures
    ∙ sym ((mul_multiplies binary32 c.args.a c.args.b).infinite_first (infinite_so binary32 _ c.if-is_infinite.ensures) (nonzero_so binary32 _ c.if-is_nan-2.ensures c.if-is_zero.ensures))

pub returns-then-is_zero-2-clause-word : goal.returns-then-is_zero-2-clause-word
returns-then-is_zero-2-clause-word c =
    sym ((mul_multiplies binary32 c.args.a c.args.b).zero_infinite (zero_so binary32 _ c.if-is_zero-2.ensures) (infinite_so binary32 _ c.if-is_infinite-2.ensures))

pub returns-else-is_zero-2-clause-word : goal.returns-else-is_zero-2-clause-word
returns-else-is_zero-2-clause-word c =
    c.infinity-else-is_zero-2.ensures
    ∙ ap (infinity binary32) c.signs_differ-else-is_zero-2.ensures
    ∙ sym ((mul_multiplies binary32 c.args.a c.args.b).infinite_second (nonzero_so binary32 _ c.if-is_nan.ensures c.if-is_zero-2.ensures) (infinite_so binary32 _ c.if-is_infinite-2.ensures))

pub invariant_of-product : goal.invariant_of-product
invariant_of-product c = record { finite = finite_so binary32 _ c.if-is_nan.ensures c.if-is_infinite.ensures }

pub invariant_of-product-else-is_infinite-2 : goal.invariant_of-product-else-is_infinite-2
invariant_of-product-else-is_infinite-2 c = record { finite = finite_so binary32 _ c.if-is_nan-2.ensures c.if-is_infinite-2.ensures }

pub returns-else-is_infinite-2-clause-rounds : goal.returns-else-is_infinite-2-clause-rounds
returns-else-is_infinite-2-clause-rounds c = subst (Multiplies binary32 c.args.a c.args.b) (sym c.product.ensures) (mul_multiplies binary32 c.args.a c.args.b)
