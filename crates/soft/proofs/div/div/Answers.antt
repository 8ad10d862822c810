-- By the classes of the words.
use Rattle.std.proofs.Common.{sym, ap, subst, ◌∙◌}
use lib.Ieee.{binary32}
use Rattle.format.specs.Fields.{sign_bit}
use Rattle.soft.specs.Rounding.{infinity}
use Rattle.soft.specs.Operations.{Divides}
use Rattle.soft.proofs.Classes.{infinite_so, finite_so, zero_so, nonzero_so}
use Rattle.soft.proofs.Divide.{div_divides}
use Rattle.soft.proofs.div.div.Goals as goal
use Rattle.soft.proofs.div.div.Goals.{then-is_nan-via-then-is_nan, then-is_nan-via-else-is_nan+then-is_nan-2}

pub returns-then-is_nan : goal.returns-then-is_nan
returns-then-is_nan c =
    let due = div_divides binary32 c.args.a c.args.b in
    let word = sym
    elim c.then-is_nan.branch [
      | then-is_nan-via-then-is_nan w ↦ due.nan_first (sym w.if-is_nan.ensures)
      | then-is_nan-via-else-is_nan+then-is_nan-2 w ↦ due.nan_second (sym w.if-is_nan-2.ensures)
    ] in
    record { word = word; rounds = subst (Divides binary32 c.args.a c.args.b) (sym word) due }

pub returns-then-is_infinite-2-clause-word : goal.returns-then-is_infinite-2-clause-word
returns-then-is_infinite-2-clause-word c =
    sym ((div_divides binary32 c.args.a c.args.b).infinite_infinite (infinite_so binary32 _ c.if-is_infinite.ensures) (infinite_so binary32 _ c.if-is_infinite-2.ensures))

pub returns-else-is_infinite-2-clause-word : goal.returns-else-is_infinite-2-clause-word
returns-else-is_infinite-2-clause-word c =
    c.infinity.ensures
    ∙ ap (infinity binary32) c.signs_differ.ensures
    ∙ sym ((div_divides binary32 c.args.a c.args.b).infinite_finite (infinite_so binary32 _ c.if-is_infinite.ensures) (finite_so binary32 _ c.if-is_nan-2.ensures c.if-is_infinite-2.ensures))

pub returns-then-is_infinite-3-clause-word : goal.returns-then-is_infinite-3-clause-word
returns-then-is_infinite-3-clause-word c =
    c.sign_bit.ensures
    ∙ ap (sign_bit binary32) c.signs_differ-then-is_infinite-3.ensures
    ∙ sym ((div_divides binary32 c.args.a c.args.b).finite_infinite (finite_so binary32 _ c.if-is_nan.ensures c.if-is_infinite.ensures) (infinite_so binary32 _ c.if-is_infinite-3.ensures))

pub returns-then-is_zero-2-clause-word : goal.returns-then-is_zero-2-clause-word
returns-then-is_zero-2-clause-word c =
    sym ((div_divides binary32 c.args.a c.args.b).zero_zero (zero_so binary32 _ c.if-is_zero-2.ensures) (zero_so binary32 _ c.if-is_zero.ensures))

pub returns-else-is_zero-2-clause-word : goal.returns-else-is_zero-2-clause-word
returns-else-is_zero-2-clause-word c =
    c.infinity-else-is_zero-2.ensures
    ∙ ap (infinity binary32) c.signs_differ-else-is_zero-2.ensures
    ∙ sym
    ((div_divides binary32 c.args.a c.args.b).by_zero (finite_so binary32 _ c.if-is_nan.ensures c.if-is_infinite.ensures) (nonzero_so binary32 _ c.if-is_nan.ensures c.if-is_zero-2.ensures).0
    (zero_so binary32 _ c.if-is_zero.ensures))

pub invariant_of-quotient : goal.invariant_of-quotient
invariant_of-quotient c = record { finite = finite_so binary32 _ c.if-is_nan.ensures c.if-is_infinite.ensures }

pub invariant_of-quotient-else-is_zero : goal.invariant_of-quotient-else-is_zero
invariant_of-quotient-else-is_zero c = record { finite = finite_so binary32 _ c.if-is_nan-2.ensures c.if-is_infinite-3.ensures }

pub quotient-requires : goal.quotient-requires
quotient-requires c = (nonzero_so binary32 _ c.if-is_nan-2.ensures c.if-is_zero.ensures).0

pub returns-else-is_zero-clause-rounds : goal.returns-else-is_zero-clause-rounds
returns-else-is_zero-clause-rounds c = subst (Divides binary32 c.args.a c.args.b) (sym c.quotient.ensures) (div_divides binary32 c.args.a c.args.b)
