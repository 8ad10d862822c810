-- By the classes of the words.
use Rattle.std.proofs.Common.{sym, ap, subst, ◌∙◌}
use lib.Ieee.{binary32}
use Rattle.soft.specs.Rounding.{infinity}
use Rattle.soft.specs.Operations.{Adds}
use Rattle.soft.proofs.Classes.{infinite_so, finite_so}
use Rattle.soft.proofs.Sum.{add_adds, signs_like, signs_unlike}
use Rattle.soft.proofs.add.add.Goals as goal
use Rattle.soft.proofs.add.add.Goals.{then-is_nan-via-then-is_nan, then-is_nan-via-else-is_nan+then-is_nan-2}
use Rattle.soft.proofs.add.add.Goals.{else-is_infinite-2-via-then-is_infinite-2+else-signs_differ, else-is_infinite-2-via-else-is_infinite-2}

pub returns-then-is_nan : goal.returns-then-is_nan
returns-then-is_nan c =
    let due = add_adds binary32 c.args.a c.args.b in
    let word = sym
    elim c.then-is_nan.branch [
      | then-is_nan-via-then-is_nan w ↦ due.nan_first (sym w.if-is_nan.ensures)
      | then-is_nan-via-else-is_nan+then-is_nan-2 w ↦ due.nan_second (sym w.if-is_nan-2.ensures)
    ] in
    record { word = word; rounds = subst (Adds binary32 c.args.a c.args.b) (sym word) due }

pub returns-then-signs_differ-clause-word : goal.returns-then-signs_differ-clause-word
returns-then-signs_differ-clause-word c =
    sym
    ((add_adds binary32 c.args.a c.args.b).unlike_infinite (infinite_so binary32 _ c.if-is_infinite.ensures) (infinite_so binary32 _ c.if-is_infinite-2.ensures)
    (signs_unlike _ _ (sym c.if-signs_differ.ensures)))

pub returns-else-is_infinite-2-clause-word : goal.returns-else-is_infinite-2-clause-word
returns-else-is_infinite-2-clause-word c =
    let due = add_adds binary32 c.args.a c.args.b in
    let first = infinite_so binary32 _ c.if-is_infinite.ensures in
    c.infinity.ensures
    ∙ ap (infinity binary32) c.is_sign_negative.ensures
    ∙ sym elim c.else-is_infinite-2.branch [
      | else-is_infinite-2-via-then-is_infinite-2+else-signs_differ w ↦ due.like_infinite first (infinite_so binary32 _ w.if-is_infinite-2.ensures) (signs_like _ _ (sym w.if-signs_differ.ensures))
      | else-is_infinite-2-via-else-is_infinite-2 w ↦ due.infinite_finite first (finite_so binary32 _ c.if-is_nan-2.ensures w.if-is_infinite-2.ensures)
    ]

pub returns-then-is_infinite-3-clause-word : goal.returns-then-is_infinite-3-clause-word
returns-then-is_infinite-3-clause-word c =
    c.infinity-then-is_infinite-3.ensures
    ∙ ap (infinity binary32) c.is_sign_negative-then-is_infinite-3.ensures
    ∙ sym ((add_adds binary32 c.args.a c.args.b).finite_infinite (finite_so binary32 _ c.if-is_nan.ensures c.if-is_infinite.ensures) (infinite_so binary32 _ c.if-is_infinite-3.ensures))

pub invariant_of-sum : goal.invariant_of-sum
invariant_of-sum c = record { finite = finite_so binary32 _ c.if-is_nan.ensures c.if-is_infinite.ensures }

pub invariant_of-sum-else-is_infinite-3 : goal.invariant_of-sum-else-is_infinite-3
invariant_of-sum-else-is_infinite-3 c = record { finite = finite_so binary32 _ c.if-is_nan-2.ensures c.if-is_infinite-3.ensures }

pub returns-else-is_infinite-3-clause-rounds : goal.returns-else-is_infinite-3-clause-rounds
returns-else-is_infinite-3-clause-rounds c = subst (Adds binary32 c.args.a c.args.b) (sym c.sum.ensures) (add_adds binary32 c.args.a c.args.b)
