-- The digits' sum or difference at the lower places, or the larger alone.
use Rattle.std.proofs.Common.{◌+◌, ℕ, ap, ◌∙◌, arith}
use borrow.Author.Tests.{eq-eqb, ne_eqb}
use lib.Ieee.{binary32}
use Rattle.soft.specs.Digits.{scaled_word}
use Rattle.soft.proofs.Sums.{gap_le, up_small, less_le, near_sum, near_part, alone, far_all}
use Rattle.soft.proofs.add.joined.Goals as goal
use Rattle.soft.proofs.add.joined.Goals.{then-this-ne0, else-this-ne0}

pub overflow_sub-high : goal.overflow_sub-high
overflow_sub-high g c = gap_le c.args.a.word c.args.b.word _ _ _ _ c.digits-more.ensures.value c.digits-less.ensures.value c.places-high.ensures.value c.places-low.ensures.value c.requires

pub returns-then-high-low-gt-FAR : goal.returns-then-high-low-gt-FAR
returns-then-high-low-gt-FAR g c =
    c.rounded.ensures
    ∙ alone c.args.a.word c.args.b.word _ _ _ _ c.digits-more.ensures.value c.digits-less.ensures.value c.places-high.ensures.value c.places-low.ensures.value c.requires _
    ∙ far_all c.args.a.word c.args.b.word _ _ _ _ c.digits-more.ensures.value c.digits-less.ensures.value c.places-high.ensures.value c.places-low.ensures.value c.requires c.if-high-low-gt-FAR.true _ _

pub overflow_sub-moved : goal.overflow_sub-moved
overflow_sub-moved g c = gap_le c.args.a.word c.args.b.word _ _ _ _ c.digits-more.ensures.value c.digits-less.ensures.value c.places-high.ensures.value c.places-low.ensures.value c.requires

pub overflow_sub-all : goal.overflow_sub-all
overflow_sub-all g c = less_le c.args.a.word c.args.b.word _ _ _ _ c.digits-more.ensures.value c.digits-less.ensures.value c.places-high.ensures.value c.places-low.ensures.value c.requires c.if-high-low-gt-FAR.false

pub overflow_add-all : goal.overflow_add-all
overflow_add-all g c =
    let u = up_small c.args.a.word c.args.b.word _ _ _ _ c.digits-more.ensures.value c.digits-less.ensures.value c.places-high.ensures.value c.places-low.ensures.value c.requires c.if-high-low-gt-FAR.false in
    record { fits = omega (arith, u) }

pub rounded-requires-2-clause-few : goal.rounded-requires-2-clause-few
rounded-requires-2-clause-few g c =
    let u = up_small c.args.a.word c.args.b.word _ _ _ _ c.digits-more.ensures.value c.digits-less.ensures.value c.places-high.ensures.value c.places-low.ensures.value c.requires c.if-high-low-gt-FAR.false in
    elim c.if-this-ne0.branch [ then-this-ne0 w ↦ omega (arith, u, w.all-is) | else-this-ne0 w ↦ omega (arith, u, w.all-is) ]

pub returns : goal.returns
returns g c =
    elim c.if-this-ne0.branch [
      | then-this-ne0 w ↦
          c.rounded-2.ensures
          ∙ ap (λ (m : ℕ). scaled_word binary32 c.args.sign m (c.places-low.result + 300)) w.all-is
          ∙ rw (ne_eqb g.row.MINUS 0 w.if-this-ne0.true) (near_part c.args.a.word c.args.b.word _ _ _ _ c.digits-more.ensures.value c.digits-less.ensures.value c.places-high.ensures.value c.places-low.ensures.value c.requires c.if-high-low-gt-FAR.false _)
      | else-this-ne0 w ↦
          c.rounded-2.ensures
          ∙ ap (λ (m : ℕ). scaled_word binary32 c.args.sign m (c.places-low.result + 300)) w.all-is
          ∙ rw (eq-eqb g.row.MINUS 0 w.if-this-ne0.false) (near_sum c.args.a.word c.args.b.word _ _ _ _ c.digits-more.ensures.value c.digits-less.ensures.value c.places-high.ensures.value c.places-low.ensures.value c.requires c.if-high-low-gt-FAR.false _)
    ]
