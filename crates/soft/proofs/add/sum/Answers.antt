-- By the signs and by which is the larger.
use Rattle.std.proofs.Common.{◌≡◌, ℕ, ◌≤◌, ◌<◌, sym, subst, ◌∙◌}
use lib.Ieee.{binary32}
use Rattle.format.specs.Fields.{magnitude}
use Rattle.soft.proofs.Sum.{sum_level, sum_less, sum_more, sum_like, sum_like_turned}
use Rattle.soft.proofs.add.sum.Goals as goal

pub returns-then-x-y : goal.returns-then-x-y
returns-then-x-y c =
    sum_level binary32 c.args.a.word c.args.b.word c.args.a.finite c.args.b.finite (sym c.if-signs_differ.ensures) (sym c.size-x.ensures ∙ c.if-x-y.true ∙ c.size-y.ensures)

pub returns-then-x-y-2 : goal.returns-then-x-y-2
returns-then-x-y-2 c =
    sum_less binary32 c.args.a.word c.args.b.word _ _ c.args.a.finite c.args.b.finite (sym c.if-signs_differ.ensures) (less _ _ _ _ c.size-x.ensures c.size-y.ensures c.if-x-y-2.true) c.joined.ensures
    c.is_negative.ensures
  where
    less : (x y m n : ℕ) → x ≡ m → y ≡ n → x < y → m < n
    less x y m n e i l = subst (λ (z : ℕ). m < z) i (subst (λ (z : ℕ). z < y) e l)

pub returns-else-x-y-2 : goal.returns-else-x-y-2
returns-else-x-y-2 c =
    sum_more binary32 c.args.a.word c.args.b.word _ _ c.args.a.finite c.args.b.finite (sym c.if-signs_differ.ensures)
    (λ (e : magnitude binary32 c.args.a.word ≡ magnitude binary32 c.args.b.word). c.if-x-y.false (c.size-x.ensures ∙ e ∙ sym c.size-y.ensures))
    (no_less _ _ _ _ c.size-x.ensures c.size-y.ensures c.if-x-y-2.false) c.joined-else-x-y-2.ensures c.is_negative-else-x-y-2.ensures
  where
    no_less : (x y m n : ℕ) → x ≡ m → y ≡ n → y ≤ x → n ≤ m
    no_less x y m n e i l = subst (λ (z : ℕ). n ≤ z) e (subst (λ (z : ℕ). z ≤ x) i l)

pub returns-then-x-y-3 : goal.returns-then-x-y-3
returns-then-x-y-3 c =
    sum_like_turned binary32 c.args.a.word c.args.b.word _ _ c.args.a.finite c.args.b.finite (sym c.if-signs_differ.ensures) c.joined-then-x-y-3.ensures c.is_negative-then-x-y-3.ensures

pub returns-else-x-y-3 : goal.returns-else-x-y-3
returns-else-x-y-3 c =
    sum_like binary32 c.args.a.word c.args.b.word _ _ c.args.a.finite c.args.b.finite (sym c.if-signs_differ.ensures) c.joined-else-x-y-3.ensures c.is_negative-else-x-y-3.ensures
