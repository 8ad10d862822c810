-- Moved up to 63 digits, a number's word is what a shift keeps of it and how many digits it dropped.
use Rattle.std.proofs.Common.{arith, sym, ◌∙◌, lt_of_le_of_lt, lit<, lit≤}
use Rattle.soft.proofs.Leading.{leads}
use Rattle.soft.proofs.Shifted.{above_zero, small, sign_small, scaled_zero, scaled_none, scaled_low, scaled_high, scaled_inf}
use Rattle.soft.proofs.rounding.rounded.Goals as goal

pub returns-then-m-eq0 : goal.returns-then-m-eq0
returns-then-m-eq0 c = c.sign_bit-bit.ensures ∙ sym (scaled_zero c.args.sign c.args.m c.args.at c.if-m-eq0.true)

pub overflow_sub-free : goal.overflow_sub-free
overflow_sub-free c = let l = leads c.args.m 63 (above_zero _ c.if-m-eq0.false) c.requires.few (lit≤ tt) in omega (arith, l)

pub returns-then-count-gt63 : goal.returns-then-count-gt63
returns-then-count-gt63 c =
    scaled_none c.args.sign c.args.m c.args.at c.if-m-eq0.false c.requires.few c.requires.low _ c.sign_bit-bit.ensures c.if-high-le-SMALL.true c.if-count-gt63.true

pub overflow_cast-result : goal.overflow_cast-result
overflow_cast-result c =
    let k = small c.args.sign c.args.m c.args.at c.if-m-eq0.false c.requires.few c.requires.low _ _ (omega (arith, c.if-high-le-SMALL.true)) c.nearest.ensures in
    record { fits = lt_of_le_of_lt k (lit< tt) }

pub overflow_add-result : goal.overflow_add-result
overflow_add-result c =
    let k = small c.args.sign c.args.m c.args.at c.if-m-eq0.false c.requires.few c.requires.low _ _ (omega (arith, c.if-high-le-SMALL.true)) c.nearest.ensures in
    let b = sign_small c.args.sign _ c.sign_bit-bit.ensures in
    record { fits = omega (arith, k, b) }

pub returns-then-high-le-SMALL : goal.returns-then-high-le-SMALL
returns-then-high-le-SMALL c =
    scaled_low c.args.sign c.args.m c.args.at c.if-m-eq0.false c.requires.few c.requires.low _ _ c.sign_bit-bit.ensures c.if-high-le-SMALL.true c.nearest.ensures

pub returns-then-word : goal.returns-then-word
returns-then-word c =
    scaled_high c.args.sign c.args.m c.args.at c.if-m-eq0.false c.requires.few c.requires.low _ _ c.sign_bit-bit.ensures c.if-high-le-SMALL.false c.nearest-2.ensures c.if-word.true

pub returns : goal.returns
returns c =
    scaled_inf c.args.sign c.args.m c.args.at c.if-m-eq0.false c.requires.few c.requires.low _ _ c.sign_bit-bit.ensures c.if-high-le-SMALL.false c.nearest-2.ensures c.if-word.false
