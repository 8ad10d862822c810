-- The bits below the point, under a leading 1 that is taken off again, are the fraction. Assumes nothing.
use Rattle.std.proofs.Common.{◌≡◌, ◌<◌, ◌≤◌, ltb, ap, sym, subst, ◌∙◌, arith, rules}
use Rattle.format.proofs.Order.{lt_by_value}
use borrow.Author.Tests.{ltb-false}
use lib.Ieee.{emax}
use Rattle.format.specs.Meaning.{IsFract}
use Rattle.format.proofs.Point.{raised, fract_below_one, fract_from_one}
use Rattle.format.proofs.PartsMeaning.{fract_under}
use Rattle.format.proofs.Number.fract.Goals as goal

pub returns-then-lt-clause-ieee : goal.returns-then-lt-clause-ieee
returns-then-lt-clause-ieee g c =
    let num = g.met.Self.Number in
    let value = g.Self.Word.Word.value in
    let f = g.Self.Number.format in
    let w = g.Self.Number.word c.args.self in
    let less : value c.extract_exponent_bits.result < value c.EXPONENT_BIAS.result = search rules in
    let h : value c.extract_exponent_bits.result < emax f = omega (arith, less, ap value c.EXPONENT_BIAS.ensures, num.exponent_bias_law) in
    λ u. subst (IsFract f w) (sym (fract_below_one f w _ c.extract_exponent_bits.ensures h)) (fract_under f w u)

pub returns-clause-steps : goal.returns-clause-steps
returns-clause-steps g c =
    let law = g.met.Self.Word.Word in
    let num = g.met.Self.Number in
    let value = g.Self.Word.Word.value in
    let f = g.Self.Number.format in
    let w = g.Self.Number.word c.args.self in
    let test : c.lt.result ≡ ltb (value c.extract_exponent_bits.result) (value c.EXPONENT_BIAS.result) = rw c.lt.ensures (lt_by_value g.Self.Word.PartialOrd.partial_cmp value _ _ (law.order_law _ _)) in
    let least : value c.EXPONENT_BIAS.result ≤ value c.extract_exponent_bits.result = ltb-false _ _ (sym test ∙ c.if-lt.false) in
    let h : emax f ≤ value c.extract_exponent_bits.result = omega (arith, least, ap value c.EXPONENT_BIAS.ensures, num.exponent_bias_law) in
    c.copysign.ensures.steps
    ∙ fract_from_one f w _ c.extract_exponent_bits.ensures h _ _
    (raised f w _ _ c.exponent_clamped.ensures (c.moved_up.ensures ∙ rw (c.to_bits.ensures.word, num.width_law)))
    (c.less_one.ensures ∙ rw (c.from_bits.ensures, law.add_law _ _ _ c.add.ensures, c.to_bits-2.ensures.word, c.ONE.ensures, num.one_law, law.bitand_law _ _ _ c.bitand-below.ensures, c.MANTISSA_MASK.ensures, num.mantissa_mask_law))

pub returns-clause-ieee : goal.returns-clause-ieee
returns-clause-ieee g c =
    let f = g.Self.Number.format in
    let w = g.Self.Number.word c.args.self in
    λ u. rw (returns-clause-steps g c) (fract_under f w u)
