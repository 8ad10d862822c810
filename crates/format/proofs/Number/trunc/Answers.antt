-- Up and down again by the exponent, the shifts leave the bits below the point. Assumes nothing.
use Rattle.std.proofs.Common.{◌≡◌, ◌<◌, ◌≤◌, ap, ◌∙◌, arith, rules}
use native.Mathlib.Nat.{zero-mod}
use lib.Ieee.{emax, top}
use Rattle.format.specs.Parts.{below_point, trunc_word}
use Rattle.format.proofs.Point.{lowered, trunc_below_one, trunc_from_one}
use Rattle.format.proofs.PartsMeaning.{trunc_under}
use Rattle.format.proofs.Number.trunc.Goals as goal

pub returns-then-lt-clause-ieee : goal.returns-then-lt-clause-ieee
returns-then-lt-clause-ieee g c =
    let num = g.met.Self.Number in
    let value = g.Self.Word.Word.value in
    let f = g.Self.Number.format in
    let w = g.Self.Number.word c.args.self in
    let less : value c.extract_exponent_bits.result < value c.EXPONENT_BIAS.result = search rules in
    let h : value c.extract_exponent_bits.result < emax f = omega (arith, less, ap value c.EXPONENT_BIAS.ensures, num.exponent_bias_law) in
    let e : g.Self.Number.word c.copysign.result ≡ trunc_word f w = c.copysign.ensures.steps ∙ rw (c.ZERO.ensures, num.zero_law, zero-mod (top f)) (trunc_below_one f w _ c.extract_exponent_bits.ensures h) in
    λ u. rw e (trunc_under f w c.to_bits-w.ensures.fits u)

pub returns-clause-steps : goal.returns-clause-steps
returns-clause-steps g c =
    let law = g.met.Self.Word.Word in
    let num = g.met.Self.Number in
    let value = g.Self.Word.Word.value in
    let f = g.Self.Number.format in
    let w = g.Self.Number.word c.args.self in
    let least : value c.EXPONENT_BIAS.result ≤ value c.extract_exponent_bits.result = search rules in
    let h : emax f ≤ value c.extract_exponent_bits.result = omega (arith, least, ap value c.EXPONENT_BIAS.ensures, num.exponent_bias_law) in
    let below : value c.moved_down.result ≡ below_point f w = c.moved_down.ensures
    ∙ rw (law.bitand_law _ _ _ c.bitand-below.ensures, c.MANTISSA_MASK.ensures, num.mantissa_mask_law, num.width_law)
    (lowered f w _ _ c.exponent_clamped-count.ensures (c.moved_up.ensures ∙ rw (c.to_bits-w.ensures.word, num.width_law))) in
    rw (c.from_bits.ensures, law.sub_law _ _ _ c.sub.ensures, c.to_bits-w.ensures.word) (trunc_from_one f w _ c.extract_exponent_bits.ensures h _ below)

pub returns-clause-ieee : goal.returns-clause-ieee
returns-clause-ieee g c =
    let f = g.Self.Number.format in
    let w = g.Self.Number.word c.args.self in
    λ u. rw (returns-clause-steps g c) (trunc_under f w c.to_bits-w.ensures.fits u)
