-- IEEE 754's comparison is this test of the word, and the first part of it decides whether the second is looked at. Assumes nothing.
use Rattle.std.proofs.Common.{◌≡◌, leb, sym, ◌∙◌, rules}
use Rattle.format.specs.Fields.{inf_word}
use Rattle.format.proofs.AtLeastZero.{at_least_zero_is}
use Rattle.format.proofs.Number.is_at_least_zero.Goals as goal

pub returns-then-le : goal.returns-then-le
returns-then-le g c =
    let num = g.met.Self.Number in
    let value = g.Self.Word.Word.value in
    let f = g.Self.Number.format in
    let w = g.Self.Number.word c.args.self in
    let test : c.le.result ≡ leb (value c.to_bits.result) (value c.to_bits-2.result) = search rules in
    let passed : c.le.result ≡ leb w (inf_word f) = test ∙ rw (c.to_bits.ensures.word, c.to_bits-2.ensures.word, c.INFINITY.ensures, num.infinity_law) in
    c.if-le.true ∙ sym (at_least_zero_is f w c.to_bits.ensures.fits ∙ rw (sym passed ∙ c.if-le.true))

pub returns-else-le : goal.returns-else-le
returns-else-le g c =
    let law = g.met.Self.Word.Word in
    let num = g.met.Self.Number in
    let value = g.Self.Word.Word.value in
    let f = g.Self.Number.format in
    let w = g.Self.Number.word c.args.self in
    let test : c.le.result ≡ leb (value c.to_bits.result) (value c.to_bits-2.result) = search rules in
    let failed : c.le.result ≡ leb w (inf_word f) = test ∙ rw (c.to_bits.ensures.word, c.to_bits-2.ensures.word, c.INFINITY.ensures, num.infinity_law) in
    rw (c.eq.ensures, law.equal_law c.to_bits-else-le.result c.SIGN_MASK.result, c.to_bits-else-le.ensures.word, c.SIGN_MASK.ensures, num.sign_mask_law) (sym (at_least_zero_is f w c.to_bits.ensures.fits ∙ rw (sym failed ∙ c.if-le.false)))
