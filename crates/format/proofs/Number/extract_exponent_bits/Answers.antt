-- The mask leaves the field, and the shift takes its weight off. Assumes nothing.
use Rattle.format.proofs.Masks.{field_down}
use Rattle.format.proofs.Width.{field_places}
use Rattle.format.proofs.Number.extract_exponent_bits.Goals as goal

pub returns : goal.returns
returns g c =
    let law = g.met.Self.Word.Word in
    let num = g.met.Self.Number in
    let f = g.Self.Number.format in
    rw (c.moved_down.ensures, law.bitand_law _ _ _ c.bitand.ensures, c.to_bits.ensures.word, c.EXPONENT_MASK.ensures, num.exponent_mask_law, c.MANTISSA_BITS.ensures, num.mantissa_bits_law, num.width_law, field_places f)
    (field_down f (g.Self.Number.word c.args.self))
