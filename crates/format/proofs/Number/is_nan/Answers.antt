-- Past the sign, a NaN's word is above the infinity's. Assumes nothing.
use Rattle.std.proofs.Common.{◌≡◌, ltb, sym, ◌∙◌, rules}
use lib.Ieee.Bits.{nan_bits_above}
use Rattle.format.proofs.Number.is_nan.Goals as goal

pub returns : goal.returns
returns g c =
    let law = g.met.Self.Word.Word in
    let num = g.met.Self.Number in
    let value = g.Self.Word.Word.value in
    let above : c.gt.result ≡ ltb (value c.EXPONENT_MASK.result) (value c.to_bits.result) = search rules in
    above ∙ rw (c.to_bits.ensures.word, c.without_sign.ensures, c.EXPONENT_MASK.ensures, num.exponent_mask_law) (sym (nan_bits_above g.Self.Number.format (g.Self.Number.word c.args.self)))
