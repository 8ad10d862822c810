-- The mask leaves the magnitude. Assumes nothing.
use Rattle.format.proofs.Masks.{clear_sign}
use Rattle.format.proofs.Width.{but_sign}
use Rattle.format.proofs.Number.without_sign.Goals as goal

pub returns : goal.returns
returns g c =
    let law = g.met.Self.Word.Word in
    let num = g.met.Self.Number in
    let f = g.Self.Number.format in
    rw (c.from_bits.ensures, law.bitand_law _ _ _ c.bitand.ensures, law.not_law _ _ c.not.ensures, c.to_bits.ensures.word, c.SIGN_MASK.ensures, num.sign_mask_law, num.width_law, but_sign f)
    (clear_sign f (g.Self.Number.word c.args.self))
