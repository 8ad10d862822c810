-- The masks leave one operand's magnitude and the other's sign. Assumes nothing.
use Rattle.format.specs.Fields.{negative, magnitude}
use Rattle.format.proofs.Fields.{magnitude_lt}
use Rattle.format.proofs.Masks.{only_sign, join_sign}
use Rattle.format.proofs.Sign.{copysign_is}
use Rattle.format.proofs.Number.copysign.Goals as goal

pub returns-clause-steps : goal.returns-clause-steps
returns-clause-steps g c =
    let law = g.met.Self.Word.Word in
    let num = g.met.Self.Number in
    let f = g.Self.Number.format in
    let w = g.Self.Number.word c.args.self in
    let y = g.Self.Number.word c.args.sign in
    rw (c.from_bits.ensures, law.bitor_law _ _ _ c.bitor.ensures, c.to_bits.ensures.word, c.without_sign.ensures, law.bitand_law _ _ _ c.bitand.ensures, c.to_bits-2.ensures.word, c.SIGN_MASK.ensures, num.sign_mask_law, only_sign f y c.to_bits-2.ensures.fits)
    (join_sign f (negative f y) (magnitude f w) (magnitude_lt f w))

pub returns-clause-ieee : goal.returns-clause-ieee
returns-clause-ieee g c =
    let f = g.Self.Number.format in
    let w = g.Self.Number.word c.args.self in
    let y = g.Self.Number.word c.args.sign in
    rw (returns-clause-steps g c) (copysign_is f w y)
