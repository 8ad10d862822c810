-- Each step is its callee's.
use Rattle.std.proofs.Common.{ℕ, ap, ◌∙◌}
use lib.Ieee.{binary32}
use Rattle.soft.specs.Words.{add_word, mul_word}
use Rattle.soft.proofs.Steps.{cos_steps}
use Rattle.soft.proofs.cos.cos.Goals as goal

pub returns : goal.returns
returns c =
    let r = cos_steps c.args.w c.mul-turns.result c.add-2.result c.add.result c.sub-part.result c.without_sign-distance.result.0 c.without_sign-height.result.0 c.mul-curve.result c.mul-mended.result
    c.ranges.w.fits
    c.mul-turns.ensures.word
    (c.add-2.ensures.word ∙ ap (add_word binary32 0x3e80_0000) c.floor-whole.ensures)
    c.add.ensures.word
    c.sub-part.ensures.word
    c.without_sign-distance.ensures
    (c.mul-curve.ensures.word ∙ ap (mul_word binary32 c.sub-part.result) (c.mul.ensures.word ∙ ap (mul_word binary32 0x4180_0000) c.sub.ensures.word))
    c.without_sign-height.ensures
    (c.mul-mended.ensures.word ∙ ap (λ (z : ℕ). mul_word binary32 z c.sub-2.result) c.mul-2.ensures.word ∙ ap (mul_word binary32 (mul_word binary32 0x3e66_6666 c.mul-curve.result)) c.sub-2.ensures.word) in
    record { steps = c.add-3.ensures.word ∙ r.0; same = c.add-3.ensures.word ∙ r.1 }
