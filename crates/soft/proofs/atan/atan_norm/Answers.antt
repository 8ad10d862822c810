-- Each step is its callee's, and the sign is put on as in the first engine.
use Rattle.std.proofs.Common.{ap, sym, ◌∙◌}
use lib.Ieee.{binary32}
use Rattle.format.specs.Fields.{negative}
use Rattle.format.specs.Sign.{abs_word}
use Rattle.float.proofs.Signs.{nan_answered, or_answered}
use Rattle.soft.specs.Words.{div_word}
use Rattle.soft.proofs.Steps.{atan_steps, div_lt}
use Rattle.soft.proofs.atan.atan_norm.Goals as goal

pub returns-then-is_nan : goal.returns-then-is_nan
returns-then-is_nan c =
    let r = atan_steps c.args.w c.without_sign-bent.result.0 c.mul-2.result c.add-n.result c.add.result c.div-quotient.result _
    c.ranges.w.fits
    (c.without_sign-bent.ensures ∙ ap (abs_word binary32) c.mul.ensures.word)
    c.mul-2.ensures.word
    c.add-n.ensures.word
    c.add.ensures.word
    (c.div-quotient.ensures.word ∙ ap (div_word binary32 c.add-n.result) c.add-2.ensures.word)
    (nan_answered (negative binary32 c.args.w) c.div-quotient.result (sym c.if-is_nan.ensures)) in
    record { steps = r.0; same = r.1 }

pub returns-else-is_nan : goal.returns-else-is_nan
returns-else-is_nan c =
    let r = atan_steps c.args.w c.without_sign-bent.result.0 c.mul-2.result c.add-n.result c.add.result c.div-quotient.result _
    c.ranges.w.fits
    (c.without_sign-bent.ensures ∙ ap (abs_word binary32) c.mul.ensures.word)
    c.mul-2.ensures.word
    c.add-n.ensures.word
    c.add.ensures.word
    (c.div-quotient.ensures.word ∙ ap (div_word binary32 c.add-n.result) c.add-2.ensures.word)
    (or_answered c.args.w c.div-quotient.result c.ranges.w.fits (div_lt _ _ _ c.div-quotient.ensures.word) (sym c.if-is_nan.ensures)) in
    record { steps = r.0; same = r.1 }
