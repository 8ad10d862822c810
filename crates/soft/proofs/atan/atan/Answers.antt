-- Each step is its callee's.
use Rattle.soft.proofs.Steps.{radian_steps}
use Rattle.soft.proofs.atan.atan.Goals as goal

pub returns : goal.returns
returns c =
    let r = radian_steps c.args.w c.atan_norm.result c.mul.result c.ranges.w.fits c.atan_norm.ensures.steps c.mul.ensures.word in
    record { steps = r.0; same = r.1 }
