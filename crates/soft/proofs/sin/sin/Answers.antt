-- Each step is its callee's.
use Rattle.soft.proofs.Steps.{sin_steps}
use Rattle.soft.proofs.sin.sin.Goals as goal

pub returns : goal.returns
returns c =
    let r = sin_steps c.args.w c.sub.result c.cos.result c.ranges.w.fits c.sub.ensures.word c.cos.ensures.steps in
    record { steps = r.0; same = r.1 }
