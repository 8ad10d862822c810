-- Each place holds what it is given.
use Rattle.std.proofs.Common.{rules}
use Rattle.strip.proofs.Filled.{fills_of}
use Rattle.strip.proofs.blocks.run.Goals as goal

pub returns-clause-filled : goal.returns-clause-filled
returns-clause-filled g c = let e = c.fill_by.ensures in fills_of _ c.args.s.now c.fill_by.new.self e.same (λ i h. let p = e.places i h in search rules)
