-- The mask leaves the exponent field.
use Rattle.std.proofs.Common.{rules}
use lib.Ieee.{binary32}
use Rattle.format.proofs.Masks.{only_field}
use Rattle.float.specs.Ln.{logarithm}
use Rattle.float.proofs.ln.logarithm.Goals as goal

pub returns : goal.returns
unfolding logarithm
returns c = search (rules, only_field binary32 c.args.x.0)
