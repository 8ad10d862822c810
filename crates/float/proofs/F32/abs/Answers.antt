-- To clear the sign bit is IEEE 754's abs. Assumes nothing.
use Rattle.std.proofs.Common.{rules}
use lib.Ieee.{binary32}
use Rattle.format.proofs.Sign.{abs_is}
use Rattle.float.proofs.F32.abs.Goals as goal

pub returns-clause-ieee : goal.returns-clause-ieee
returns-clause-ieee c = search (rules, abs_is binary32 c.args.self.0)
