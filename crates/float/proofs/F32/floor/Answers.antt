-- The steps are found, and `format` proves what they mean.
use Rattle.std.proofs.Common.{subst, rules}
use lib.Ieee.{binary32}
use Rattle.format.specs.Meaning.{IsFloor}
use Rattle.format.proofs.FloorMeaning.{floor_is}
use Rattle.float.proofs.F32.floor.Goals as goal

pub returns-clause-ieee : goal.returns-clause-ieee
returns-clause-ieee c n = subst (IsFloor binary32 c.args.self.0) (search rules) (floor_is c.args.self.0 n)
