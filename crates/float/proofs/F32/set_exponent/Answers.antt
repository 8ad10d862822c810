-- The field that is moved up and or-ed in is the definition's.
use Rattle.std.proofs.Common.{◌+◌, ◌%◌, ◌^◌, w32, of_z, rules}
use lib.Ieee.{binary32}
use Rattle.format.proofs.Exponent.{set_field}
use Rattle.float.proofs.F32.set_exponent.Goals as goal

pub returns : goal.returns
returns c =
    let n = (of_z w32 c.args.exponent + 127) % 2 ^ 32 in
    search (rules, set_field binary32 c.args.self.0 n)
