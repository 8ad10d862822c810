-- Of any word but a NaN the quotient is the definition's.
use Rattle.std.proofs.Common.{◌≡◌, cond}
use lib.Ieee.{binary32, nan_bits, of_bits}
use Rattle.float.specs.Engine.{ieee}
use Rattle.float.specs.Atan.{first_quadrant}
use Rattle.strip.proofs.Sized.{known_number, read_one}
use Rattle.strip.proofs.Slopes.{slope_fits, answered}
use Rattle.strip.proofs.atan.of_any.Goals as goal

pub slope-quotient-requires : goal.slope-quotient-requires
slope-quotient-requires c = cc (read_one c.args.w)

pub signed-requires : goal.signed-requires
signed-requires c =
    let q : c.slope-quotient.result ≡ first_quadrant ieee (of_bits binary32 (cond (nan_bits binary32 c.args.w) 0 c.args.w)) = cc in
    cc (known_number _ (slope_fits _ q))

pub returns : goal.returns
returns c =
    let q : c.slope-quotient.result ≡ first_quadrant ieee (of_bits binary32 (cond (nan_bits binary32 c.args.w) 0 c.args.w)) = cc in
    cc (answered _ q)
