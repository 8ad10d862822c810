-- The quotient is the definition's, whatever the words.
use Rattle.std.proofs.Common.{◌≡◌}
use lib.Ieee.{binary32, of_bits}
use Rattle.float.specs.Atan2.{ratio}
use Rattle.strip.proofs.Sized.{read_two, known_number}
use Rattle.strip.proofs.Quadrants.{read_ratio, ratio_fits, answered}
use Rattle.strip.proofs.angle.of_any.Goals as goal

pub ratio-quotient-requires : goal.ratio-quotient-requires
ratio-quotient-requires c = let n = read_two c.args.y c.args.x in (cc n.0, cc n.1)

pub turned-requires : goal.turned-requires
turned-requires c =
    let q : c.ratio-quotient.result ≡ ratio (of_bits binary32 c.args.y) (of_bits binary32 c.args.x) = cc (read_ratio c.args.y c.args.x) in
    cc (known_number _ (ratio_fits _ _ q))

pub returns : goal.returns
returns c =
    let q : c.ratio-quotient.result ≡ ratio (of_bits binary32 c.args.y) (of_bits binary32 c.args.x) = cc (read_ratio c.args.y c.args.x) in
    cc (answered _ _ q)
