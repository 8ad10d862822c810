-- The words that are handed on are numbers.
use Rattle.std.proofs.Common.{le_trans, lit≤}
use Rattle.strip.proofs.InReach.{pair_reach, no_nan}
use Rattle.strip.proofs.quick.guarded_hypot.Goals as goal

pub of_numbers-requires : goal.of_numbers-requires
of_numbers-requires c =
    let r = pair_reach c.args.a c.args.b in
    rw (c.either.ensures, c.either-2.ensures, c.angle_inside-inside.ensures) (no_nan _ (le_trans r.height (lit≤ tt)), no_nan _ (le_trans r.across (lit≤ tt)))
