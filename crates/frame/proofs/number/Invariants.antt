-- After some digits the number is what they write, and it has at most as many digits.
use Rattle.std.proofs.Common.{◌≡◌, ◌*◌, ◌^◌, ◌<◌, take}
use Rattle.frame.specs.Frame.{number_after}
use Rattle.frame.proofs.number.Given as goal

abbrev pub invariant-loop-b : goal.invariant-loop-b
invariant-loop-b l = (l.n ≡ number_after 0 (take l.b-index l.digits)) × (l.n < 2 ^ (4 * l.b-index))
