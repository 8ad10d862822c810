-- After i places the space is the first i digits and then what it was.
use Rattle.std.proofs.Common.{◌≡◌, ◌++◌, take, drop}
use Rattle.frame.specs.Frame.{hex_bytes}
use Rattle.frame.proofs.put.Given as goal

abbrev pub invariant-loop-i : goal.invariant-loop-i
invariant-loop-i l = l.space ≡ take l.i (hex_bytes 10 l.words) ++ drop l.i l.initial.space
