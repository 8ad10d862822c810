-- What is left so far is of the number moved up by as many places as were taken.
use Rattle.std.proofs.Common.{◌≡◌, ℕ, ◌*◌, ◌%◌, ◌^◌, ◌<◌}
use Rattle.float.proofs.remainder.moved_up.Given as goal

pub record Left (m n i left : ℕ) : Type 0 where
  pub less : left < n
  pub same : left ≡ m * 2 ^ i % n

abbrev pub invariant-loop-i : goal.invariant-loop-i
invariant-loop-i l = Left l.m l.n l.i l.left
