-- The magnitude that is left, from what is held, ends where the whole ends, and what is counted with what is left to form is what the
-- whole forms. The measure is that magnitude.
use Rattle.std.proofs.Common.{◌≡◌, ℕ, ◌+◌, ◌^◌, ◌<◌, ◌≤◌, length}
use Rattle.float.specs.Powi.{Work, ended, works, from, work_of}
use Rattle.float.proofs.powi.raised.Given as goal

-- the magnitude m from s, whose products are all those of the magnitude w from t, but for the p that were formed already
pub record Left (m : ℕ) (s : Work) (p w : ℕ) (t : Work) : Type 0 where
  pub fits : m < 2 ^ 32
  pub end : ended s (works 32 m s) ≡ ended t (works 32 w t)
  pub count : p + length (works 32 m s) ≡ length (works 32 w t)
  pub most : length (works 32 w t) ≤ 63

abbrev pub invariant-loop-m : goal.invariant-loop-m
invariant-loop-m l = Left l.m (work_of l.held) l.held.products l.magnitude (from l.base)

abbrev pub decreases-loop-m : goal.decreases-loop-m
decreases-loop-m l = l.m
