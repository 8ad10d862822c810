-- `guard::sqrt` meets its contract: a zero is answered with itself, and what is no zero as by the other calls. Assumes nothing.
use Rattle.std.proofs.Common.{rules, ℕ, ◌^◌, ◌<◌, ◌≡◌, true, sym, ◌∙◌, Ok}
use Rattle.std.specs.Float.{binary32}
use Rattle.format.specs.Classes.{is_zero}
use Rattle.guard.specs.Operations.{op_sqrt}
use Rattle.guard.specs.Guarded.{value_after, Guards}
use Rattle.guard.proofs.Gives.{numbered}
use Rattle.guard.proofs.NoNan.{no_nan}
use Rattle.guard.proofs.Laws.{zero_passes}
use Rattle.guard.proofs.Meaning.{sqrt_bounded}
use Rattle.guard.proofs.sqrt.Goals as goal

of_zero : (a : ℕ) → a < 2 ^ 32 → is_zero binary32 a ≡ true → Guards op_sqrt a 0 (Ok (value_after 0 a))
of_zero a h z = let n = zero_passes a 0 z in rw z (numbered _ a h n (let k = no_nan op_sqrt a 0 h (search rules) n in rw z at k))

pub returns-then-is_zero-clause-gate : goal.returns-then-is_zero-clause-gate
returns-then-is_zero-clause-gate c = rw c.of.ensures (of_zero _ (search rules) (sym c.is_zero.ensures ∙ c.if-is_zero.true))

pub returns-then-is_zero-clause-bound : goal.returns-then-is_zero-clause-bound
returns-then-is_zero-clause-bound c = sqrt_bounded c.args.x.0 0 _ (returns-then-is_zero-clause-gate c)

pub returns-clause-bound : goal.returns-clause-bound
returns-clause-bound c = sqrt_bounded c.args.x.0 0 _ c.answered.ensures
