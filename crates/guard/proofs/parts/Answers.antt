-- `guard::parts` meets its contract. Assumes nothing.
use Rattle.std.proofs.Common.{rules, sym, Ok}
use Rattle.guard.specs.Operations.{op_trunc}
use Rattle.guard.proofs.Guards.{own_gate}
use Rattle.guard.proofs.Both.{Both, both_answered}
use Rattle.guard.proofs.parts.Goals as goal

met : (c : goal.After-value-2) → Both c.args.operand.0 (Ok (record { whole = c.value.result; rest = c.value-2.result; products = 0 }))
met c =
    let none = sym (own_gate op_trunc c.args.operand.0 0 _ _ c.in_ok-first.ensures c.of.ensures) in
    rw (c.value.ensures, c.value-2.ensures) (both_answered _ (search rules) none _ _ (search rules) (search rules) c.trunc.ensures.steps c.fract.ensures.steps)

pub returns-clause-gate : goal.returns-clause-gate
returns-clause-gate c = (met c).0

pub returns-clause-whole : goal.returns-clause-whole
returns-clause-whole c = (met c).1.0

pub returns-clause-rest : goal.returns-clause-rest
returns-clause-rest c = (met c).1.1
