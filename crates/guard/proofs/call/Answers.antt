-- `guard::call` meets its contract: each arm is the operation of that number. Assumes nothing.
use Rattle.std.proofs.Common.{ℕ, ◌≡◌, ◌∙◌, refl, ap, subst, of_z, to_z}
use Rattle.std.specs.Int.{w32}
use mir.Facts.{to_z-of_z, of_z-to_z}
use Rattle.raw.proofs.Numbers.{unlisted}
use Rattle.refusals.specs.declared.Refusal.TheVariants.{NoSuchOperation}
use Rattle.guard.specs.Gates.{judged}
use Rattle.guard.specs.Refusals.{refusal_behind}
use Rattle.guard.specs.Operations.{op_powi}
use Rattle.guard.specs.Guarded.{Guards}
use Rattle.guard.proofs.Gives.{refused}
use Rattle.guard.proofs.call.Goals as goal

pub returns-in-1 : goal.returns-in-1
unfolding refusal_behind judged
returns-in-1 c = rw c.in-1.is c.trunc.ensures.gate

pub returns-in-2 : goal.returns-in-2
unfolding refusal_behind judged
returns-in-2 c = rw c.in-2.is c.fract.ensures.gate

pub returns-in-3 : goal.returns-in-3
unfolding refusal_behind judged
returns-in-3 c = rw c.in-3.is c.floor.ensures.gate

pub returns-in-4 : goal.returns-in-4
unfolding refusal_behind judged
returns-in-4 c = rw c.in-4.is c.ceil.ensures.gate

pub returns-in-5 : goal.returns-in-5
unfolding refusal_behind judged
returns-in-5 c = rw c.in-5.is c.round.ensures.gate

pub returns-in-6 : goal.returns-in-6
unfolding refusal_behind judged
returns-in-6 c = rw c.in-6.is c.abs.ensures

pub returns-in-8 : goal.returns-in-8
unfolding refusal_behind judged
returns-in-8 c = rw c.in-8.is c.signum.ensures

pub returns-in-9 : goal.returns-in-9
unfolding refusal_behind judged
returns-in-9 c = rw c.in-9.is c.sqrt.ensures.gate

pub returns-in-10 : goal.returns-in-10
unfolding refusal_behind judged
returns-in-10 c = rw c.in-10.is c.invsqrt.ensures.gate

pub returns-in-11 : goal.returns-in-11
unfolding refusal_behind judged
returns-in-11 c = rw c.in-11.is c.inv.ensures.gate

pub returns-in-12 : goal.returns-in-12
unfolding refusal_behind judged
returns-in-12 c = rw c.in-12.is c.recip.ensures

pub returns-in-13 : goal.returns-in-13
unfolding refusal_behind judged
returns-in-13 c = rw c.in-13.is c.exp.ensures

pub returns-in-14 : goal.returns-in-14
unfolding refusal_behind judged
returns-in-14 c = rw c.in-14.is c.ln.ensures

-- the power through the integer and back
pub returns-in-15 : goal.returns-in-15
returns-in-15 c =
    let back : to_z w32 (of_z w32 c.i32_of_bits.result) ≡ to_z w32 c.args.b = to_z-of_z {w = w32} (record { sfits = c.i32_of_bits.type_inv }) ∙ c.i32_of_bits.ensures in
    rw c.in-15.is (subst (λ (n : ℕ). Guards op_powi c.args.a n c.powi.result) (ap (of_z w32) back ∙ of_z-to_z c.ranges.b) c.powi.ensures)

pub returns-in-17 : goal.returns-in-17
unfolding refusal_behind judged
returns-in-17 c = rw c.in-17.is c.atan.ensures

pub returns-in-19 : goal.returns-in-19
unfolding refusal_behind judged
returns-in-19 c = rw c.in-19.is c.cos.ensures

pub returns-in-20 : goal.returns-in-20
unfolding refusal_behind judged
returns-in-20 c = rw c.in-20.is c.sin.ensures

pub returns-in-22 : goal.returns-in-22
unfolding refusal_behind judged
returns-in-22 c = rw c.in-22.is c.asin.ensures

pub returns-in-23 : goal.returns-in-23
unfolding refusal_behind judged
returns-in-23 c = rw c.in-23.is c.acos.ensures

pub returns-in-24 : goal.returns-in-24
unfolding refusal_behind judged
returns-in-24 c = rw c.in-24.is c.tan.ensures

pub returns-in_default : goal.returns-in_default
returns-in_default c = rw (unlisted c.args.op c.in_default.in_default-own.rest) (refused 6 _ NoSuchOperation refl)
