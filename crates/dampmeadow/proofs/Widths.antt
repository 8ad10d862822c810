-- The kernels of doubles go by the numbers and the rules of 32 bits: each can be refused with the same numbers, in the same order, whatever the
-- two gates are. Assumes nothing.
use Prim.Native.Nat.{ℕ}
use mathlib.Core.Path.{◌≡◌, refl}
use mathlib.Core.Bool.{cond}
use mathlib.Core.List.{List, [], ◌∷◌, map}
use Rattle.format.specs.First.{Refusal}
use Rattle.guard.specs.declared.gate.Gate.{Gate}
use Rattle.guard.specs.Operations as single
use Rattle.guard.specs.Refusals as single_rules
use Rattle.double.specs.Operations as double
use Rattle.double.specs.Refusals as double_rules

pub same_numbers : (double.op_trunc ≡ single.op_trunc) × (double.op_fract ≡ single.op_fract) × (double.op_sqrt ≡ single.op_sqrt) × (double.op_inv ≡ single.op_inv)
same_numbers = (refl, refl, refl, refl)

-- the numbers of the rules that an operation is under, in their order
abbrev pub numbers_for : ℕ → List Refusal → List ℕ
numbers_for op [] = []
numbers_for op (r ∷ rs) = cond (r.by op) (r.number ∷ numbers_for op rs) (numbers_for op rs)

abbrev pub operations : List ℕ
operations = double.op_trunc ∷ double.op_fract ∷ double.op_sqrt ∷ double.op_inv ∷ []

pub same_rules : (g : ℕ) (h : Gate) → map (λ (op : ℕ). numbers_for op (double_rules.refusals g)) operations ≡ map (λ (op : ℕ). numbers_for op (single_rules.refusals h)) operations
same_rules g h = refl

pub rules_are : (g : ℕ) → map (λ (op : ℕ). numbers_for op (double_rules.refusals g)) operations
    ≡ (1 ∷ 4 ∷ []) ∷ (1 ∷ 4 ∷ []) ∷ (1 ∷ 9 ∷ 3 ∷ 4 ∷ []) ∷ (1 ∷ 2 ∷ 9 ∷ 4 ∷ []) ∷ []
rules_are g = refl
