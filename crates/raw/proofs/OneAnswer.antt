-- Any two answers that a statement of this crate allows coincide: an entry for every public function. Assumes nothing.
use native.Mathlib.Omega.{arith}
use Prim.Native.Nat.{ℕ}
use mathlib.Core.Path.{◌≡◌, refl, sym, ap, ◌∙◌}
use mathlib.Core.List.{List, [], ◌∷◌}
use lib.ListN.{get_or}
use Rattle.std.specs.Prelude.{Result, Ok, Err}
use contract.Lifetimes.{Lfts}
use Rattle.refusals.specs.declared.Refusal.{Refusal}
use Rattle.format.proofs.Pinned.{OneAnswer, pinned}
use Rattle.raw.specs.declared.kernel.Kernel.{Kernel}
use Rattle.raw.specs.declared.kernel.Kernel.TheVariants.{Trunc, Fract, Floor, Ceil, Round, Abs, Copysign, Signum, Sqrt, Invsqrt, Inv, Recip, Exp, Ln, Powi, Powf, Atan, Atan2, Cos, Sin, Hypot, Asin, Acos, Tan, RemEuclid, DivEuclid}
use Rattle.raw.specs.Raw.{operands_of, kernel_of}
use Rattle.raw.specs.Numbers.{number_of, Named}
use Rattle.raw.proofs.operands.Reads as operands_reads
use Rattle.raw.proofs.answer.Reads as answer_reads
use Rattle.raw.proofs.kernel.KernelTryFromU32.try_from.Reads as kernel_try_from_reads
use Rattle.raw.proofs.kernel.Kernel.operands.Reads as kernel_operands_reads
use Rattle.raw.proofs.kernel.Kernel.answer.Reads as kernel_answer_reads

pub operands : (κs : Lfts 0) → OneAnswer (operands_reads.Post κs) (λ r x. r)
operands κs = pinned _ (λ a r x p. p)

pub answer : (κs : Lfts 0) → OneAnswer (answer_reads.Post κs) (λ r x. r)
answer κs = pinned _ (λ a r x p. p)

-- ---- a number's kernel

-- in the order of their numbers
abbrev by_name : List Kernel
by_name =
    Trunc ∷ Trunc ∷ Fract ∷ Floor ∷ Ceil ∷ Round ∷ Abs ∷ Copysign ∷ Signum ∷ Sqrt ∷ Invsqrt ∷ Inv ∷ Recip ∷ Exp ∷ Ln ∷ Powi ∷ Powf ∷ Atan ∷ Atan2 ∷ Cos ∷ Sin
    ∷ Hypot ∷ Asin ∷ Acos ∷ Tan ∷ RemEuclid ∷ DivEuclid ∷ []

-- a kernel is that of its number, which is listed
record Found (k : Kernel) : Type 0 where
  pub back : get_or by_name (number_of k) Trunc ≡ k
  pub some : operands_of (kernel_of (number_of k)) ≡ 0 → ⊥

found : (k : Kernel) → Found k
found Trunc = record { back = refl; some = λ e. omega (arith, e) }
found Fract = record { back = refl; some = λ e. omega (arith, e) }
found Floor = record { back = refl; some = λ e. omega (arith, e) }
found Ceil = record { back = refl; some = λ e. omega (arith, e) }
found Round = record { back = refl; some = λ e. omega (arith, e) }
found Abs = record { back = refl; some = λ e. omega (arith, e) }
found Copysign = record { back = refl; some = λ e. omega (arith, e) }
found Signum = record { back = refl; some = λ e. omega (arith, e) }
found Sqrt = record { back = refl; some = λ e. omega (arith, e) }
found Invsqrt = record { back = refl; some = λ e. omega (arith, e) }
found Inv = record { back = refl; some = λ e. omega (arith, e) }
found Recip = record { back = refl; some = λ e. omega (arith, e) }
found Exp = record { back = refl; some = λ e. omega (arith, e) }
found Ln = record { back = refl; some = λ e. omega (arith, e) }
found Powi = record { back = refl; some = λ e. omega (arith, e) }
found Powf = record { back = refl; some = λ e. omega (arith, e) }
found Atan = record { back = refl; some = λ e. omega (arith, e) }
found Atan2 = record { back = refl; some = λ e. omega (arith, e) }
found Cos = record { back = refl; some = λ e. omega (arith, e) }
found Sin = record { back = refl; some = λ e. omega (arith, e) }
found Hypot = record { back = refl; some = λ e. omega (arith, e) }
found Asin = record { back = refl; some = λ e. omega (arith, e) }
found Acos = record { back = refl; some = λ e. omega (arith, e) }
found Tan = record { back = refl; some = λ e. omega (arith, e) }
found RemEuclid = record { back = refl; some = λ e. omega (arith, e) }
found DivEuclid = record { back = refl; some = λ e. omega (arith, e) }

one_kernel : (n : ℕ) (r s : Result Kernel Refusal) → Named n r → Named n s → r ≡ s
one_kernel n (Ok k) (Ok l) p q = ap Ok (sym (found k).back ∙ ap (λ m. get_or by_name m Trunc) (p ∙ sym q) ∙ (found l).back)
one_kernel n (Ok k) (Err e) p q = absurd ((found k).some (ap (λ m. operands_of (kernel_of m)) p ∙ q.1))
one_kernel n (Err e) (Ok l) p q = absurd ((found l).some (ap (λ m. operands_of (kernel_of m)) q ∙ p.1))
one_kernel n (Err e) (Err f) p q = ap Err (p.0 ∙ sym q.0)

pub kernel_try_from : (κs : Lfts 0) → OneAnswer (kernel_try_from_reads.Post κs) (λ r x. r)
kernel_try_from κs = λ a r s x y p q. one_kernel a.0 r s p q

-- ---- a kernel

pub kernel_operands : (κs : Lfts 0) → OneAnswer (kernel_operands_reads.Post κs) (λ r x. r)
kernel_operands κs = pinned _ (λ a r x p. p)

pub kernel_answer : (κs : Lfts 0) → OneAnswer (kernel_answer_reads.Post κs) (λ r x. r.0)
kernel_answer κs = pinned _ (λ a r x p. p)
