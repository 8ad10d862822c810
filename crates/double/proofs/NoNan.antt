-- No answered double is a NaN: what an operation that is not refused knows of its operand is what its kernel's law asks for. Assumes nothing.
use Prim.Native.Nat.{ℕ, ◌^◌, ◌≤◌, ◌<◌}
use native.Mathlib.Omega.{arith}
use mathlib.Core.Path.{◌≡◌, refl, sym, subst}
use mathlib.Core.Bool.{Bool, true, false, false≢true}
use borrow.Author.Tests.{leb-true, eqb-true}
use lib.Dec.{leb, eqb}
use lib.Ieee.{binary64, nan_bits}
use Rattle.format.specs.Fields.{magnitude}
use Rattle.format.specs.Classes.{is_zero}
use Rattle.format.specs.Meaning.{UnderWidth}
use Rattle.format.specs.Estimates.{Normal, Invertible}
use Rattle.format.proofs.Classes.{above_small, normal_of}
use Rattle.format.proofs.Nan.{finite_number}
use Rattle.format.proofs.PartsMeaning.{trunc_under, fract_under}
use Rattle.format.proofs.Sqrt.{root_bound}
use Rattle.format.proofs.Inv.{inv_bound_by_size}
use Rattle.double.specs.Operations.{op_trunc, op_fract, op_sqrt, op_inv, is_known, value_of}
use Rattle.double.specs.Refusals.{refusal_of}
use Rattle.double.proofs.Open.{opened}

-- ---- the operand that an open gate has let pass

under : (a g : ℕ) → leb (magnitude binary64 a) g ≡ true → g ≤ 0x43ef_ffff_ffff_ffff → UnderWidth binary64 a
under a g e h = omega (arith, leb-true (magnitude binary64 a) g e)

module _ (a : ℕ) where
  pub trunc_open : refusal_of op_trunc a ≡ 0 → UnderWidth binary64 a
  trunc_open e = under a _ (opened op_trunc a e).gate (omega arith)

  pub fract_open : refusal_of op_fract a ≡ 0 → UnderWidth binary64 a
  fract_open e = under a _ (opened op_fract a e).gate (omega arith)

  pub sqrt_open : refusal_of op_sqrt a ≡ 0 → is_zero binary64 a ≡ false → Normal binary64 a
  sqrt_open e z = let o = opened op_sqrt a e in normal_of binary64 a o.first z o.small o.sign

  pub inv_open : refusal_of op_inv a ≡ 0 → Invertible binary64 (magnitude binary64 a)
  inv_open e = let o = opened op_inv a e in record { above = above_small binary64 a o.zero o.small; below = leb-true _ _ o.gate }

-- ---- the words

abbrev IsNumber : ℕ → ℕ → Type 0
IsNumber op a = refusal_of op a ≡ 0 → nan_bits binary64 (value_of op a) ≡ false

-- an operation that doubles have
pub no_nan : (op a : ℕ) → a < 2 ^ 64 → is_known op ≡ true → IsNumber op a
no_nan op a k = go (eqb op op_trunc) (eqb op op_fract) (eqb op op_sqrt) (eqb op op_inv) refl refl refl refl
  where
    at : (n : ℕ) → eqb op n ≡ true → IsNumber n a → IsNumber op a
    at n q law = subst (λ (x : ℕ). IsNumber x a) (sym (eqb-true op n q)) law

    go : (b c d f : Bool) → eqb op op_trunc ≡ b → eqb op op_fract ≡ c → eqb op op_sqrt ≡ d → eqb op op_inv ≡ f → is_known op ≡ true → IsNumber op a
    go true c d f p q s t u = at op_trunc p (λ e. finite_number binary64 _ (trunc_under binary64 a k (trunc_open a e)).finite)
    go false true d f p q s t u = at op_fract q (λ e. finite_number binary64 _ (fract_under binary64 a (fract_open a e)).finite)
    go false false true f p q s t u = at op_sqrt s (λ e. finite_number binary64 _ (root_bound binary64 a (sqrt_open a e)).finite)
    go false false false true p q s t u = at op_inv t (λ e. finite_number binary64 _ (inv_bound_by_size binary64 a k (inv_open a e)).finite)
    go false false false false p q s t u = absurd (false≢true (rw (p, q, s, t) at u))
