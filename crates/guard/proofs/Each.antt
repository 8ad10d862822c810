-- What holds of each kernel of the list, with its number, holds of every operation. Assumes nothing.
use Prim.Native.Nat.{ℕ, zero, suc, ◌+◌}
use native.Mathlib.Nat.{zero-add, add-zero, add-suc, suc-add}
use mathlib.Core.Path.{sym, subst, ◌∙◌}
use mathlib.Core.List.{List, [], ◌∷◌}
use lib.ListN.{get_or}
use Rattle.raw.specs.Raw.{Kernel, none, kernels, kernel_of}

module _ (P : ℕ → Kernel → Type 0) where
  infixr 5 ◌⨟◌
  pub data Each : ℕ → List Kernel → Type 0 where
    done : {op : ℕ} → Each op []
    ◌⨟◌ : {op : ℕ} {k : Kernel} {ks : List Kernel} → P op k → Each (suc op) ks → Each op (k ∷ ks)

  module _ (past : (op : ℕ) → P op none) where
    at : (op : ℕ) (ks : List Kernel) (i : ℕ) → Each op ks → P (op + i) (get_or ks i none)
    at op [] i done = past (op + i)
    at op (k ∷ ks) zero (x ⨟ xs) = subst (λ (n : ℕ). P n k) (sym (add-zero op)) x
    at op (k ∷ ks) (suc i) (x ⨟ xs) = subst (λ (n : ℕ). P n (get_or ks i none)) (suc-add op i ∙ sym (add-suc op i)) (at (suc op) ks i xs)

    pub of_each : Each 0 kernels → (op : ℕ) → P op (kernel_of op)
    of_each e op = subst (λ (n : ℕ). P n (kernel_of op)) (zero-add op) (at 0 kernels op e)
