-- The refusals of a line, 13, 14 and 15, are none of a kernel's: each is answered just where it is told to be, and what is not of the
-- grammar is known by its number. Assumes nothing.
use Prim.Native.Nat.{ℕ, zero, suc, ◌≤◌, ◌<◌}
use native.Mathlib.Omega.{arith}
use mathlib.Core.Path.{◌≡◌, sym, ap, subst, ◌∙◌}
use mathlib.Core.Bool.{Bool, true, false, cond}
use mathlib.Core.List.{List}
use lib.Dec.{T, eqb, ltb, ltb→lt}
use lib.ListN.{length}
use lib.Ieee.{Float, binary32, to_bits}
use Rattle.raw.specs.Raw.{kernel_of, operands_of}
use Rattle.guard.specs.Refusals.{refusal_of}
use Rattle.refusals.specs.Given.{refusal_given}
use Rattle.refusals.proofs.Given.{number_given}
use Rattle.guard.specs.Guarded.{Answer}
use Rattle.guard.proofs.Numbers.{given_passes}
use Rattle.recipe.specs.Grammar.{Sum, one, plus, minus, Product, single, times, over, Factor, number, letter, group, operation, sooner_of, kernel_refusal, refusal_sum, refusal_product, refusal_factor, value_sum, Reading, depth_of}
use Rattle.recipe.specs.Answers.{Answers}
use Rattle.recipe.proofs.Answers.{Standing, long, deep, outside, read, standing}

-- ---- a tree's refusal is a kernel's

-- below the numbers of a line
abbrev own : ℕ → Bool
own n = ltb n 13

sooner_own : (a b : ℕ) → T (own a) → T (own b) → T (own (sooner_of a b))
sooner_own a b h k = go (eqb a 0)
  where
    go : (t : Bool) → T (own (cond t b a))
    go true = k
    go false = h

kernel_own : (op : ℕ) (v : Float) → T (own (kernel_refusal op v))
kernel_own zero v = tt
kernel_own (suc k) v = go (eqb (operands_of (kernel_of (suc k))) 0)
  where
    go : (t : Bool) → T (own (cond t 6 (refusal_of (suc k) (to_bits binary32 v) 0)))
    go true = tt
    go false = given_passes own tt (suc k) (to_bits binary32 v) 0 tt

mutual
  unfolding refusal_sum

  sum_own : (x : Float) (s : Sum) → T (own (refusal_sum x s))
  sum_own x (one p) = product_own x p
  sum_own x (plus s p) = sooner_own (refusal_sum x s) (refusal_product x p) (sum_own x s) (product_own x p)
  sum_own x (minus s p) = sooner_own (refusal_sum x s) (refusal_product x p) (sum_own x s) (product_own x p)

  product_own : (x : Float) (p : Product) → T (own (refusal_product x p))
  product_own x (single f) = factor_own x f
  product_own x (times p f) = sooner_own (refusal_product x p) (refusal_factor x f) (product_own x p) (factor_own x f)
  product_own x (over p f) = sooner_own (refusal_product x p) (refusal_factor x f) (product_own x p) (factor_own x f)

  factor_own : (x : Float) (f : Factor) → T (own (refusal_factor x f))
  factor_own x (number d) = tt
  factor_own x letter = tt
  factor_own x (group n s) = sooner_own (refusal_sum x s) (kernel_refusal (operation n) (value_sum x s)) (sum_own x s) (kernel_own (operation n) (value_sum x s))

pub kernels_below : (x : Float) (t : Sum) → refusal_sum x t < 13
kernels_below x t = ltb→lt (refusal_sum x t) 13 (sum_own x t)

-- ---- so a number from 13 on says why the line is refused

pub data Why (line : List ℕ) : ℕ → Type 0 where
  too_long : 240 < length line → Why line 13
  too_deep : length line ≤ 240 → 16 < depth_of line → Why line 14
  no_recipe : length line ≤ 240 → depth_of line ≤ 16 → ((t : Sum) → Reading line t → ⊥) → Why line 15

pub why : (line : List ℕ) (x : Float) (r : Answer) → Answers line x r → 13 ≤ refusal_given r → Why line (refusal_given r)
why line x r a n = go (standing line)
  where
    as_told : (m : ℕ) → refusal_given r ≡ m → Why line m → Why line (refusal_given r)
    as_told m e w = subst (λ (k : ℕ). Why line k) (sym e) w

    go : Standing line → Why line (refusal_given r)
    go (long h) = as_told 13 (ap refusal_given (a.long h)) (too_long h)
    go (deep h k) = as_told 14 (ap refusal_given (a.deep h k)) (too_deep h k)
    go (outside h k o) = as_told 15 (ap refusal_given (a.outside h k o)) (no_recipe h k o)
    go (read h k t o) =
        let l = kernels_below x t in
        let e = ap refusal_given (a.read h k t o) ∙ number_given (refusal_sum x t) _ (omega (arith, l)) in
        absurd (let z : ⊥ = omega arith in z)
