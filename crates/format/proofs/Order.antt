-- Orders and differences of whole numbers that the bounds need: which of two is less, two laws on products, a difference times a number, and a
-- subtraction that need not wrap. Assumes nothing.
use Prim.Native.Nat.{ℕ, ◌+◌, ◌-◌, ◌*◌, ◌%◌, ◌≤◌, ◌<◌}
use native.Mathlib.Nat.{le_of_lt, le_dest, add-sub_assoc, add-mod_left, mod-eq_of_lt, mul_comm, mul-sub}
use native.Mathlib.Omega.{arith}
use mathlib.Core.Path.{◌≡◌, refl, sym, ap, ◌∙◌}
use mathlib.Core.Logic.{◌⊎◌, inl, inr}
use mathlib.Core.Bool.{Bool, true, false, not}
use borrow.Author.Tests.{leb-true, leb-false, lt-ltb, le-ltb}
use lib.Dec.{leb, ltb}
use Rattle.std.specs.Prelude.{Option, Some}
use Rattle.std.proofs.Common.{Ordering, rules}
use Rattle.std.specs.Ordering.{nat_cmp, partial_lt}

pub either : (a b : ℕ) → (a ≤ b) ⊎ (b < a)
either a b = by_test (leb a b) refl
  where
    by_test : (s : Bool) → leb a b ≡ s → (a ≤ b) ⊎ (b < a)
    by_test true e = inl (leb-true a b e)
    by_test false e = inr (leb-false a b e)

-- one test by the other
pub leb_is : (a b : ℕ) → leb a b ≡ not (ltb b a)
leb_is a b = go (leb a b) refl
  where
    go : (t : Bool) → leb a b ≡ t → t ≡ not (ltb b a)
    go true e = sym (ap not (le-ltb b a (leb-true a b e)))
    go false e = sym (ap not (lt-ltb b a (leb-false a b e)))

pub rearranged : {a b c d : ℕ} → a ≤ b → c ≤ d → a * d + b * c ≤ a * c + b * d
rearranged h k = rw (sym (le_dest h).1, sym (le_dest k).1) (omega arith)

pub squares : (a b : ℕ) → 2 * (a * b) ≤ a * a + b * b
squares a b = ordered (either a b)
  where
    ordered : (a ≤ b) ⊎ (b < a) → 2 * (a * b) ≤ a * a + b * b
    ordered (inl h) = omega (arith, rearranged h h)
    ordered (inr h) = omega (arith, rearranged (le_of_lt h) (le_of_lt h))

pub sub_mul : (a b k : ℕ) → (a - b) * k ≡ a * k - b * k
sub_mul a b k = mul_comm (a - b) k ∙ mul-sub k a b ∙ rw (mul_comm k a, mul_comm k b)

pub no_wrap : (n m w : ℕ) → w ≤ m → m < n → (n + m - w) % n ≡ m - w
no_wrap n m w h l = rw (add-sub_assoc h n, add-mod_left) (mod-eq_of_lt (omega arith))

-- what `<` answers of words that are ordered as their numbers are
pub lt_by_value : {A : Type 0} (cmp : A → A → Option Ordering) (value : A → ℕ) (a b : A) → cmp a b ≡ Some (nat_cmp (value a) (value b))
    → partial_lt cmp a b ≡ ltb (value a) (value b)
lt_by_value cmp value a b e = search rules
