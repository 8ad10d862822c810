-- A number that is none of the keys of a `match` before its last arm is not in the list of them; and a row of a table is the same whatever
-- stands for one past its end. Assumes nothing.
use Prim.Native.Nat.{ℕ, zero, suc, ◌<◌}
use native.Mathlib.Omega.{arith}
use native.Mathlib.Nat.{le_of_suc-le-suc}
use mathlib.Core.Path.{◌≡◌, refl}
use mathlib.Core.Logic.{inl, inr}
use mathlib.Core.Bool.{false}
use mathlib.Core.List.{List, [], ◌∷◌}
use borrow.Author.Tests.{ne_eqb}
use lib.ListN.{length, get_or}
use types.Run.{OneOf}
use Rattle.format.specs.First.{among}

-- what the last arm knows beside N: the number is none of the keys
abbrev NoneOf : Type 0 → List ℕ → ℕ → Type 0
NoneOf N [] x = N
NoneOf N (k ∷ ks) x = NoneOf (N × (x ≡ k → ⊥)) ks x

kept : (N : Type 0) (ks : List ℕ) (x : ℕ) → NoneOf N ks x → N
kept N [] x r = r
kept N (k ∷ ks) x r = (kept (N × (x ≡ k → ⊥)) ks x r).0

missing : (N : Type 0) (ks : List ℕ) (x : ℕ) → NoneOf N ks x → among ks x ≡ false
missing N [] x r = refl
missing N (k ∷ ks) x r = rw (ne_eqb x k (kept (N × (x ≡ k → ⊥)) ks x r).1) (missing (N × (x ≡ k → ⊥)) ks x r)

pub unlisted : (ks : List ℕ) (x : ℕ) → NoneOf (Unit {0}) ks x → among ks x ≡ false
unlisted = missing (Unit {0})

-- the same of one arm with all the keys
any_key : (k : ℕ) (ks : List ℕ) (x : ℕ) → (OneOf (k ∷ ks) x → ⊥) → among (k ∷ ks) x ≡ false
any_key k [] x n = rw (ne_eqb x k n)
any_key k (l ∷ ks) x n = rw (ne_eqb x k (λ e. n (inl e))) (any_key l ks x (λ h. n (inr h)))

pub none_listed : (ks : List ℕ) (x : ℕ) → (OneOf ks x → ⊥) → among ks x ≡ false
none_listed [] x n = refl
none_listed (k ∷ ks) x n = any_key k ks x n

-- a row of a table
pub same_row : {A : Type 0} (rows : List A) (d e : A) (n : ℕ) → n < length rows → get_or rows n d ≡ get_or rows n e
same_row [] d e n h = absurd (let z : ⊥ = omega arith in z)
same_row (r ∷ rows) d e zero h = refl
same_row (r ∷ rows) d e (suc n) h = same_row rows d e n (le_of_suc-le-suc h)
