-- Lists whose places all hold what the single call answers are filled. Assumes nothing.
use Prim.Native.Nat.{ℕ, suc, ◌+◌, ◌<◌}
use native.Mathlib.Nat.{suc_inj}
use native.Mathlib.Omega.{arith}
use mathlib.Core.Path.{◌≡◌, refl, sym, ap, subst, ◌∙◌}
use mathlib.Core.List.{List, [], ◌∷◌}
use mathlib.Core.Bool.{Bool, true, false}
use borrow.Author.Tests.{eqb-true, eqb-false}
use lib.Dec.{eqb}
use lib.ListN.{length, get_or}
use Rattle.strip.specs.Strip.{zipped, word_at, refusal_at, Fills, Agree}
use Rattle.strip.specs.Lists.{Kept}
use Rattle.strip.specs.declared.lists.Lists.{Lists}

zipped_is : (f : ℕ → ℕ → ℕ) (xs ys zs : List ℕ) → length ys ≡ length xs → length zs ≡ length xs
    → ((i : ℕ) → i < length xs → get_or zs i 0 ≡ f (get_or xs i 0) (get_or ys i 0)) → zs ≡ zipped f xs ys
zipped_is f [] ys [] d e h = refl
zipped_is f [] ys (z ∷ zs) d e h = absurd (let b : ⊥ = omega (arith, e) in b)
zipped_is f (x ∷ xs) [] zs d e h = absurd (let b : ⊥ = omega (arith, d) in b)
zipped_is f (x ∷ xs) (y ∷ ys) [] d e h = absurd (let b : ⊥ = omega (arith, e) in b)
zipped_is f (x ∷ xs) (y ∷ ys) (z ∷ zs) d e h =
    let p : z ≡ f x y = h 0 (omega arith) in
    rw (p, zipped_is f xs ys zs (suc_inj d) (suc_inj e) (λ i k. h (suc i) (omega (arith, k))))

-- the four of one value agree
pub agree : (s : Lists) → Agree s.first.now s.second.now s.answers.now s.refusals.now
agree s = record { seconds = s.seconds; words = s.words; numbers = s.numbers }

-- a place that holds the word and the refusal of the single call
abbrev pub Placed : ℕ → List ℕ → List ℕ → List ℕ → List ℕ → ℕ → Type 0
Placed op first second answers refusals i =
    (get_or answers i 0 ≡ word_at op (get_or first i 0) (get_or second i 0)) × (get_or refusals i 0 ≡ refusal_at op (get_or first i 0) (get_or second i 0))

-- of lists as they were lent and as they are given back
pub fills_of : (op : ℕ) (was is : Lists) → Kept was is → ((i : ℕ) → i < length was.first.now → Placed op was.first.now was.second.now is.answers.now is.refusals.now i)
    → Fills op was.first.now was.second.now is.answers.now is.refusals.now
fills_of op was is k h =
    let e = ap (λ r. length r.now) k.0 in
    record { words = zipped_is (word_at op) _ _ _ was.seconds (is.words ∙ e) (λ i k. (h i k).0); numbers = zipped_is (refusal_at op) _ _ _ was.seconds (is.numbers ∙ e) (λ i k. (h i k).1) }

-- what holds below j and at j holds below the next
pub to_next : (P : ℕ → Type 0) (j : ℕ) → ((i : ℕ) → i < j → P i) → P j → (i : ℕ) → i < j + 1 → P i
to_next P j h p i k = go (eqb i j) refl
  where
    go : (t : Bool) → eqb i j ≡ t → P i
    go true e = subst P (sym (eqb-true i j e)) p
    go false e = h i (let d = eqb-false i j e in omega (arith, k, d))
