-- Lists filled place by place from two others: how long they are, what stands at a place, and one place more. Assumes nothing.
use Prim.Native.Nat.{ℕ, zero, suc, ◌+◌, ◌≤◌, ◌<◌}
use native.Mathlib.Nat.{le_of_suc-le-suc, not-suc-le-zero, zero-add, le_of_eq, suc_inj}
use native.Mathlib.Numerals.{add-one}
use native.Mathlib.Omega.{arith}
use mathlib.Core.Path.{◌≡◌, refl, sym, ap, subst, ◌∙◌}
use mathlib.Core.List.{List, [], ◌∷◌, append-nil}
use lib.ListN.{length, take, drop, get_or, set, drop_of_length-le}
use lib.Seq.{take_all, paste, paste-suc, length-paste}
use Rattle.strip.specs.Strip.{zipped}

module _ (f : ℕ → ℕ → ℕ) where
  pub zipped_length : (xs ys : List ℕ) → length ys ≡ length xs → length (zipped f xs ys) ≡ length xs
  zipped_length [] ys e = refl
  zipped_length (x ∷ xs) [] e = e
  zipped_length (x ∷ xs) (y ∷ ys) e = ap suc (zipped_length xs ys (suc_inj e))

  pub zipped_at : (xs ys : List ℕ) (i : ℕ) → length ys ≡ length xs → i < length xs → get_or (zipped f xs ys) i 0 ≡ f (get_or xs i 0) (get_or ys i 0)
  zipped_at [] ys i e h = absurd (not-suc-le-zero h)
  zipped_at (x ∷ xs) [] i e h = absurd (let z : ⊥ = omega (arith, e) in z)
  zipped_at (x ∷ xs) (y ∷ ys) zero e h = refl
  zipped_at (x ∷ xs) (y ∷ ys) (suc i) e h = zipped_at xs ys i (suc_inj e) (le_of_suc-le-suc h)

  -- the second words do not matter where f does not read them
  pub zipped_alike : ((x y z : ℕ) → f x y ≡ f x z) → (xs ys zs : List ℕ) → length ys ≡ length zs → zipped f xs ys ≡ zipped f xs zs
  zipped_alike h [] ys zs e = refl
  zipped_alike h (x ∷ xs) [] [] e = refl
  zipped_alike h (x ∷ xs) [] (z ∷ zs) e = absurd (let b : ⊥ = omega (arith, e) in b)
  zipped_alike h (x ∷ xs) (y ∷ ys) [] e = absurd (let b : ⊥ = omega (arith, e) in b)
  zipped_alike h (x ∷ xs) (y ∷ ys) (z ∷ zs) e = rw (h x y z, zipped_alike h xs ys zs (suc_inj e))

  -- a list that was os has its first i places filled
  abbrev pub Filled : List ℕ → List ℕ → ℕ → List ℕ → List ℕ → Type 0
  Filled xs ys i os zs = zs ≡ paste os 0 (zipped f xs ys) i

  module _ (xs ys os zs : List ℕ) (i : ℕ) (e : length ys ≡ length xs) (o : length os ≡ length xs) (w : Filled xs ys i os zs) where
    pub filled_length : i ≤ length xs → length zs ≡ length xs
    filled_length h = ap length w ∙ length-paste os 0 (zipped f xs ys) i (rw (zero-add i, o) h) (rw (zipped_length xs ys e) h) ∙ o

    pub one_more : (b : ℕ) → i < length xs → b ≡ f (get_or xs i 0) (get_or ys i 0) → Filled xs ys (i + 1) os (set zs i b)
    one_more b h d =
        let l : i < length (zipped f xs ys) = rw (zipped_length xs ys e) h in
        let t = paste-suc os 0 (zipped f xs ys) i 0 (rw (zero-add i, o) h) l in
        rw (w, d ∙ sym (zipped_at xs ys i e h), add-one i) (subst (λ (m : ℕ). set (paste os 0 (zipped f xs ys) i) m (get_or (zipped f xs ys) i 0) ≡ paste os 0 (zipped f xs ys) (suc i)) (zero-add i) t)

    pub all_filled : i ≡ length xs → zs ≡ zipped f xs ys
    all_filled d =
        let t : take i (zipped f xs ys) ≡ zipped f xs ys = take_all i (zipped f xs ys) (le_of_eq (zipped_length xs ys e ∙ sym d)) in
        let n : drop (0 + i) os ≡ [] = drop_of_length-le os {i = 0 + i} (rw (o, zero-add i) (le_of_eq (sym d))) in
        w ∙ rw (t, n) (append-nil (zipped f xs ys))
