-- How many products powi forms: those in the list that its answer is the end of, each of them one product on from the one before. One at
-- least, but for an early answer, and at most twice the magnitude's bits less one; known counts. Assumes nothing.
use Rattle.std.proofs.Common.{◌≡◌, ℕ, zero, suc, ◌-◌, ◌*◌, ◌/◌, ◌%◌, ◌^◌, ◌<◌, ◌≤◌, Bool, true, false, cond, eqb, ltb, ◌⊎◌, List, [], ◌∷◌, ◌++◌, map, length, ℤ, pos, negsuc, nat_abs, refl, subst, inl, inr, arith, lit≤, length-append, ltb-false, ltb-true, eqb-true}
use mathlib.Core.Option.{Option, none, some, some-ne-none}
use borrow.Author.Tests.{eqb-false}
use Rattle.float.specs.Powi.{Work, multiplied, squared, ended, taken, works, start, powi_works, squaring_word, early, powi_word, formed, products_of}
use Rattle.float.proofs.Squaring.{half_lt}

one_at_most : (b : Bool) (s : Work) → length (cond b (multiplied s ∷ []) []) ≤ 1
one_at_most true s = omega arith
one_at_most false s = omega arith

one_more_at_most : (b : Bool) (h k : ℕ) (t : Work) (l : List Work) → eqb h 0 ≡ b → h < 2 ^ k → length l ≤ 2 * k - 1 → length (cond b [] (t ∷ l)) ≤ 2 * k
one_more_at_most true h k t l e p q = omega arith
one_more_at_most false h zero t l e p q = absurd (eqb-false h 0 e (omega arith))
one_more_at_most false h (suc k) t l e p q = omega arith

-- a magnitude of k bits, whatever the bits allowed for it
pub products_at_most : (k bits m : ℕ) (s : Work) → m < 2 ^ k → length (works bits m s) ≤ 2 * k - 1
unfolding works
products_at_most k zero m s p = omega arith
products_at_most zero (suc bits) zero s p = omega arith
products_at_most zero (suc bits) (suc m) s p = absurd (let z : ⊥ = omega arith in z)
products_at_most (suc k) (suc bits) m s p =
    let t = squared (ended s (taken m s)) in
    let l = works bits (m / 2) t in
    rw length-append
    (omega (
      arith,
      one_at_most (eqb (m % 2) 1) s,
      one_more_at_most (eqb (m / 2) 0) (m / 2) k t l refl (half_lt m k p) (products_at_most k bits (m / 2) t (half_lt m k p)),
    ))

first_product : (b d : Bool) (m : ℕ) (s t : Work) (l : List Work) → eqb (m % 2) 1 ≡ b → eqb (m / 2) 0 ≡ d → 1 ≤ m
    → 1 ≤ length (cond b (multiplied s ∷ []) [] ++ cond d [] (t ∷ l))
first_product true d m s t l e f h = omega arith
first_product false false m s t l e f h = omega arith
first_product false true m s t l e f h = absurd (eqb-false (m % 2) 1 e (omega (arith, eqb-true (m / 2) 0 f)))

pub one_product_at_least : (bits m : ℕ) (s : Work) → 1 ≤ m → 1 ≤ length (works (suc bits) m s)
unfolding works
one_product_at_least bits m s h =
    let t = squared (ended s (taken m s)) in
    first_product (eqb (m % 2) 1) (eqb (m / 2) 0) m s t (works bits (m / 2) t) refl refl h

-- ---- each is a product

-- each entry is one product on from the one before it, the first from s
abbrev pub Products : Work → List Work → Type 0
Products s [] = Unit {0}
Products s (t ∷ l) = ((t ≡ multiplied s) ⊎ (t ≡ squared s)) × Products t l

with_bit : (b : Bool) (s : Work) (l : List Work) → let f = cond b (multiplied s ∷ []) [] in Products (ended s f) l → Products s (f ++ l)
with_bit true s l p = (inl refl, p)
with_bit false s l p = p

with_square : (b : Bool) (s : Work) (l : List Work) → Products (squared s) l → Products s (cond b [] (squared s ∷ l))
with_square true s l p = tt
with_square false s l p = (inr refl, p)

pub each_is_a_product : (bits m : ℕ) (s : Work) → Products s (works bits m s)
unfolding works
each_is_a_product zero m s = tt
each_is_a_product (suc bits) m s =
    let t = ended s (taken m s) in
    with_bit (eqb (m % 2) 1) s _ (with_square (eqb (m / 2) 0) t _ (each_is_a_product bits (m / 2) (squared t)))

-- ---- of powi

pub one_at_least : (w : ℕ) (n : ℤ) → 1 ≤ nat_abs n → 1 ≤ length (powi_works w n)
one_at_least w n h = one_product_at_least 31 (nat_abs n) (start w n) h

-- up to 2 ^ 20, which has 21 bits and only the highest set
up_to : (b : Bool) (m : ℕ) (s : Work) → ltb m (2 ^ 20) ≡ b → m ≤ 2 ^ 20 → length (works 32 m s) ≤ 39
unfolding works
up_to true m s e h = products_at_most 20 32 m s (ltb-true m (2 ^ 20) e)
up_to false m s e h =
    let z : 2 ^ 20 ≡ m = omega (arith, ltb-false m (2 ^ 20) e) in
    subst (λ (a : ℕ). length (works 32 a s) ≤ 39) z (lit≤ tt)

pub at_most_39 : (w : ℕ) (n : ℤ) → nat_abs n ≤ 2 ^ 20 → length (powi_works w n) ≤ 39
at_most_39 w n h = up_to (ltb (nat_abs n) (2 ^ 20)) (nat_abs n) (start w n) refl h

-- those of some powers, whatever the base: the inverse that is taken first for a negative one is no product
pub counts : (w : ℕ) → map (λ (n : ℤ). length (powi_works w n))
    (pos 0 ∷ pos 1 ∷ negsuc 0 ∷ pos 2 ∷ pos 3 ∷ negsuc 2 ∷ pos 4 ∷ pos 7 ∷ pos 8 ∷ pos 10 ∷ pos 100 ∷ negsuc 126 ∷ pos 1000 ∷ pos 65535 ∷ pos 65536
    ∷ pos 1048574 ∷ pos 1048575 ∷ negsuc 1048574 ∷ pos 1048576 ∷ negsuc 1048575 ∷ pos 2147483647 ∷ [])
    ≡ 0 ∷ 1 ∷ 1 ∷ 2 ∷ 3 ∷ 3 ∷ 3 ∷ 5 ∷ 4 ∷ 5 ∷ 9 ∷ 13 ∷ 15 ∷ 31 ∷ 17
    ∷ 38 ∷ 39 ∷ 39 ∷ 21 ∷ 21 ∷ 61 ∷ []
unfolding works
counts w = refl

-- ---- those of its answer

module _ (w : ℕ) (n : ℤ) where
  -- an early answer takes none, and is what it is given as
  pub early_takes_none : (v : ℕ) → early w n ≡ some v → (products_of w n ≡ 0) × (powi_word w n ≡ v)
  unfolding products_of powi_word
  early_takes_none v e = (rw e, rw e)

  -- every other is the end of a list of products, and takes as many as there are in it
  pub squaring_takes_all : early w n ≡ none → (products_of w n ≡ length (powi_works w n)) × (powi_word w n ≡ squaring_word w n)
  unfolding products_of powi_word
  squaring_takes_all e = (rw e, rw e)

-- 39 at most up to 2 ^ 20
pub takes_at_most_39 : (w : ℕ) (n : ℤ) → nat_abs n ≤ 2 ^ 20 → products_of w n ≤ 39
unfolding products_of
takes_at_most_39 w n h = of_formed (early w n)
  where
    of_formed : (o : Option ℕ) → length (formed o (powi_works w n)) ≤ 39
    of_formed none = at_most_39 w n h
    of_formed (some v) = lit≤ tt

-- and one at least where there is no early answer
pub squaring_takes_one : (w : ℕ) (n : ℤ) → early w n ≡ none → 1 ≤ products_of w n
squaring_takes_one w n e = rw (squaring_takes_all w n e).0 (one_at_least w n (not_power_0 w n e))
  where
    not_power_0 : (w : ℕ) (n : ℤ) → early w n ≡ none → 1 ≤ nat_abs n
    not_power_0 w (pos zero) e = absurd (some-ne-none _ e)
    not_power_0 w (pos (suc n)) e = omega arith
    not_power_0 w (negsuc n) e = omega arith

-- the power 0 is answered early
pub power_0_takes_none : (w : ℕ) → products_of w (pos 0) ≡ 0
power_0_takes_none w = (early_takes_none w (pos 0) 0x3f80_0000 refl).0
