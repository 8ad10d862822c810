-- The refusals of abs, sqrt, invsqrt, inv, atan, atan2, cos, sin and hypot by the sizes of their words: what the tests of a place come to. Assumes nothing.
use Prim.Native.Nat.{ℕ, ◌+◌, ◌/◌, ◌^◌, ◌≤◌, ◌<◌, zero-le}
use native.Mathlib.Nat.{le_trans, le_of_lt}
use native.Mathlib.Omega.{arith}
use mathlib.Core.Path.{◌≡◌, refl, sym, ap, ◌∙◌}
use mathlib.Core.Bool.{Bool, true, false, cond, not, ◌&&◌, ◌||◌, false≢true, and_comm, or_comm, and-true}
use borrow.Author.Tests.{lt-ltb, le-leb, lt-leb, eq-eqb, ne_eqb, ltb-true, ltb-false, leb-true, leb-false, eqb-true}
use lib.Dec.{leb, ltb, eqb, lit<}
use lib.Ieee.{binary32}
use Rattle.format.specs.Fields.{magnitude}
use Rattle.format.specs.Classes.{is_endless, is_zero, is_small, is_below_zero}
use Rattle.format.proofs.Classes.{zero_not_endless}
use Rattle.format.proofs.Exact.{unlike_false}
use Rattle.format.proofs.Fields.{magnitude_lt}
use Rattle.guard.specs.Operations.{op_abs, op_sqrt, op_invsqrt, op_inv, op_atan, op_atan2, op_cos, op_sin, op_hypot}
use Rattle.guard.specs.Gates.{between, unbounded, passes, larger, judged}
use Rattle.guard.specs.Refusals.{refusal_behind, refusal_of}
use Rattle.strip.specs.Reach.{angle_reach, size_number}

-- ---- tests that come to the same

-- the exponent field of an infinity or a NaN, and of a zero or a small number
endless : (m : ℕ) → m < 2 ^ 31 → eqb (m / 2 ^ 23) 255 ≡ leb 0x7f80_0000 m
endless m h = go (leb 0x7f80_0000 m) refl
  where
    go : (t : Bool) → leb 0x7f80_0000 m ≡ t → eqb (m / 2 ^ 23) 255 ≡ t
    go true e = let l = leb-true 0x7f80_0000 m e in eq-eqb (m / 2 ^ 23) 255 (omega (arith, l, h))
    go false e = let l = leb-false 0x7f80_0000 m e in ne_eqb (m / 2 ^ 23) 255 (λ (d : m / 2 ^ 23 ≡ 255). let z : ⊥ = omega (arith, l, d) in z)

fieldless : (m : ℕ) → eqb (m / 2 ^ 23) 0 ≡ ltb m 0x0080_0000
fieldless m = go (ltb m 0x0080_0000) refl
  where
    go : (t : Bool) → ltb m 0x0080_0000 ≡ t → eqb (m / 2 ^ 23) 0 ≡ t
    go true e = let l = ltb-true m 0x0080_0000 e in eq-eqb (m / 2 ^ 23) 0 (omega (arith, l))
    go false e = let l = ltb-false m 0x0080_0000 e in ne_eqb (m / 2 ^ 23) 0 (λ (d : m / 2 ^ 23 ≡ 0). let z : ⊥ = omega (arith, l, d) in z)

-- a magnitude passes a gate without another word where it lies between its ends
shifted : (a b : ℕ) → leb (2 ^ 31 + a) (2 ^ 31 + b) ≡ leb a b
shifted a b = go (leb a b) refl
  where
    go : (t : Bool) → leb a b ≡ t → leb (2 ^ 31 + a) (2 ^ 31 + b) ≡ t
    go true e = let l = leb-true a b e in le-leb (2 ^ 31 + a) (2 ^ 31 + b) (omega (arith, l))
    go false e = let l = leb-false a b e in lt-leb (2 ^ 31 + a) (2 ^ 31 + b) (omega (arith, l))

gated : (l h m : ℕ) → l < 2 ^ 31 → h < 2 ^ 31 → m < 2 ^ 31 → passes (between l h) m ≡ (leb l m && leb m h)
gated l h m p q r =
    rw (lt-leb (2 ^ 31) l p, lt-leb (2 ^ 31) h q, lt-leb (2 ^ 31) m r, shifted l m, shifted m h, ne_eqb m 0xffff_ffff (λ (e : m ≡ 0xffff_ffff). let z : ⊥ = omega (arith, e, r) in z)) (unlike_false (leb l m && leb m h))

past : (m h : ℕ) → not (leb m h) ≡ ltb h m
past m h = go (ltb h m) refl
  where
    go : (t : Bool) → ltb h m ≡ t → not (leb m h) ≡ t
    go true e = ap not (lt-leb m h (ltb-true h m e))
    go false e = ap not (le-leb m h (ltb-false h m e))

-- ---- the refusals

-- of four tests the second, for a zero, comes in the definition with the third and the fourth
zero_first : (e z s n : Bool) → ◌≡◌ {A = ℕ} (cond e 1 (cond z 0 (cond s 9 (cond n 3 0)))) (cond e 1 (cond (s && not z) 9 (cond (n && not z) 3 0)))
zero_first true z s n = refl
zero_first false true true true = refl
zero_first false true true false = refl
zero_first false true false true = refl
zero_first false true false false = refl
zero_first false false true n = refl
zero_first false false false true = refl
zero_first false false false false = refl

module _ (w : ℕ) where
  abbrev m : ℕ
  m = magnitude binary32 w

  lt : m < 2 ^ 31
  lt = magnitude_lt binary32 w

  -- behind a gate from 0 up to a limit
  sized : (limit : ℕ) → limit < 2 ^ 31 → ◌≡◌ {A = ℕ} (cond (eqb (m / 2 ^ 23) 255) 1 (cond (not (passes (between 0 limit) m)) 4 0)) (size_number limit w)
  sized limit h = rw (endless m lt, gated 0 limit m (lit< tt) h lt, le-leb 0 m zero-le, past m limit)

  pub atan_number_is : refusal_of op_atan w 0 ≡ size_number 0x5f7f_ffff w
  unfolding refusal_behind judged
  atan_number_is = sized 0x5f7f_ffff (lit< tt)

  pub cos_number_is : refusal_of op_cos w 0 ≡ size_number 0x4380_0000 w
  unfolding refusal_behind judged
  cos_number_is = sized 0x4380_0000 (lit< tt)

  pub sin_number_is : refusal_of op_sin w 0 ≡ size_number 0x4380_0000 w
  unfolding refusal_behind judged
  sin_number_is = sized 0x4380_0000 (lit< tt)

  pub abs_number_is : refusal_of op_abs w 0 ≡ size_number 0x7fff_ffff w
  unfolding refusal_behind judged
  abs_number_is = sized 0x7fff_ffff (lit< tt)

  pub root_number_is : ◌≡◌ {A = ℕ} (cond (leb 0x7f80_0000 m) 1 (cond (eqb m 0) 0 (cond (ltb m 0x0080_0000) 9 (cond (leb 0x8000_0000 w) 3 0)))) (refusal_of op_sqrt w 0)
  unfolding refusal_behind judged
  root_number_is =
      zero_first (leb 0x7f80_0000 m) (eqb m 0) (ltb m 0x0080_0000) (leb 0x8000_0000 w)
      ∙ sym (rw (endless m lt, fieldless m, gated 0 0x7fff_ffff m (lit< tt) (lit< tt) lt, le-leb 0 m zero-le, le-leb m 0x7fff_ffff (omega (arith, lt))))

module _ (w : ℕ) where
  -- of a zero, which is neither endless nor small, invsqrt has a refusal of its own
  pub invsqrt_number_is : cond (is_zero binary32 w) 2 (refusal_of op_sqrt w 0) ≡ refusal_of op_invsqrt w 0
  unfolding refusal_behind judged
  invsqrt_number_is = go (is_zero binary32 w) refl
    where
      go : (z : Bool) → is_zero binary32 w ≡ z
          → cond z 2 (refusal_of op_sqrt w 0) ≡ cond (is_endless binary32 w) 1 (cond z 2 (cond (is_small binary32 w) 9 (cond (is_below_zero binary32 w) 3 (cond (not (passes unbounded (magnitude binary32 w))) 4 0))))
      go true e = rw (zero_not_endless binary32 w e)
      go false e = refl

  -- a small number is not endless, so it does not matter which is asked for first
  pub inv_number_is : cond (eqb (m w) 0) 2 (cond (ltb (m w) 0x0080_0000) 9 (size_number 0x7e80_0000 w)) ≡ refusal_of op_inv w 0
  unfolding refusal_behind judged
  inv_number_is =
      apart (leb 0x7f80_0000 (m w)) (eqb (m w) 0) (ltb (m w) 0x0080_0000) (ltb 0x7e80_0000 (m w))
      (λ h. let l = ltb-true (m w) 0x0080_0000 h in lt-leb 0x7f80_0000 (m w) (omega (arith, l)))
      (λ h. lt-ltb (m w) 0x0080_0000 (let e = eqb-true (m w) 0 h in omega (arith, e)))
      ∙ sym (rw (endless (m w) (lt w), fieldless (m w), gated 0 0x7e80_0000 (m w) (lit< tt) (lit< tt) (lt w), le-leb 0 (m w) zero-le, past (m w) 0x7e80_0000))
    where
      apart : (e z s p : Bool) → (s ≡ true → e ≡ false) → (z ≡ true → s ≡ true) → ◌≡◌ {A = ℕ} (cond z 2 (cond s 9 (cond e 1 (cond p 4 0)))) (cond e 1 (cond z 2 (cond (s && not z) 9 (cond p 4 0))))
      apart true true s p f g = absurd (false≢true (sym (f (g refl))))
      apart true false true p f g = absurd (false≢true (sym (f refl)))
      apart true false false p f g = refl
      apart false true s p f g = refl
      apart false false true p f g = refl
      apart false false false p f g = refl

-- the larger of two lies between two ends where neither is above the high one and one of them is not below the low one; by the tests that the
-- smaller and the larger are no higher, and that they are no lower
joined : (a b c d : Bool) → (b ≡ true → a ≡ true) → (c ≡ true → d ≡ true) → ((a && b) && (c || d)) ≡ (d && b)
joined true true true true h k = refl
joined true true true false h k = absurd (false≢true (k refl))
joined true true false d h k = sym (and-true d)
joined false true c d h k = absurd (false≢true (h refl))
joined true false c true h k = refl
joined true false c false h k = refl
joined false false c true h k = refl
joined false false c false h k = refl

below_larger : (l h m n : ℕ) → m ≤ n → ((leb m h && leb n h) && (leb l m || leb l n)) ≡ (leb l n && leb n h)
below_larger l h m n k = joined (leb m h) (leb n h) (leb l m) (leb l n) (λ e. le-leb m h (le_trans k (leb-true n h e))) (λ e. le-leb l n (le_trans (leb-true l m e) k))

either_between : (l h m n : ℕ) → ((leb m h && leb n h) && (leb l m || leb l n)) ≡ (leb l (cond (leb m n) n m) && leb (cond (leb m n) n m) h)
either_between l h m n = go (leb m n) refl
  where
    go : (t : Bool) → leb m n ≡ t → ((leb m h && leb n h) && (leb l m || leb l n)) ≡ (leb l (cond t n m) && leb (cond t n m) h)
    go true e = below_larger l h m n (leb-true m n e)
    go false e = rw (and_comm (leb m h) (leb n h), or_comm (leb l m) (leb l n)) (below_larger l h n m (le_of_lt (leb-false m n e)))

larger_lt : (m n : ℕ) → m < 2 ^ 31 → n < 2 ^ 31 → cond (leb m n) n m < 2 ^ 31
larger_lt m n h k = go (leb m n)
  where
    go : (t : Bool) → cond t n m < 2 ^ 31
    go true = k
    go false = h

turned : (t : Bool) → ◌≡◌ {A = ℕ} (cond t 0 4) (cond (not t) 4 0)
turned true = refl
turned false = refl

either_endless : (p q : Bool) (x : ℕ) → cond (p || q) 1 x ≡ cond p 1 (cond q 1 x)
either_endless true q x = refl
either_endless false q x = refl

module _ (y x : ℕ) where
  abbrev k : ℕ
  k = magnitude binary32 y

  abbrev n : ℕ
  n = magnitude binary32 x

  pub angle_number_is : ◌≡◌ {A = ℕ} (cond (leb 0x7f80_0000 k || leb 0x7f80_0000 n) 1 (cond (angle_reach y x) 0 4)) (refusal_of op_atan2 y x)
  unfolding refusal_behind judged
  angle_number_is =
      either_endless (leb 0x7f80_0000 k) (leb 0x7f80_0000 n) (cond (angle_reach y x) 0 4)
      ∙ ap (λ (m : ℕ). cond (leb 0x7f80_0000 k) 1 (cond (leb 0x7f80_0000 n) 1 m)) (turned (angle_reach y x))
      ∙ sym (rw (endless k (lt y), endless n (lt x), gated 0x2180_0000 0x5e80_0000 (larger y x) (lit< tt) (lit< tt) (larger_lt k n (lt y) (lt x)), sym (either_between 0x2180_0000 0x5e80_0000 k n)))

  -- hypot has atan2's gate
  pub hypot_number_is : refusal_of op_hypot y x ≡ refusal_of op_atan2 y x
  unfolding refusal_behind judged
  hypot_number_is = refl
