-- The meanings of trunc, fract, floor, ceil and round fix the answer: two words that have one of them are the same word. Assumes nothing.
use Prim.Native.Nat.{ℕ, suc, ◌+◌, ◌*◌, ◌/◌, ◌%◌, ◌^◌, ◌≤◌, ◌<◌}
use native.Mathlib.Nat.{add-zero, div-add-mod', le_antisymm, suc-mul, lt_of_mul-lt-mul_right}
use native.Mathlib.Omega.{arith}
use mathlib.Core.Path.{◌≡◌, refl, sym, ap, subst, ◌∙◌}
use mathlib.Core.Logic.{◌⊎◌, inl, inr}
use mathlib.Core.Bool.{Bool, true, false}
use lib.Ieee.{Format, low, top}
use Rattle.format.specs.Fields.{negative}
use Rattle.format.specs.Value.{units}
use Rattle.format.specs.Meaning.{IsTrunc, IsFract, NotAbove, IsFloor, IsCeil, IsRound}
use Rattle.format.proofs.Order.{either}
use Rattle.format.proofs.Same.{same_word}

-- neither is above the other: the same number, which is a zero where the signs differ
level : (s : Bool) (a : ℕ) (t : Bool) (b : ℕ) → NotAbove s a t b → NotAbove t b s a → (a ≡ b) × ((s ≡ t) ⊎ (a ≡ 0))
level false a false b h k = (le_antisymm h k, inl refl)
level false a true b h k = (omega arith, inr (omega arith))
level true a false b h k = (omega arith, inr (omega arith))
level true a true b h k = (le_antisymm k h, inl refl)

-- a whole number as so many times 1
whole_is : (n one : ℕ) → n % one ≡ 0 → n ≡ n / one * one
whole_is n one e = sym (sym (add-zero (n / one * one)) ∙ ap (λ (k : ℕ). n / one * one + k) (sym e) ∙ div-add-mod' n one)

module _ (f : Format) (w r s : ℕ) (r_word : r < 2 * top f) (s_word : s < 2 * top f) where
  abbrev one : ℕ
  one = 2 ^ low f

  pub one_trunc : IsTrunc f w r → IsTrunc f w s → r ≡ s
  one_trunc a b = same_word f r s r_word s_word a.finite b.finite (a.sign ∙ sym b.sign) (a.whole ∙ sym b.whole)

  pub one_fract : IsFract f w r → IsFract f w s → r ≡ s
  one_fract a b = same_word f r s r_word s_word a.finite b.finite (a.sign ∙ sym b.sign) (a.rest ∙ sym b.rest)

  -- two zeros of one sign, or two numbers
  settled : (z : Bool) → (units f r ≡ 0 → negative f r ≡ z) → (units f s ≡ 0 → negative f s ≡ z)
      → (units f r ≡ units f s) × ((negative f r ≡ negative f s) ⊎ (units f r ≡ 0)) → negative f r ≡ negative f s
  settled z p q (e, inl h) = h
  settled z p q (e, inr h) = p h ∙ sym (q (sym e ∙ h))

  pub one_floor : IsFloor f w r → IsFloor f w s → r ≡ s
  one_floor a b = same_word f r s r_word s_word a.finite b.finite (settled false a.zero b.zero both) both.0
    where
      below : (t : ℕ) → units f t % one ≡ 0 → NotAbove (negative f t) (units f t) (negative f w) (units f w) → NotAbove (negative f t) (units f t / one * one) (negative f w) (units f w)
      below t e h = subst (λ (n : ℕ). NotAbove (negative f t) n (negative f w) (units f w)) (whole_is (units f t) one e) h

      both : (units f r ≡ units f s) × ((negative f r ≡ negative f s) ⊎ (units f r ≡ 0))
      both =
          level (negative f r) (units f r) (negative f s) (units f s)
          (subst (λ (n : ℕ). NotAbove (negative f r) n (negative f s) (units f s)) (sym (whole_is (units f r) one a.whole)) (b.largest (negative f r) (units f r / one) (below r a.whole a.below)))
          (subst (λ (n : ℕ). NotAbove (negative f s) n (negative f r) (units f r)) (sym (whole_is (units f s) one b.whole)) (a.largest (negative f s) (units f s / one) (below s b.whole b.below)))

  pub one_ceil : IsCeil f w r → IsCeil f w s → r ≡ s
  one_ceil a b = same_word f r s r_word s_word a.finite b.finite (settled true a.zero b.zero both) both.0
    where
      above : (t : ℕ) → units f t % one ≡ 0 → NotAbove (negative f w) (units f w) (negative f t) (units f t) → NotAbove (negative f w) (units f w) (negative f t) (units f t / one * one)
      above t e h = subst (λ (n : ℕ). NotAbove (negative f w) (units f w) (negative f t) n) (whole_is (units f t) one e) h

      both : (units f r ≡ units f s) × ((negative f r ≡ negative f s) ⊎ (units f r ≡ 0))
      both =
          level (negative f r) (units f r) (negative f s) (units f s)
          (subst (λ (n : ℕ). NotAbove (negative f r) (units f r) (negative f s) n) (sym (whole_is (units f s) one b.whole)) (a.smallest (negative f s) (units f s / one) (above s b.whole b.above)))
          (subst (λ (n : ℕ). NotAbove (negative f s) (units f s) (negative f r) n) (sym (whole_is (units f r) one a.whole)) (b.smallest (negative f r) (units f r / one) (above r a.whole a.above)))

  pub one_round : IsRound f w r → IsRound f w s → r ≡ s
  one_round a b = same_word f r s r_word s_word a.finite b.finite sign size
    where
      fewer : (m n : ℕ) → m * one < n * one + one → m ≤ n
      fewer m n h = let l : m < suc n = lt_of_mul-lt-mul_right one (omega (arith, suc-mul n one)) in omega arith

      size : units f r ≡ units f s
      size =
          let p = whole_is (units f r) one a.whole in
          let q = whole_is (units f s) one b.whole in
          p ∙ ap (λ (n : ℕ). n * one) (le_antisymm
          (fewer (units f r / one) (units f s / one) (omega (arith, p, q, a.near_above, b.near_below)))
          (fewer (units f s / one) (units f r / one) (omega (arith, p, q, b.near_above, a.near_below)))) ∙ sym q

      sign : negative f r ≡ negative f s
      sign = go (either (units f r) 0)
        where
          go : (units f r ≤ 0) ⊎ (0 < units f r) → negative f r ≡ negative f s
          go (inl h) = a.zero (omega arith) ∙ sym (b.zero (omega (arith, size)))
          go (inr h) = a.sign (λ e. omega arith) ∙ sym (b.sign (λ e. omega (arith, size)))
