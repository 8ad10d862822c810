-- What a place of a strip holds, by its operation: of a guarded one its refusal and the zero word, or no refusal and its value; of a
-- raw one no refusal and the raw word. Neither 6 nor 7 stands at a place. Assumes nothing.
use Prim.Native.Nat.{ℕ, zero, suc, ◌-◌, ◌/◌, ◌%◌, ◌^◌, ◌≤◌, ◌<◌}
use native.Mathlib.Nat.{zero-add, div-eq_of_lt, mod-eq_of_lt}
use native.Mathlib.Omega.{arith}
use mathlib.Core.Path.{◌≡◌, refl, sym, ap, subst, ◌∙◌}
use mathlib.Core.Logic.{◌⊎◌, inl, inr, ⊎_elim}
use mathlib.Core.Bool.{Bool, true, false, cond, not, ◌||◌}
use borrow.Author.Tests.{le-leb, lt-leb, ne_eqb, leb-true, leb-false, ltb-true, ltb-false, eqb-true, eqb-false}
use lib.Dec.{T, leb, ltb, eqb}
use lib.ListN.{get_or-eq_default}
use Rattle.raw.specs.Raw.{Kernel, none, one, two, kernels, kernel_of, operands_of, raw_of}
use Rattle.guard.specs.Refusals.{refusal_of}
use Rattle.guard.specs.Guarded.{value_of}
use Rattle.guard.proofs.Numbers.{given_passes}
use Rattle.guard.proofs.Words.{raw_word, value_word}
use Rattle.guard.proofs.Laws.{one_word, second_word_is_ignored}
use Rattle.frame.specs.Words.{packed, answer_words, kernel_number, operation_words, shape_of, framed}
use Rattle.strip.specs.Strip.{operands_in, used, place_words, word_at, refusal_at}

-- ---- an operation, whatever stands in the place of a second word that it does not read

unread : (op a b : ℕ) → operands_in op ≡ 1 → operation_words op a 0 ≡ operation_words op a b
unread op a b e = go (leb 0x80 op) e
  where
    go : (t : Bool) → operands_of (kernel_of (cond t (op - 0x80) op)) ≡ 1
        → cond t (raw_of (kernel_of (op - 0x80)) a 0) (answer_words (refusal_of op a 0) (value_of op a 0)) ≡ cond t (raw_of (kernel_of (op - 0x80)) a b) (answer_words (refusal_of op a b) (value_of op a b))
    go true e = sym (one_word (kernel_of (op - 0x80)) a b e)
    go false e = let s = second_word_is_ignored op a b e in rw (s.0, s.1)

one_or_two : (k : Kernel) → (operands_of k ≡ 0 → ⊥) → (operands_of k ≡ 1) ⊎ (operands_of k ≡ 2)
one_or_two none h = absurd (h refl)
one_or_two (one f) h = inl refl
one_or_two (two f) h = inr refl

-- ---- the refusals of the list

-- which are of a number and of a frame
abbrev neither : ℕ → Bool
neither n = not (eqb n 6 || eqb n 7)

told : (n : ℕ) → T (neither n) → (n ≡ 6 → ⊥) × (n ≡ 7 → ⊥)
told n h = ((λ e. subst (λ (m : ℕ). T (neither m)) e h), (λ e. subst (λ (m : ℕ). T (neither m)) e h))

listed : (op a b : ℕ) → T (neither (refusal_of op a b))
listed op a b = given_passes neither tt op a b tt

-- ---- what stands at a place

module _ (op a b : ℕ) (known : operands_in op ≡ 0 → ⊥) where
  shaped : ℕ → ℕ
  shaped count = framed (shape_of count (used count b)) (operation_words op a (used count b))

  pub place_is_operation : place_words op a b ≡ operation_words op a b
  unfolding shaped
  place_is_operation = go (one_or_two (kernel_of (kernel_number op)) known)
    where
      go : (operands_in op ≡ 1) ⊎ (operands_in op ≡ 2) → place_words op a b ≡ operation_words op a b
      go (inl e) = ap shaped e ∙ unread op a b e
      go (inr e) = ap shaped e

  word_is : (x : ℕ) → operation_words op a b ≡ x → word_at op a b ≡ x % 2 ^ 32
  unfolding word_at
  word_is x e = ap (λ (y : ℕ). y % 2 ^ 32) (place_is_operation ∙ e)

  number_is : (x : ℕ) → operation_words op a b ≡ x → refusal_at op a b ≡ x / 2 ^ 32
  unfolding refusal_at
  number_is x e = ap (λ (y : ℕ). y / 2 ^ 32) (place_is_operation ∙ e)

  -- a guarded operation's refusal, with the zero word
  pub refused_place : op < 0x80 → (refusal_of op a b ≡ 0 → ⊥) → (refusal_at op a b ≡ refusal_of op a b) × (word_at op a b ≡ 0)
  refused_place h r =
      let e : operation_words op a b ≡ packed (refusal_of op a b) 0 = rw (lt-leb 0x80 op h, ne_eqb (refusal_of op a b) 0 r) in
      (number_is _ e ∙ above (refusal_of op a b), word_is _ e ∙ below (refusal_of op a b))
    where
      above : (n : ℕ) → packed n 0 / 2 ^ 32 ≡ n
      above n = omega arith

      below : (n : ℕ) → packed n 0 % 2 ^ 32 ≡ 0
      below n = omega arith

  module _ (a_lt : a < 2 ^ 32) (b_lt : b < 2 ^ 32) where
    -- no refusal, with a word
    alone : (w : ℕ) → w < 2 ^ 32 → operation_words op a b ≡ w → (refusal_at op a b ≡ 0) × (word_at op a b ≡ w)
    alone w h e = (number_is w e ∙ div-eq_of_lt h, word_is w e ∙ mod-eq_of_lt h)

    pub raw_place : 0x80 ≤ op → (refusal_at op a b ≡ 0) × (word_at op a b ≡ raw_of (kernel_of (op - 0x80)) a b)
    raw_place h = alone (raw_of (kernel_of (op - 0x80)) a b) (raw_word (op - 0x80) a b a_lt b_lt) (rw (le-leb 0x80 op h))

    pub answered_place : op < 0x80 → refusal_of op a b ≡ 0 → (refusal_at op a b ≡ 0) × (word_at op a b ≡ value_of op a b)
    answered_place h e = alone (value_of op a b) (value_word op a b a_lt b_lt) (rw (lt-leb 0x80 op h, e) (zero-add (value_of op a b)))

    -- a guarded operation's refusal, whatever it is
    pub guarded_number : op < 0x80 → refusal_at op a b ≡ refusal_of op a b
    guarded_number h = go (eqb (refusal_of op a b) 0) refl
      where
        go : (t : Bool) → eqb (refusal_of op a b) 0 ≡ t → refusal_at op a b ≡ refusal_of op a b
        go true e = let z = eqb-true (refusal_of op a b) 0 e in (answered_place h z).0 ∙ sym z
        go false e = (refused_place h (eqb-false (refusal_of op a b) 0 e)).0

    -- what a place shows, whatever the operation: no refusal, or one of the list with the zero word
    shown : (refusal_at op a b ≡ 0) ⊎ ((refusal_at op a b ≡ refusal_of op a b) × (word_at op a b ≡ 0))
    shown = go (leb 0x80 op) refl (eqb (refusal_of op a b) 0) refl
      where
        go : (t : Bool) → leb 0x80 op ≡ t → (z : Bool) → eqb (refusal_of op a b) 0 ≡ z → (refusal_at op a b ≡ 0) ⊎ ((refusal_at op a b ≡ refusal_of op a b) × (word_at op a b ≡ 0))
        go true e z d = inl (raw_place (leb-true 0x80 op e)).0
        go false e true d = inl (answered_place (leb-false 0x80 op e) (eqb-true _ 0 d)).0
        go false e false d = inr (refused_place (leb-false 0x80 op e) (eqb-false _ 0 d))

    -- with a refusal the word is 0
    pub refused_is_zero : (refusal_at op a b ≡ 0 → ⊥) → word_at op a b ≡ 0
    refused_is_zero h = ⊎_elim (λ e. absurd (h e)) (λ r. r.1) shown

    -- and it is neither 6 nor 7
    pub never_6_or_7 : (refusal_at op a b ≡ 6 → ⊥) × (refusal_at op a b ≡ 7 → ⊥)
    never_6_or_7 =
        told (refusal_at op a b)
        (⊎_elim (λ e. subst (λ (n : ℕ). T (neither n)) (sym e) tt) (λ r. subst (λ (n : ℕ). T (neither n)) (sym r.0) (listed op a b)) shown)

-- ---- which numbers are operations

-- no number past the list of kernels has one
past_the_list : (n : ℕ) → 27 ≤ n → operands_of (kernel_of n) ≡ 0
past_the_list n h = ap operands_of (get_or-eq_default kernels none h)

listed_number : (n : ℕ) → (operands_of (kernel_of n) ≡ 0 → ⊥) → (1 ≤ n) × (n ≤ 0x1a)
listed_number n h = (nonzero n h, go (ltb n 27) refl)
  where
    go : (t : Bool) → ltb n 27 ≡ t → n ≤ 0x1a
    go true e = omega (arith, ltb-true n 27 e)
    go false e = absurd (h (past_the_list n (ltb-false n 27 e)))

    nonzero : (n : ℕ) → (operands_of (kernel_of n) ≡ 0 → ⊥) → 1 ≤ n
    nonzero zero h = absurd (h refl)
    nonzero (suc n) h = omega arith

-- an operation is one of 01 to 1a or of 81 to 9a
pub no_other_operation : (op : ℕ) → (operands_in op ≡ 0 → ⊥) → ((1 ≤ op) × (op ≤ 0x1a)) ⊎ ((0x81 ≤ op) × (op ≤ 0x9a))
no_other_operation op h = go (leb 0x80 op) refl h
  where
    go : (t : Bool) → leb 0x80 op ≡ t → (operands_of (kernel_of (cond t (op - 0x80) op)) ≡ 0 → ⊥) → ((1 ≤ op) × (op ≤ 0x1a)) ⊎ ((0x81 ≤ op) × (op ≤ 0x9a))
    go true e k = let l = leb-true 0x80 op e in let r = listed_number (op - 0x80) k in inr (omega (arith, l, r.0), omega (arith, l, r.1))
    go false e k = inl (listed_number op k)
