-- The gate test as numbers: words stand in the order of the numbers that they are, but that -0 stands just below +0; so what passes a gate
-- is no number below its low end, and none above its high end, but for the one word that is judged the other way. Assumes nothing.
use Prim.Native.Nat.{ℕ, zero, suc, ◌+◌, ◌-◌, ◌*◌, ◌^◌, ◌≤◌, ◌<◌}
use native.Mathlib.Nat.{lt_irrefl, mul-le-mul_right}
use native.Mathlib.Omega.{arith}
use mathlib.Core.Path.{◌≡◌, refl, sym, ap, ◌∙◌}
use mathlib.Core.Logic.{inl, inr}
use mathlib.Core.Bool.{Bool, true, false, cond, not, ◌&&◌, ◌||◌}
use mathlib.Core.List.{List, [], ◌∷◌}
use borrow.Author.Tests.{leb-true, leb-false, ltb-true, ltb-false, lt-ltb, le-ltb, le-leb, eqb-true}
use lib.Dec.{leb, ltb, eqb, lit<}
use lib.ListN.{get_or}
use lib.Pow.{pow_pos}
use lib.Ieee.{binary32, ones, top, unlike, lt, below, of_bits}
use lib.Ieee as Ieee
use lib.Ieee.Bits.{to_bits-lt}
use lib.Ieee.Fits.{mul-fits}
use Rattle.format.specs.Fields.{negative, magnitude, exponent, sign_bit}
use Rattle.format.specs.Value.{units, Finite}
use Rattle.format.specs.Classes.{is_zero}
use Rattle.format.specs.First.{among}
use Rattle.format.proofs.Fields.{magnitude_lt, sign_and_magnitude}
use Rattle.format.proofs.Value.{word_value, lt_values}
use Rattle.format.proofs.Order.{either, leb_is}
use Rattle.format.proofs.Larger.{magnitude_mono, units_test}
use Rattle.float.specs.Engine.{ieee}
use Rattle.float.specs.Cos.{cos_word}
use Rattle.float.specs.Powf.{product_word}
use Rattle.float.specs.DivEuclid.{quotient_word}
use Rattle.guard.specs.declared.gate.Gate.{Gate}
use Rattle.guard.specs.Operations.{op_exp, op_powf, op_atan2, op_hypot, op_tan, op_rem_euclid, op_div_euclid}
use Rattle.guard.specs.Gates.{low, high, other, unbounded, gates, gate_of, place, passes, judged_size, judged}
use Rattle.guard.proofs.Open.{both}

-- ---- two tests that agree

pub same_test : (a b c d : ℕ) → (c < d → a < b) → (d ≤ c → b ≤ a) → ltb a b ≡ ltb c d
same_test a b c d h k = go (ltb c d) refl
  where
    go : (t : Bool) → ltb c d ≡ t → ltb a b ≡ t
    go true e = lt-ltb a b (h (ltb-true c d e))
    go false e = le-ltb a b (k (ltb-false c d e))

-- ---- the order of words

-- a word is its sign and its magnitude
signed : (w : ℕ) (s : Bool) → w < 2 ^ 32 → negative binary32 w ≡ s → sign_bit binary32 s + magnitude binary32 w ≡ w
signed w s h e = rw e at (sign_and_magnitude binary32 w h)

-- a word with no units is one of the two zeros
zero_word : (w : ℕ) (s : Bool) → w < 2 ^ 32 → negative binary32 w ≡ s → units binary32 w ≡ 0 → w ≡ sign_bit binary32 s
zero_word w s h e z =
    let m : magnitude binary32 w ≤ 0 = magnitude_mono binary32 w 0 (omega arith) in
    omega (arith, signed w s h e)

-- not -0 before +0: the one pair whose order as words is not their order as numbers
abbrev pub Apart : ℕ → ℕ → Type 0
Apart v w = v ≡ 0x8000_0000 → w ≡ 0x0000_0000 → ⊥

module _ (v w : ℕ) (v_word : v < 2 ^ 32) (w_word : w < 2 ^ 32) where
  -- a negative word and one that is not, which are not the two zeros
  some_units : negative binary32 v ≡ true → negative binary32 w ≡ false → Apart v w → (c : ℕ) → 0 < c → 0 < units binary32 v * c + units binary32 w * c
  some_units p q apart c h = elim (either 1 (units binary32 v + units binary32 w)) [
    | inl l ↦ omega (arith, mul-le-mul_right c l)
    | inr l ↦ absurd (apart (zero_word v true v_word p (omega arith)) (zero_word w false w_word q (omega arith)))
  ]

  by_signs : (s t : Bool) → negative binary32 v ≡ s → negative binary32 w ≡ t → Apart v w → (c : ℕ) → 0 < c
      → ltb (cond s (2 * top binary32 - 1 - v) (top binary32 + v)) (cond t (2 * top binary32 - 1 - w) (top binary32 + w)) ≡ below s (units binary32 v * c) t (units binary32 w * c)
  by_signs false false p q apart c h =
      let m = signed v false v_word p in
      let n = signed w false w_word q in
      same_test (top binary32 + v) (top binary32 + w) (magnitude binary32 v) (magnitude binary32 w) (λ l. omega arith) (λ l. omega arith) ∙ sym (units_test binary32 v w c h)
  by_signs false true p q apart c h = let n = leb-true (top binary32) w q in le-ltb (top binary32 + v) (2 * top binary32 - 1 - w) (omega arith)
  by_signs true false p q apart c h =
      let m = leb-true (top binary32) v p in
      lt-ltb (2 * top binary32 - 1 - v) (top binary32 + w) (omega arith) ∙ sym (lt-ltb 0 _ (some_units p q apart c h))
  by_signs true true p q apart c h =
      let m = signed v true v_word p in
      let n = signed w true w_word q in
      same_test (2 * top binary32 - 1 - v) (2 * top binary32 - 1 - w) (magnitude binary32 w) (magnitude binary32 v) (λ l. omega arith) (λ l. omega arith) ∙ sym (units_test binary32 w v c h)

  module _ (v_finite : Finite binary32 v) (w_finite : Finite binary32 w) where
    pub apart_order : Apart v w → ltb (place v) (place w) ≡ lt (of_bits binary32 v) (of_bits binary32 w)
    apart_order apart =
        let c = 2 ^ Ieee.low binary32 in
        let h = pow_pos (Ieee.low binary32) in
        by_signs (negative binary32 v) (negative binary32 w) refl refl apart c h
        ∙ sym (lt_values (of_bits binary32 v) (of_bits binary32 w) _ _ (units binary32 v) c (units binary32 w) c h h (word_value binary32 v v_finite) (word_value binary32 w w_finite))

    pub place_order : 0 < units binary32 v + units binary32 w → ltb (place v) (place w) ≡ lt (of_bits binary32 v) (of_bits binary32 w)
    place_order h = apart_order (λ d e. lt_irrefl 0 (rw (d, e) at h))

-- at the two zeros the orders do differ
pub zeros_differ : (ltb (place 0x8000_0000) (place 0x0000_0000) ≡ true) × (lt (of_bits binary32 0x8000_0000) (of_bits binary32 0x0000_0000) ≡ false)
unfolding lt of_bits
zeros_differ = (refl, refl)

-- ---- the gate test

-- the words that pass as numbers: none below the low end and none above the high end, but for the word that is judged the other way
abbrev pub within_ends : Gate → ℕ → Bool
within_ends g w = unlike (not (lt (of_bits binary32 w) (of_bits binary32 (low g))) && not (lt (of_bits binary32 (high g)) (of_bits binary32 w))) (eqb w (other g))

not_below : (v w : ℕ) → v < 2 ^ 32 → w < 2 ^ 32 → Finite binary32 v → Finite binary32 w → Apart w v → leb (place v) (place w) ≡ not (lt (of_bits binary32 w) (of_bits binary32 v))
not_below v w h k p q apart = leb_is (place v) (place w) ∙ ap not (apart_order w v k h q p apart)

pub passes_as_numbers : (g : Gate) (w : ℕ) → low g < 2 ^ 32 → high g < 2 ^ 32 → w < 2 ^ 32 → Finite binary32 (low g) → Finite binary32 (high g) → Finite binary32 w
    → Apart w (low g) → Apart (high g) w → passes g w ≡ within_ends g w
passes_as_numbers g w l h k p q r a b = rw (not_below (low g) w l k p r a, not_below w (high g) k h r q b)

-- ---- every gate of the table

-- 7fffffff, the NaN that stands above every word, is an end that no number is above
never_above : (w : ℕ) → w < 2 ^ 32 → leb (place w) (place 0x7fff_ffff) ≡ not (lt (of_bits binary32 0x7fff_ffff) (of_bits binary32 w))
unfolding lt of_bits
never_above w h = le-leb (place w) 0xffff_ffff (go (negative binary32 w) refl)
  where
    go : (s : Bool) → negative binary32 w ≡ s → cond s (2 * top binary32 - 1 - w) (top binary32 + w) ≤ 0xffff_ffff
    go true e = omega arith
    go false e = let l = leb-false (top binary32) w e in omega arith

abbrev finite_word : ℕ → Bool
finite_word w = ltb w (2 ^ 32) && ltb (exponent binary32 w) (ones binary32)

finite_word_is : (w : ℕ) → finite_word w ≡ true → (w < 2 ^ 32) × Finite binary32 w
finite_word_is w e = let p = both (ltb w (2 ^ 32)) (ltb (exponent binary32 w) (ones binary32)) e in (ltb-true w (2 ^ 32) p.0, ltb-true _ _ p.1)

-- the low end is a finite word, and the high end 7fffffff or a finite word with the sign clear
abbrev sound_high : ℕ → Bool
sound_high h = eqb h 0x7fff_ffff || (finite_word h && ltb h (top binary32))

abbrev sound : Gate → Bool
sound g = finite_word (low g) && sound_high (high g)

abbrev all_sound : List Gate → Bool
all_sound [] = true
all_sound (g ∷ gs) = sound g && all_sound gs

row_sound : (gs : List Gate) (op : ℕ) → all_sound gs ≡ true → sound (get_or gs op unbounded) ≡ true
row_sound [] op e = refl
row_sound (g ∷ gs) zero e = (both (sound g) (all_sound gs) e).0
row_sound (g ∷ gs) (suc op) e = row_sound gs op (both (sound g) (all_sound gs) e).1

sound_high_is : (h w : ℕ) → sound_high h ≡ true → w < 2 ^ 32 → Finite binary32 w → leb (place w) (place h) ≡ not (lt (of_bits binary32 h) (of_bits binary32 w))
sound_high_is h w e k r = go (eqb h 0x7fff_ffff) refl e
  where
    go : (t : Bool) → eqb h 0x7fff_ffff ≡ t → (t || (finite_word h && ltb h (top binary32))) ≡ true → leb (place w) (place h) ≡ not (lt (of_bits binary32 h) (of_bits binary32 w))
    go true d e = rw (eqb-true h 0x7fff_ffff d) (never_above w k)
    go false d e =
        let p = both (finite_word h) (ltb h (top binary32)) e in
        let q = finite_word_is h p.0 in
        let l = ltb-true h (top binary32) p.1 in
        not_below w h k q.0 r q.1 (λ d z. omega arith)

sound_as_numbers : (g : Gate) (w : ℕ) → sound g ≡ true → w < 2 ^ 32 → Finite binary32 w → Apart w (low g) → passes g w ≡ within_ends g w
sound_as_numbers g w e k r apart =
    let p = both (finite_word (low g)) (sound_high (high g)) e in
    let q = finite_word_is (low g) p.0 in
    rw (not_below (low g) w q.0 k q.1 r apart, sound_high_is (high g) w p.1 k r)

-- a word that is finite, and no -0 where the low end is +0
pub gates_as_numbers : (op w : ℕ) → w < 2 ^ 32 → Finite binary32 w → Apart w (low (gate_of op)) → passes (gate_of op) w ≡ within_ends (gate_of op) w
gates_as_numbers op w = sound_as_numbers (gate_of op) w (row_sound gates op refl)

-- ---- the word that an operation judges: -0 is judged only where the low end is not +0

abbrev Told : ℕ → ℕ → Type 0
Told op w = (w < 2 ^ 32) × Apart w (low (gate_of op))

judged_told : (op a b : ℕ) → a < 2 ^ 32 → Told op (judged op a b)
unfolding judged
judged_told op a b h = by_exp (eqb op op_exp) refl
  where
    clear : (w : ℕ) → w < top binary32 → Told op w
    clear w l = (omega arith, λ d z. omega arith)

    either_lt : (t : Bool) (m n : ℕ) → m < top binary32 → n < top binary32 → cond t m n < top binary32
    either_lt true m n p q = p
    either_lt false m n p q = q

    size_lt : judged_size op a b < top binary32
    size_lt =
        either_lt (among (op_atan2 ∷ op_hypot ∷ []) op) _ _
        (either_lt (leb (magnitude binary32 a) (magnitude binary32 b)) _ _ (magnitude_lt binary32 b) (magnitude_lt binary32 a))
        (either_lt (eqb op op_tan) _ _ (either_lt (is_zero binary32 (cos_word ieee a)) _ _ (lit< tt) (magnitude_lt binary32 a))
        (either_lt (among (op_rem_euclid ∷ op_div_euclid ∷ []) op) _ _ (magnitude_lt binary32 (quotient_word a b)) (magnitude_lt binary32 a)))

    by_powf : (t : Bool) → eqb op op_powf ≡ t → Told op (cond t (product_word a b) (judged_size op a b))
    by_powf true e = (to_bits-lt binary32 _ (mul-fits binary32 _ _), λ d. rw (eqb-true op op_powf e) (λ z. omega arith))
    by_powf false e = clear _ size_lt

    by_exp : (t : Bool) → eqb op op_exp ≡ t → Told op (cond t a (cond (eqb op op_powf) (product_word a b) (judged_size op a b)))
    by_exp true e = (h, λ d. rw (eqb-true op op_exp e) (λ z. omega arith))
    by_exp false e = by_powf (eqb op op_powf) refl

pub judged_as_numbers : (op a b : ℕ) → a < 2 ^ 32 → Finite binary32 (judged op a b) → passes (gate_of op) (judged op a b) ≡ within_ends (gate_of op) (judged op a b)
judged_as_numbers op a b h r = let t = judged_told op a b h in gates_as_numbers op (judged op a b) t.0 r t.1
