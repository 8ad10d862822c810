-- A place that is in reach of the steps alone: nothing is refused there, and what stands there is the kernel's word. And a place of any words: its
-- refusal, and the word beside it. Assumes nothing.
use Prim.Native.Nat.{ℕ, ◌-◌, ◌^◌, ◌≤◌, ◌<◌}
use native.Mathlib.Nat.{le_of_lt, mod-eq_of_lt, suc-ne-zero, suc_inj}
use native.Mathlib.Omega.{arith}
use mathlib.Core.Path.{◌≡◌, refl, sym, ap, subst, ◌∙◌}
use mathlib.Core.Logic.{◌⊎◌, inl, inr}
use mathlib.Core.List.{List, [], ◌∷◌, ◌++◌}
use mathlib.Core.Bool.{Bool, true, false, cond, ◌&&◌, ◌||◌, false≢true}
use borrow.Author.Tests.{lt-ltb, le-ltb, lt-leb, ne_eqb, leb-true, leb-false, ltb-true, eqb-true, eqb-false}
use lib.Dec.{leb, ltb, eqb, lit<, lit≤}
use lib.Ieee.{binary32, nan_bits}
use lib.Ieee.Bits.{nan_bits_above}
use Rattle.format.specs.Fields.{magnitude}
use Rattle.format.specs.Classes.{is_zero}
use Rattle.format.specs.Sign.{abs_word}
use Rattle.format.specs.Estimates.{sqrt_word, inv_word, invsqrt_word}
use Rattle.format.proofs.Classes.{normal_of}
use Rattle.format.proofs.AtLeastZero.{up_to_infinity}
use Rattle.float.specs.Engine.{ieee}
use Rattle.float.specs.Atan.{atan_word}
use Rattle.float.specs.Atan2.{atan2_word}
use Rattle.float.specs.Cos.{cos_word, sin_word}
use Rattle.float.specs.Hypot.{hypot_word}
use Rattle.raw.specs.Raw.{kernel_of, raw_of}
use Rattle.format.specs.First.{among}
use Rattle.guard.specs.Refusals.{refusal_of}
use Rattle.guard.specs.Guarded.{value_of}
use Rattle.guard.proofs.Open.{both, opened}
use Rattle.guard.proofs.Laws.{second_word_is_ignored}
use Rattle.strip.specs.Strip.{operands_in, word_at, refusal_at}
use Rattle.strip.specs.Reach.{up_to, angle_reach, AngleReach, blocked, has_blocks, reach, stepped, on_bits, half_word, bits_word, size_number}
use Rattle.strip.proofs.Answers.{raw_place, answered_place, guarded_number, refused_is_zero}
use Rattle.strip.proofs.Runs.{same_word, same_number}
use Rattle.strip.proofs.Numbers.{abs_number_is, invsqrt_number_is, inv_number_is, atan_number_is, cos_number_is, sin_number_is, root_number_is, angle_number_is, hypot_number_is}

-- ---- the operations of a list

-- what holds of each
abbrev pub Each : (ℕ → Type 0) → List ℕ → Type 0
Each P [] = Unit {0}
Each P (k ∷ ks) = P k × Each P ks

-- holds of every number in it
listed : (P : ℕ → Type 0) (op : ℕ) (ks : List ℕ) → among ks op ≡ true → Each P ks → P op
listed P op [] e h = absurd (false≢true e)
listed P op (k ∷ ks) e h = by (eqb op k) refl e (λ d. listed P op ks d h.1)
  where
    by : (t : Bool) → eqb op k ≡ t → (t || among ks op) ≡ true → (among ks op ≡ true → P op) → P op
    by true d e f = subst P (sym (eqb-true op k d)) h.0
    by false d e f = f e

-- a number that is none of a list is in that list and another where it is in the other
pub skipped : (xs ys : List ℕ) (op : ℕ) → among xs op ≡ false → among (xs ++ ys) op ≡ among ys op
skipped [] ys op e = refl
skipped (k ∷ xs) ys op e = by (eqb op k) e (skipped xs ys op)
  where
    by : (t : Bool) → (t || among xs op) ≡ false → (among xs op ≡ false → among (xs ++ ys) op ≡ among ys op) → (t || among (xs ++ ys) op) ≡ among ys op
    by true e f = absurd (false≢true (sym e))
    by false e f = f e

-- ---- facts of words in reach

-- of a word from 0 up to the infinity sqrt is half of its sum with the word of 1
pub root_halved : (a : ℕ) → a ≤ 0x7f80_0000 → sqrt_word binary32 a ≡ half_word a
root_halved a h = rw (up_to_infinity binary32 a h)

pub angle_reached : (y x : ℕ) → angle_reach y x ≡ true → AngleReach y x
angle_reached y x h =
    let p = both (up_to 0x5e80_0000 y && up_to 0x5e80_0000 x) (leb 0x2180_0000 (magnitude binary32 y) || leb 0x2180_0000 (magnitude binary32 x)) h in
    let q = both (up_to 0x5e80_0000 y) (up_to 0x5e80_0000 x) p.0 in
    record { height = leb-true (magnitude binary32 y) 0x5e80_0000 q.0; across = leb-true (magnitude binary32 x) 0x5e80_0000 q.1; either = one (leb 0x2180_0000 (magnitude binary32 y)) refl p.1 }
  where
    one : (t : Bool) → leb 0x2180_0000 (magnitude binary32 y) ≡ t → (t || leb 0x2180_0000 (magnitude binary32 x)) ≡ true → (0x2180_0000 ≤ magnitude binary32 y) ⊎ (0x2180_0000 ≤ magnitude binary32 x)
    one true d e = inl (leb-true 0x2180_0000 (magnitude binary32 y) d)
    one false d e = inr (leb-true 0x2180_0000 (magnitude binary32 x) e)

-- where a gate from 0 up to a limit has let a word pass, and where it has not
passed : (limit w : ℕ) → limit < 0x7f80_0000 → up_to limit w ≡ true → size_number limit w ≡ 0
passed limit w h e = let l = leb-true (magnitude binary32 w) limit e in rw (lt-leb 0x7f80_0000 (magnitude binary32 w) (omega (arith, l, h)), le-ltb limit (magnitude binary32 w) l)

-- the two refusals of a gate are no answer
refused : (t : Bool) → ◌≡◌ {A = ℕ} (cond t 1 4) 0 → ⊥
refused true e = suc-ne-zero 0 e
refused false e = suc-ne-zero 3 e

not_passed : (limit w : ℕ) → up_to limit w ≡ false → size_number limit w ≡ 0 → ⊥
not_passed limit w e z = refused (leb 0x7f80_0000 (magnitude binary32 w)) (rw (lt-ltb limit (magnitude binary32 w) (leb-false (magnitude binary32 w) limit e)) at z)

-- a word past the gate of cos and sin has a 0 in its place
pub within_reach : (a : ℕ) → magnitude binary32 (cond (up_to 0x4380_0000 a) a 0) ≤ 0x4380_0000
within_reach a = go (up_to 0x4380_0000 a) refl
  where
    go : (t : Bool) → up_to 0x4380_0000 a ≡ t → magnitude binary32 (cond t a 0) ≤ 0x4380_0000
    go true e = leb-true (magnitude binary32 a) 0x4380_0000 e
    go false e = lit≤ tt

-- two words past the gate of atan2 have 0 and 1 in their places
pub pair_reach : (y x : ℕ) → AngleReach (cond (angle_reach y x) y 0) (cond (angle_reach y x) x 0x3f80_0000)
pair_reach y x = go (angle_reach y x) refl
  where
    go : (t : Bool) → angle_reach y x ≡ t → AngleReach (cond t y 0) (cond t x 0x3f80_0000)
    go true e = angle_reached y x e
    go false e = record { height = lit≤ tt; across = lit≤ tt; either = inr (lit≤ tt) }

-- a word up to the infinity is no NaN
pub no_nan : (w : ℕ) → magnitude binary32 w ≤ 0x7f80_0000 → nan_bits binary32 w ≡ false
no_nan w h = nan_bits_above binary32 w ∙ le-ltb 0x7f80_0000 (magnitude binary32 w) h

-- ---- a place

-- nothing is refused, and the word is w
pub record Answered (op a b w : ℕ) : Type 0 where
  pub number : refusal_at op a b ≡ 0
  pub word : word_at op a b ≡ w

-- an operation that has blocks is one
known_block : (op : ℕ) → has_blocks op ≡ true → operands_in op ≡ 0 → ⊥
known_block op h =
    listed (λ n. operands_in n ≡ 0 → ⊥) op blocked h
    (suc-ne-zero 0, (suc-ne-zero 0, (suc-ne-zero 0, (suc-ne-zero 0, (suc-ne-zero 0, (suc-ne-zero 0, (suc-ne-zero 0, (suc-ne-zero 1, (suc-ne-zero 1, (suc-ne-zero 0, (suc-ne-zero 0, (suc-ne-zero 0, (suc-ne-zero 0, (suc-ne-zero 1, (suc-ne-zero 1, tt)))))))))))))))

module _ (a b : ℕ) (k : a < 2 ^ 32) (l : b < 2 ^ 32) where
  guarded : (op : ℕ) → (operands_in op ≡ 0 → ⊥) → op < 0x80 → refusal_of op a b ≡ 0 → Answered op a b (value_of op a b)
  guarded op o g z = let p = answered_place op a b o k l g z in record { number = p.0; word = p.1 }

  raw : (op : ℕ) → (operands_in op ≡ 0 → ⊥) → 0x80 ≤ op → Answered op a b (raw_of (kernel_of (op - 0x80)) a b)
  raw op o g = let p = raw_place op a b o k l g in record { number = p.0; word = p.1 }

  -- ---- the raw kernels, of any words

  pub raw_root : Answered 0x89 a b (sqrt_word binary32 a)
  raw_root = raw 0x89 (suc-ne-zero 0) (lit≤ tt)

  pub raw_atan : Answered 0x91 a b (atan_word ieee a)
  raw_atan = raw 0x91 (suc-ne-zero 0) (lit≤ tt)

  pub raw_angle : Answered 0x92 a b (atan2_word a b)
  raw_angle = raw 0x92 (suc-ne-zero 1) (lit≤ tt)

  pub raw_cos : Answered 0x93 a b (cos_word ieee a)
  raw_cos = raw 0x93 (suc-ne-zero 0) (lit≤ tt)

  pub raw_sin : Answered 0x94 a b (sin_word ieee a)
  raw_sin = raw 0x94 (suc-ne-zero 0) (lit≤ tt)

  pub raw_hypot : Answered 0x95 a b (hypot_word a b)
  raw_hypot = raw 0x95 (suc-ne-zero 1) (lit≤ tt)

  -- and none of them refuses anything
  pub raw_number : (op : ℕ) → has_blocks op ≡ true → 0x80 ≤ op → refusal_at op a b ≡ 0
  raw_number op h g = (raw op (known_block op h) g).number

  -- ---- the guarded ones: the refusal at a place, and the word where there is none

  at_place : (op n : ℕ) → (operands_in op ≡ 0 → ⊥) → op < 0x80 → refusal_of op a b ≡ n → n ≡ refusal_at op a b
  at_place op n o g e = sym e ∙ sym (guarded_number op a b o k l g)

  pub abs_number_at : size_number 0x7fff_ffff a ≡ refusal_at 0x06 a b
  abs_number_at = at_place 0x06 _ (suc-ne-zero 0) (lit< tt) ((second_word_is_ignored 0x06 a b refl).0 ∙ abs_number_is a)

  pub invsqrt_number_at : refusal_of 0x0a a 0 ≡ refusal_at 0x0a a b
  invsqrt_number_at = at_place 0x0a _ (suc-ne-zero 0) (lit< tt) (second_word_is_ignored 0x0a a b refl).0

  pub inv_number_at : refusal_of 0x0b a 0 ≡ refusal_at 0x0b a b
  inv_number_at = at_place 0x0b _ (suc-ne-zero 0) (lit< tt) (second_word_is_ignored 0x0b a b refl).0

  pub root_number_at : refusal_of 0x09 a 0 ≡ refusal_at 0x09 a b
  root_number_at = at_place 0x09 _ (suc-ne-zero 0) (lit< tt) (second_word_is_ignored 0x09 a b refl).0

  pub atan_number_at : size_number 0x5f7f_ffff a ≡ refusal_at 0x11 a b
  atan_number_at = at_place 0x11 _ (suc-ne-zero 0) (lit< tt) ((second_word_is_ignored 0x11 a b refl).0 ∙ atan_number_is a)

  pub angle_number_at : refusal_of 0x12 a b ≡ refusal_at 0x12 a b
  angle_number_at = at_place 0x12 _ (suc-ne-zero 1) (lit< tt) refl

  pub cos_number_at : size_number 0x4380_0000 a ≡ refusal_at 0x13 a b
  cos_number_at = at_place 0x13 _ (suc-ne-zero 0) (lit< tt) ((second_word_is_ignored 0x13 a b refl).0 ∙ cos_number_is a)

  pub sin_number_at : size_number 0x4380_0000 a ≡ refusal_at 0x14 a b
  sin_number_at = at_place 0x14 _ (suc-ne-zero 0) (lit< tt) ((second_word_is_ignored 0x14 a b refl).0 ∙ sin_number_is a)

  pub hypot_number_at : refusal_of 0x12 a b ≡ refusal_at 0x15 a b
  hypot_number_at = at_place 0x15 _ (suc-ne-zero 1) (lit< tt) (hypot_number_is a b)

  answered : (op : ℕ) → (operands_in op ≡ 0 → ⊥) → op < 0x80 → refusal_at op a b ≡ 0 → Answered op a b (value_of op a b)
  answered op o g z = guarded op o g (sym (guarded_number op a b o k l g) ∙ z)

  pub root_answered : refusal_at 0x09 a b ≡ 0 → Answered 0x09 a b (cond (is_zero binary32 a) a (half_word a))
  root_answered z = let p = answered 0x09 (suc-ne-zero 0) (lit< tt) z in record { number = z; word = p.word ∙ go (is_zero binary32 a) refl }
    where
      none : refusal_of 0x09 a b ≡ 0
      none = sym (guarded_number 0x09 a b (suc-ne-zero 0) k l (lit< tt)) ∙ z

      go : (t : Bool) → is_zero binary32 a ≡ t → cond t a (sqrt_word binary32 a) ≡ cond t a (half_word a)
      go true e = refl
      go false e = let o = opened 0x09 a b none in root_halved a (le_of_lt (normal_of binary32 a o.first e o.small o.sign).below)

  pub abs_answered : refusal_at 0x06 a b ≡ 0 → Answered 0x06 a b (abs_word binary32 a)
  abs_answered = answered 0x06 (suc-ne-zero 0) (lit< tt)

  pub invsqrt_answered : refusal_at 0x0a a b ≡ 0 → Answered 0x0a a b (invsqrt_word a)
  invsqrt_answered = answered 0x0a (suc-ne-zero 0) (lit< tt)

  pub inv_answered : refusal_at 0x0b a b ≡ 0 → Answered 0x0b a b (inv_word binary32 a)
  inv_answered = answered 0x0b (suc-ne-zero 0) (lit< tt)

  pub atan_answered : refusal_at 0x11 a b ≡ 0 → Answered 0x11 a b (atan_word ieee a)
  atan_answered = answered 0x11 (suc-ne-zero 0) (lit< tt)

  pub angle_answered : refusal_at 0x12 a b ≡ 0 → Answered 0x12 a b (atan2_word a b)
  angle_answered = answered 0x12 (suc-ne-zero 1) (lit< tt)

  pub cos_answered : refusal_at 0x13 a b ≡ 0 → Answered 0x13 a b (cos_word ieee a)
  cos_answered = answered 0x13 (suc-ne-zero 0) (lit< tt)

  pub sin_answered : refusal_at 0x14 a b ≡ 0 → Answered 0x14 a b (sin_word ieee a)
  sin_answered = answered 0x14 (suc-ne-zero 0) (lit< tt)

  pub hypot_answered : refusal_at 0x15 a b ≡ 0 → Answered 0x15 a b (hypot_word a b)
  hypot_answered = answered 0x15 (suc-ne-zero 1) (lit< tt)

  -- an operation that took a 0 in the place of a word past its gate
  taken : (f : ℕ → ℕ) (op : ℕ) → size_number 0x4380_0000 a ≡ refusal_at op a b → refusal_at op a b ≡ 0 → f (cond (up_to 0x4380_0000 a) a 0) ≡ f a
  taken f op e z = go (up_to 0x4380_0000 a) refl
    where
      go : (t : Bool) → up_to 0x4380_0000 a ≡ t → f (cond t a 0) ≡ f a
      go true d = refl
      go false d = absurd (not_passed 0x4380_0000 a d (e ∙ z))

  -- two words past their gate have 0 and 1 in their places
  pair_taken : (f : ℕ → ℕ → ℕ) (op : ℕ) → refusal_of 0x12 a b ≡ refusal_at op a b → refusal_at op a b ≡ 0 → f (cond (angle_reach a b) a 0) (cond (angle_reach a b) b 0x3f80_0000) ≡ f a b
  pair_taken f op e z = go (angle_reach a b) refl
    where
      go : (t : Bool) → angle_reach a b ≡ t → f (cond t a 0) (cond t b 0x3f80_0000) ≡ f a b
      go true d = refl
      go false d = absurd (refused (leb 0x7f80_0000 (magnitude binary32 a) || leb 0x7f80_0000 (magnitude binary32 b)) (rw d at (angle_number_is a b ∙ e ∙ z)))

  pub cos_taken : refusal_at 0x13 a b ≡ 0 → cos_word ieee (cond (up_to 0x4380_0000 a) a 0) ≡ word_at 0x13 a b
  cos_taken z = taken (cos_word ieee) 0x13 cos_number_at z ∙ sym (cos_answered z).word

  pub sin_taken : refusal_at 0x14 a b ≡ 0 → sin_word ieee (cond (up_to 0x4380_0000 a) a 0) ≡ word_at 0x14 a b
  sin_taken z = taken (sin_word ieee) 0x14 sin_number_at z ∙ sym (sin_answered z).word

  pub angle_taken : refusal_at 0x12 a b ≡ 0 → atan2_word (cond (angle_reach a b) a 0) (cond (angle_reach a b) b 0x3f80_0000) ≡ word_at 0x12 a b
  angle_taken z = pair_taken atan2_word 0x12 angle_number_at z ∙ sym (angle_answered z).word

  pub hypot_taken : refusal_at 0x15 a b ≡ 0 → hypot_word (cond (angle_reach a b) a 0) (cond (angle_reach a b) b 0x3f80_0000) ≡ word_at 0x15 a b
  hypot_taken z = pair_taken hypot_word 0x15 hypot_number_at z ∙ sym (hypot_answered z).word

  -- ---- in reach nothing is refused

  abs_passed : up_to 0x7f7f_ffff a ≡ true → refusal_at 0x06 a b ≡ 0
  abs_passed h =
      let l = leb-true (magnitude binary32 a) 0x7f7f_ffff h in
      sym abs_number_at ∙ rw (lt-leb 0x7f80_0000 (magnitude binary32 a) (omega (arith, l)), le-ltb 0x7fff_ffff (magnitude binary32 a) (omega (arith, l)))

  -- of a positive normal number
  module _ (h : (leb 0x0080_0000 a && ltb a 0x7f80_0000) ≡ true) where
    above : 0x0080_0000 ≤ a
    above = leb-true 0x0080_0000 a (both (leb 0x0080_0000 a) (ltb a 0x7f80_0000) h).0

    below : a < 0x7f80_0000
    below = ltb-true a 0x7f80_0000 (both (leb 0x0080_0000 a) (ltb a 0x7f80_0000) h).1

    unsigned : magnitude binary32 a ≡ a
    unsigned = mod-eq_of_lt (omega (arith, below))

    not_zero : is_zero binary32 a ≡ false
    not_zero = ap (λ (m : ℕ). eqb m 0) unsigned ∙ ne_eqb a 0 (λ (e : a ≡ 0). let z : ⊥ = omega (arith, e, above) in z)

    none : refusal_of 0x09 a 0 ≡ 0
    none = sym (root_number_is a) ∙ rw (not_zero, unsigned, lt-leb 0x7f80_0000 a below, le-ltb a 0x0080_0000 above, lt-leb 0x8000_0000 a (omega (arith, below)))

    root_passed : refusal_at 0x09 a b ≡ 0
    root_passed = sym root_number_at ∙ none

    invsqrt_passed : refusal_at 0x0a a b ≡ 0
    invsqrt_passed = sym invsqrt_number_at ∙ sym (invsqrt_number_is a) ∙ rw (not_zero, none)

  inv_passed : (leb 0x0080_0000 (magnitude binary32 a) && up_to 0x7e80_0000 a) ≡ true → refusal_at 0x0b a b ≡ 0
  inv_passed h =
      let f = both (leb 0x0080_0000 (magnitude binary32 a)) (up_to 0x7e80_0000 a) h in
      let p = leb-true 0x0080_0000 (magnitude binary32 a) f.0 in
      sym inv_number_at
      ∙ sym (inv_number_is a)
      ∙ rw (ne_eqb (magnitude binary32 a) 0 (λ (e : magnitude binary32 a ≡ 0). let z : ⊥ = omega (arith, e, p) in z), le-ltb (magnitude binary32 a) 0x0080_0000 p) (passed 0x7e80_0000 a (lit< tt) f.1)

  atan_passed : up_to 0x5f7f_ffff a ≡ true → refusal_at 0x11 a b ≡ 0
  atan_passed h = sym atan_number_at ∙ passed 0x5f7f_ffff a (lit< tt) h

  angle_passed : angle_reach a b ≡ true → refusal_of 0x12 a b ≡ 0
  angle_passed h =
      let r = angle_reached a b h in
      let f = lt-leb 0x7f80_0000 (magnitude binary32 a) (let z = r.height in omega (arith, z)) in
      let g = lt-leb 0x7f80_0000 (magnitude binary32 b) (let z = r.across in omega (arith, z)) in
      sym (angle_number_is a b) ∙ tests _ _ _ f g h
    where
      tests : (s t u : Bool) → s ≡ false → t ≡ false → u ≡ true → ◌≡◌ {A = ℕ} (cond (s || t) 1 (cond u 0 4)) 0
      tests s t u p q r = rw (p, q, r)

  -- a judged place is not refused
  pub in_reach : (op : ℕ) → reach op a b ≡ true → refusal_at op a b ≡ 0
  in_reach op h = listed (λ n. reach n a b ≡ true → refusal_at n a b ≡ 0) op blocked (both (has_blocks op) _ h).0 each h
    where
      each : Each (λ n. reach n a b ≡ true → refusal_at n a b ≡ 0) blocked
      each = (
        abs_passed,
        (
          root_passed,
          (
            (λ h. raw_root.number),
            (
              invsqrt_passed,
              (
                inv_passed,
                (
                  atan_passed,
                  (
                    (λ h. raw_atan.number),
                    (
                      (λ h. sym angle_number_at ∙ angle_passed h),
                      (
                        (λ h. raw_angle.number),
                        (
                          (λ h. sym cos_number_at ∙ passed 0x4380_0000 a (lit< tt) h),
                          (
                            (λ h. raw_cos.number),
                            (
                              (λ h. sym sin_number_at ∙ passed 0x4380_0000 a (lit< tt) h),
                              ((λ h. raw_sin.number), ((λ h. sym hypot_number_at ∙ angle_passed h), ((λ h. raw_hypot.number), tt))),
                            ),
                          ),
                        ),
                      ),
                    ),
                  ),
                ),
              ),
            ),
          ),
        ),
      )

  -- ---- the word beside a refusal

  pub beside_refusal : (op n w : ℕ) → has_blocks op ≡ true → n ≡ refusal_at op a b → (has_blocks op ≡ true → refusal_at op a b ≡ 0 → w ≡ word_at op a b) → cond (eqb n 0) w 0 ≡ word_at op a b
  beside_refusal op n w h e f = go (eqb n 0) refl
    where
      go : (t : Bool) → eqb n 0 ≡ t → cond t w 0 ≡ word_at op a b
      go true d = f h (sym e ∙ eqb-true n 0 d)
      go false d = sym (refused_is_zero op a b (known_block op h) k l (λ z. eqb-false n 0 d (e ∙ z)))

-- the refusal of each operation
pub ruleset numbers = (abs_number_at, invsqrt_number_at, inv_number_at, root_number_at, atan_number_at, angle_number_at, cos_number_at, sin_number_at, hypot_number_at, raw_number)

-- the word of each, where there is no refusal
pub ruleset words = (abs_answered, root_answered, invsqrt_answered, inv_answered, atan_answered, angle_taken, cos_taken, sin_taken, hypot_taken, raw_root, raw_atan, raw_angle, raw_cos, raw_sin, raw_hypot)

-- ---- the steps on the word itself, whatever the second word is

pub bits_have_blocks : (op : ℕ) → on_bits op ≡ true → has_blocks op ≡ true
bits_have_blocks op r = listed (λ n. has_blocks n ≡ true) op stepped r (refl, (refl, (refl, (refl, (refl, tt)))))

pub bits_answered : (op a b : ℕ) → a < 2 ^ 32 → on_bits op ≡ true → reach op a b ≡ true → Answered op a b (bits_word op a)
bits_answered op a b k r h = alike op r (listed (λ n. reach n a 0 ≡ true → Answered n a 0 (bits_word n a)) op stepped r (absolute, (positive, (unsigned, (inverse, (inverted, tt))))) (same_reach op r h))
  where
    one : ◌≡◌ {A = ℕ} 1 2 → ⊥
    one e = suc-ne-zero 0 (sym (suc_inj e))

    alike : (n : ℕ) → on_bits n ≡ true → Answered n a 0 (bits_word n a) → Answered n a b (bits_word n a)
    alike n r p = let o = listed (λ n. operands_in n ≡ 2 → ⊥) n stepped r (one, (one, (one, (one, (one, tt))))) in record { number = same_number n o a b 0 ∙ p.number; word = same_word n o a b 0 ∙ p.word }

    same_reach : (n : ℕ) → on_bits n ≡ true → reach n a b ≡ true → reach n a 0 ≡ true
    same_reach n r = listed (λ n. reach n a b ≡ true → reach n a 0 ≡ true) n stepped r ((λ h. h), ((λ h. h), ((λ h. h), ((λ h. h), ((λ h. h), tt)))))

    absolute : reach 0x06 a 0 ≡ true → Answered 0x06 a 0 (abs_word binary32 a)
    absolute h = abs_answered a 0 k (lit< tt) (in_reach a 0 k (lit< tt) 0x06 h)

    positive : reach 0x09 a 0 ≡ true → Answered 0x09 a 0 (half_word a)
    positive h = let q = root_answered a 0 k (lit< tt) (in_reach a 0 k (lit< tt) 0x09 h) in record { number = q.number; word = q.word ∙ rw (not_zero a 0 k (lit< tt) h) }

    unsigned : reach 0x89 a 0 ≡ true → Answered 0x89 a 0 (half_word a)
    unsigned h = let q = raw_root a 0 k (lit< tt) in record { number = q.number; word = q.word ∙ root_halved a (leb-true a 0x7f80_0000 h) }

    inverse : reach 0x0a a 0 ≡ true → Answered 0x0a a 0 (invsqrt_word a)
    inverse h = invsqrt_answered a 0 k (lit< tt) (in_reach a 0 k (lit< tt) 0x0a h)

    inverted : reach 0x0b a 0 ≡ true → Answered 0x0b a 0 (inv_word binary32 a)
    inverted h = inv_answered a 0 k (lit< tt) (in_reach a 0 k (lit< tt) 0x0b h)
