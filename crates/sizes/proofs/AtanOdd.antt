-- atan_norm and atan are odd to the bit below 2 ^ 64, and lie from -1 to 1 and from -PI / 2 to PI / 2: the quotient does not see the sign, which is put
-- on it as a bit, and what is below its line is no smaller than what is above. Assumes nothing.
use Prim.Native.Nat.{ℕ, ◌+◌, ◌*◌, ◌^◌, ◌≤◌, ◌<◌, zero-le}
use native.Mathlib.Nat.{le_of_eq, mul_comm, zero-mul, div-lt_iff_lt-mul}
use native.Mathlib.Omega.{arith}
use mathlib.Core.Path.{◌≡◌, refl, ap, subst, ◌∙◌}
use mathlib.Core.Logic.{◌⊎◌, inl, inr}
use mathlib.Core.Bool.{Bool, true, false, not}
use mathlib.Core.List.{[], ◌∷◌, map}
use borrow.Author.Tests.{eqb-false}
use lib.Dec.{T, lit<}
use lib.Ieee.{Format, Float, nan, inf, fin, binary32, up, down, add, mul, div, nan_bits, of_bits, to_bits}
use lib.Ieee.Bits.{of_bits-to_bits}
use lib.Ieee.Fits.{mul-fits, div-fits, add-fits}
use lib.Ieee.Scale.{finite}
use Rattle.format.specs.Fields.{magnitude, negative, sign_bit}
use Rattle.format.specs.Sign.{turned_word, with_sign}
use Rattle.format.specs.Value.{units, Finite}
use Rattle.format.specs.Ordered.{OddAt}
use Rattle.format.proofs.Fields.{hid_pos, magnitude_lt, sign_of, magnitude_of}
use Rattle.format.proofs.Sign.{sign_set, turned_sign, turned_read, turned_written}
use Rattle.format.proofs.Order.{either}
use Rattle.format.proofs.Compared.{within}
use Rattle.float.specs.Engine.{ieee, abs_of}
use Rattle.float.specs.Atan.{signed_answer, first_quadrant, atan_norm_word, atan_word}
use Rattle.sizes.specs.Angles.{Under64, WithinOne, WithinQuarter}
use Rattle.sizes.proofs.Sign.{product_size, square_size, product_turned}
use Rattle.sizes.proofs.Size.{AtMost, AtLeast, NotNegative, mul_at_most, div_within, add_not_negative, add_at_least_right, not_zero, round_not_negative}
use Rattle.sizes.proofs.Words.{constant, word_at_most, own_at_most, own_at_least, at_most_number, number_word, abs_value, at_most_word, sign_word}
use Rattle.sizes.proofs.Quotient.{bottom}
use Rattle.sizes.proofs.Atan.{one_not_negative, bent, bent_plus, square_plus, above_at_most, below_at_least}

-- ---- the quotient does not see the sign

resigned : (s : Bool) (x : Float) → with_sign false (with_sign s x) ≡ with_sign false x
resigned s nan = refl
resigned s (inf t) = refl
resigned s (fin t m e) = refl

quadrant_even : (x : Float) (s : Bool) → first_quadrant ieee (with_sign s x) ≡ first_quadrant ieee x
quadrant_even x s =
    let c = of_bits binary32 0x3f18_a255 in
    let y = with_sign s x in
    let size : (z : Float) → abs_of ieee (mul binary32 c z) ≡ mul binary32 (with_sign false c) (with_sign false z) = λ z.
    abs_value binary32 (mul binary32 c z) (mul-fits binary32 c z) ∙ product_size binary32 c z in
    let e = resigned s x in
    cc (size x, size y, square_size binary32 x, square_size binary32 y)

-- ---- a quotient of numbers that are not negative

div_not_negative : {f : Format} {c : ℕ} {x y : Float} → NotNegative x → T (finite x) → NotNegative y → AtLeast f c y → 0 < units f c → NotNegative (div f x y)
unfolding div
div_not_negative {f} {c} {x = nan} p i q k C = absurd i
div_not_negative {f} {c} {x = inf s} p i q k C = absurd i
div_not_negative {f} {c} {x = fin s m e} {y = nan} p i q k C = absurd q.plus
div_not_negative {f} {c} {x = fin s m e} {y = inf t} p i q k C = rw (p.plus, q.plus) (record { plus = refl })
div_not_negative {f} {c} {x = fin s m e} {y = fin t n d} p i q k C =
    rw (not_zero f c n d C k.large, p.plus, q.plus) (round_not_negative f (m * up e * down d) (n * up d * down e))

-- ---- the answer

module _ (w : ℕ) (h : magnitude binary32 w < 0x5f80_0000) where
  abbrev x : Float
  x = of_bits binary32 w

  abbrev n : Float
  n = add binary32 (bent w h) (mul binary32 x x)

  abbrev d : Float
  d = bottom one_not_negative (bent_plus w h) (square_plus w h)

  n_plus : NotNegative n
  n_plus = add_not_negative binary32 (bent_plus w h) (square_plus w h)

  first_plus : NotNegative (add binary32 (of_bits binary32 0x3f80_0000) (bent w h))
  first_plus = add_not_negative binary32 one_not_negative (bent_plus w h)

  -- what is above the line is a word's number, and what is below it is no smaller
  abbrev N : ℕ
  N = to_bits binary32 n

  n_is : of_bits binary32 N ≡ n
  n_is = of_bits-to_bits binary32 n (add-fits binary32 _ _)

  n_finite : Finite binary32 N
  n_finite = (div-lt_iff_lt-mul (hid_pos binary32)).1 (let l = at_most_word binary32 0x7f7f_ffff n (add-fits binary32 _ _) (above_at_most w h) in omega arith)

  n_own : AtMost binary32 N n
  n_own = subst (AtMost binary32 N) n_is (own_at_most binary32 N n_finite)

  d_own : AtLeast binary32 N d
  d_own = add_at_least_right (subst (AtLeast binary32 N) n_is (own_at_least binary32 N n_finite)) first_plus n_plus n_finite

  q_at_most : AtMost binary32 0x3f80_0000 (first_quadrant ieee x)
  q_at_most = go (either 1 (units binary32 N))
    where
      go : (1 ≤ units binary32 N) ⊎ (units binary32 N < 1) → AtMost binary32 0x3f80_0000 (div binary32 n d)
      go (inl p) = div_within 0x3f80_0000 n_own d_own (lit< tt) p (le_of_eq (mul_comm (units binary32 N) (2 ^ 149)))
      go (inr p) = div_within 0x3f80_0000 n_own (below_at_least w h) (lit< tt) (lit< tt) (let z : units binary32 N ≡ 0 = omega arith in rw (z, zero-mul (2 ^ 149)) zero-le)

  q_plus : NotNegative (first_quadrant ieee x)
  q_plus = div_not_negative n_plus (above_at_most w h).finite (add_not_negative binary32 first_plus n_plus) (below_at_least w h) (lit< tt)

  abbrev q : ℕ
  q = to_bits binary32 (first_quadrant ieee x)

  q_number : nan_bits binary32 q ≡ false
  q_number = number_word binary32 _ (div-fits binary32 _ _) (at_most_number q_at_most)

  q_clear : negative binary32 q ≡ false
  q_clear = sign_word binary32 _ (div-fits binary32 _ _) q_at_most.finite q_plus

  -- or-ing a sign onto a word that has none is putting it there
  signed : (s : Bool) → signed_answer s q ≡ sign_bit binary32 s + magnitude binary32 q
  signed true = rw q_number
  signed false = rw (q_number, q_clear)

  answer_size : magnitude binary32 (atan_norm_word ieee w) ≤ 0x3f80_0000
  unfolding atan_norm_word
  answer_size = rw (signed (negative binary32 w), magnitude_of binary32 (magnitude binary32 q) (magnitude_lt binary32 q) (negative binary32 w))
      (at_most_word binary32 0x3f80_0000 _ (div-fits binary32 _ _) q_at_most)

  norm_odd : OddAt binary32 (atan_norm_word ieee) w
  unfolding atan_norm_word
  norm_odd =
      let m = magnitude binary32 q in
      let s = negative binary32 w in
      let e : first_quadrant ieee (of_bits binary32 (turned_word binary32 w)) ≡ first_quadrant ieee x =
      ap (first_quadrant ieee) (sign_set binary32 (not s) w).value ∙ quadrant_even x (not s) in
      rw (e, turned_sign binary32 w, signed (not s), signed s, sign_of binary32 m (magnitude_lt binary32 q) s, magnitude_of binary32 m (magnitude_lt binary32 q) s)

  -- PI / 2 times that
  product_within : AtMost binary32 0x3fc9_0fdb (mul binary32 (of_bits binary32 0x3fc9_0fdb) (of_bits binary32 (atan_norm_word ieee w)))
  product_within = mul_at_most 0x3fc9_0fdb (constant binary32 0x3fc9_0fdb tt) (word_at_most binary32 (atan_norm_word ieee w) 0x3f80_0000 (lit< tt) answer_size) tt

  radians_odd : OddAt binary32 (atan_word ieee) w
  unfolding atan_word
  radians_odd =
      let c = of_bits binary32 0x3fc9_0fdb in
      let y = of_bits binary32 (atan_norm_word ieee w) in
      ap (λ (r : ℕ). to_bits binary32 (mul binary32 c (of_bits binary32 r))) norm_odd
      ∙ ap (λ (z : Float). to_bits binary32 (mul binary32 c z)) (turned_read binary32 (atan_norm_word ieee w))
      ∙ ap (to_bits binary32) (product_turned binary32 c y)
      ∙ turned_written binary32 (mul binary32 c y) (mul-fits binary32 c y) (at_most_number product_within)

  radians_size : magnitude binary32 (atan_word ieee w) ≤ 0x3fc9_0fdb
  unfolding atan_word
  radians_size = at_most_word binary32 0x3fc9_0fdb _ (mul-fits binary32 _ _) product_within

-- ---- the laws

pub atan_norm_odd : (w : ℕ) → Under64 w → OddAt binary32 (atan_norm_word ieee) w
atan_norm_odd w h = norm_odd w h

pub atan_norm_within : (w : ℕ) → Under64 w → WithinOne (atan_norm_word ieee w)
atan_norm_within w h = within binary32 0x3f80_0000 (atan_norm_word ieee w) (lit< tt) (answer_size w h)

pub atan_odd : (w : ℕ) → Under64 w → OddAt binary32 (atan_word ieee) w
atan_odd w h = radians_odd w h

pub atan_within : (w : ℕ) → Under64 w → WithinQuarter (atan_word ieee w)
atan_within w h = within binary32 0x3fc9_0fdb (atan_word ieee w) (lit< tt) (radians_size w h)

-- ---- known words

-- the zeros, and the ends, which are reached: by the largest number below 2 ^ 64 and by smaller ones
pub atan_norm_ends : map (atan_norm_word ieee) (0x0000_0000 ∷ 0x8000_0000 ∷ 0x5f7f_ffff ∷ 0xdf7f_ffff ∷ []) ≡ 0x0000_0000 ∷ 0x8000_0000 ∷ 0x3f80_0000 ∷ 0xbf80_0000 ∷ []
unfolding atan_norm_word nan_bits of_bits to_bits add mul div
atan_norm_ends = refl

pub atan_ends : map (atan_word ieee) (0x0000_0000 ∷ 0x8000_0000 ∷ 0x5f7f_ffff ∷ 0xdf7f_ffff ∷ []) ≡ 0x0000_0000 ∷ 0x8000_0000 ∷ 0x3fc9_0fdb ∷ 0xbfc9_0fdb ∷ []
unfolding atan_word atan_norm_word nan_bits of_bits to_bits add mul div
atan_ends = refl

-- at 2 ^ 64, of either sign, both are the NaN, and not odd
pub past_the_end : (map (atan_norm_word ieee) (0x5f80_0000 ∷ 0xdf80_0000 ∷ []) ≡ 0x7fc0_0000 ∷ 0x7fc0_0000 ∷ [])
    × (map (atan_word ieee) (0x5f80_0000 ∷ 0xdf80_0000 ∷ []) ≡ 0x7fc0_0000 ∷ 0x7fc0_0000 ∷ [])
unfolding atan_word atan_norm_word nan_bits of_bits to_bits add mul div
past_the_end = (refl, refl)

pub not_odd_past : (OddAt binary32 (atan_norm_word ieee) 0x5f80_0000 → ⊥) × (OddAt binary32 (atan_word ieee) 0x5f80_0000 → ⊥)
unfolding atan_word atan_norm_word nan_bits of_bits to_bits add mul div
not_odd_past = (eqb-false _ _ refl, eqb-false _ _ refl)
