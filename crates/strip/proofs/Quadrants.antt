-- atan2 of two words by their sizes and their signs: its quotient is that of the sizes, a NaN is handed on to the answer, and after a quotient
-- that is none no step meets one. Assumes nothing.
use Prim.Native.Nat.{ℕ, ◌-◌, ◌/◌, ◌^◌, ◌≤◌, ◌<◌}
use native.Mathlib.Omega.{arith}
use mathlib.Core.Path.{◌≡◌, refl, sym, ap, subst, ◌∙◌}
use mathlib.Core.Bool.{Bool, true, false, not, cond, ◌||◌}
use lib.Dec.{T}
use lib.IntN.{pos}
use lib.Bits.{bit_and, bit_or, bit_xor}
use lib.Ieee.{Float, nan, inf, fin, binary32, unlike, neg, add, sub, mul, div, lt, ne, is_nan, fits, nan_bits, of_bits, to_bits, of_int, in_float}
use lib.Ieee.Compare.{differs_from_itself}
use lib.Ieee.Fits.{add-fits, mul-fits, div-fits}
use Rattle.format.specs.Fields.{negative, magnitude}
use Rattle.format.specs.Sign.{with_sign}
use Rattle.format.proofs.Exact.{less_zero}
use Rattle.format.proofs.Nan.{nan_read, finite_number}
use Rattle.format.proofs.Sign.{abs_is}
use Rattle.float.specs.Engine.{ieee, abs_of}
use Rattle.float.specs.Atan.{sign_or, quotient}
use Rattle.float.specs.Atan2.{offset, ratio, quarters, within_half, atan2_word}
use Rattle.float.proofs.Signs.{signs_or, offset_is}
use Rattle.sizes.proofs.Sign.{product_size, square_size}
use Rattle.sizes.proofs.Words.{abs_value, number_word}
use Rattle.sizes.proofs.Numbers.{add_number_left}
use Rattle.sizes.proofs.Quotient.{sign_or_number, read_number, half_turns}
use Rattle.sizes.proofs.Atan2.{offset_finite, within_number, ratio_number}
use Rattle.strip.specs.Reach.{AngleReach}
use Rattle.strip.specs.Steps.{in_radians, whole_turn, quadrant_word}
use Rattle.strip.proofs.Sized.{bend, bent_size, times_nan, and_nan}

-- ---- the quotient

middle_size : (y x : Float) → abs_of ieee (mul binary32 (mul binary32 bend x) y) ≡ mul binary32 (mul binary32 bend (with_sign false x)) (with_sign false y)
middle_size y x =
    abs_value binary32 _ (mul-fits binary32 _ _)
    ∙ product_size binary32 (mul binary32 bend x) y
    ∙ ap (λ (b : Float). mul binary32 b (with_sign false y)) (bent_size x)

-- of two words' sizes
pub sized_ratio : (w v : ℕ) {m k : ℕ} → m ≡ magnitude binary32 w → k ≡ magnitude binary32 v
    → let y = of_bits binary32 m in let x = of_bits binary32 k in
    quotient ieee (mul binary32 x x) (mul binary32 (mul binary32 bend x) y) (mul binary32 y y) ≡ ratio (of_bits binary32 w) (of_bits binary32 v)
sized_ratio w v p q =
    let y = of_bits binary32 w in
    let x = of_bits binary32 v in
    cc (p, q, (abs_is binary32 w).value, (abs_is binary32 v).value, middle_size y x, square_size binary32 y, square_size binary32 x)

-- ---- a NaN

height_nan : (x : Float) → ratio nan x ≡ nan
unfolding add div of_bits to_bits
height_nan x = rw (times_nan binary32 (mul binary32 bend x))

across_nan : (y : Float) → ratio y nan ≡ nan
unfolding add mul div of_bits to_bits
across_nan y = refl

zeros_nan : ratio (of_bits binary32 0) (of_bits binary32 0) ≡ nan
unfolding add mul div of_bits to_bits
zeros_nan = refl

-- the quotient of zeros in the place of two words of which one is a NaN is theirs
pub read_ratio : (w v : ℕ) → let t = nan_bits binary32 w || nan_bits binary32 v in ratio (of_bits binary32 (cond t 0 w)) (of_bits binary32 (cond t 0 v)) ≡ ratio (of_bits binary32 w) (of_bits binary32 v)
read_ratio w v = go (nan_bits binary32 w) (nan_bits binary32 v) refl refl
  where
    go : (s t : Bool) → nan_bits binary32 w ≡ s → nan_bits binary32 v ≡ t → ratio (of_bits binary32 (cond (s || t) 0 w)) (of_bits binary32 (cond (s || t) 0 v)) ≡ ratio (of_bits binary32 w) (of_bits binary32 v)
    go true t p q = zeros_nan ∙ sym (ap (λ (y : Float). ratio y (of_bits binary32 v)) (nan_read binary32 w p) ∙ height_nan (of_bits binary32 v))
    go false true p q = zeros_nan ∙ sym (ap (ratio (of_bits binary32 w)) (nan_read binary32 v q) ∙ across_nan (of_bits binary32 w))
    go false false p q = refl

-- ---- the steps after the quotient

less_none : (x : Float) → T (fits binary32 x) → sub binary32 x (of_bits binary32 0) ≡ x
unfolding of_bits sub neg add
less_none nan h = refl
less_none (inf s) h = refl
less_none (fin s m e) h = less_zero binary32 s m e h

turn_off : (q : Float) → T (fits binary32 q) → sub binary32 q (whole_turn q) ≡ within_half q
turn_off q h = go (lt (of_bits binary32 0x4000_0000) q)
  where
    go : (b : Bool) → sub binary32 q (cond b (of_bits binary32 0x4080_0000) (of_bits binary32 0)) ≡ cond b (sub binary32 q (of_bits binary32 0x4080_0000)) q
    go true = refl
    go false = less_none q h

offset_exact : (y x : ℕ) → T (in_float binary32 (pos (offset y x)))
unfolding in_float
offset_exact y x = go (negative binary32 x) (negative binary32 y)
  where
    go : (s t : Bool) → T (in_float binary32 (pos (cond s 2 (cond t 4 0))))
    go true t = tt
    go false true = tt
    go false false = tt

-- whether the quotient counts backward
abbrev backward : ℕ → ℕ → Bool
backward y x = unlike (negative binary32 x) (negative binary32 y)

-- from what the code makes of the two signs: the offset, and the quotient's word with its sign
module _ (y x q : ℕ) (yl : y < 2 ^ 32) (xl : x < 2 ^ 32) (ql : q < 2 ^ 32) (n : nan_bits binary32 q ≡ false) where
  abbrev from : ℕ
  from = bit_or (bit_and (0xffff_ffff - bit_and x 0x8000_0000) (bit_and y 0x8000_0000) / 2 ^ 29) (bit_and x 0x8000_0000 / 2 ^ 30)

  abbrev signed : ℕ
  signed = bit_or (bit_xor (bit_and x 0x8000_0000) (bit_and y 0x8000_0000)) q

  abbrev coded : Float
  coded = add binary32 (of_int binary32 (pos from)) (of_bits binary32 signed)

  abbrev defined : Float
  defined = add binary32 (of_int binary32 (pos (offset y x))) (of_bits binary32 (sign_or (backward y x) q))

  pub from_exact : T (in_float binary32 (pos from))
  from_exact = rw (offset_is y x yl xl) (offset_exact y x)

  pub signed_number : T (not (nan_bits binary32 signed))
  signed_number = rw (signs_or y x yl xl q ql, sign_or_number (backward y x) q n) tt

  within_is : {t : Float} → t ≡ whole_turn coded → sub binary32 coded t ≡ within_half defined
  within_is e = ap (sub binary32 coded) e ∙ turn_off coded (add-fits binary32 _ _) ∙ ap within_half (cc (offset_is y x yl xl, signs_or y x yl xl q ql))

  pub angle_number : {t : Float} → t ≡ whole_turn coded → T (not (is_nan (mul binary32 (of_bits binary32 0x3fc9_0fdb) (sub binary32 coded t))))
  angle_number e =
      rw (within_is e, half_turns _ (within_number defined (add_number_left binary32 _ _ (offset_finite y x) (read_number _ (sign_or_number (backward y x) q n))))) tt

  pub angle_is : {t : Float} → t ≡ whole_turn coded → in_radians (sub binary32 coded t) ≡ quadrant_word y x q
  angle_is e = ap (λ (v : Float). in_radians v) (within_is e)

-- ---- the answer

signed_nan : (s : Bool) → of_bits binary32 (sign_or s (to_bits binary32 nan)) ≡ nan
unfolding of_bits to_bits
signed_nan true = refl
signed_nan false = refl

after_nan : in_radians (within_half nan) ≡ 0x7fc0_0000
unfolding mul lt of_bits to_bits
after_nan = refl

turned_nan : (y x : ℕ) → quadrant_word y x (to_bits binary32 nan) ≡ 0x7fc0_0000
turned_nan y x = ap (λ (v : Float). in_radians (within_half v)) (ap (add binary32 _) (signed_nan (backward y x)) ∙ and_nan binary32 _) ∙ after_nan

module _ (y x : ℕ) {q : Float} (e : q ≡ ratio (of_bits binary32 y) (of_bits binary32 x)) where
  pub turned_is : quadrant_word y x (to_bits binary32 q) ≡ atan2_word y x
  unfolding atan2_word quarters
  turned_is = ap (λ (v : Float). quadrant_word y x (to_bits binary32 v)) e

  pub ratio_fits : T (fits binary32 q)
  ratio_fits = rw e (div-fits binary32 _ _)

pub answered : (y x : ℕ) {q : Float} → q ≡ ratio (of_bits binary32 y) (of_bits binary32 x) → cond (ne q q) 0x7fc0_0000 (quadrant_word y x (cond (ne q q) 0 (to_bits binary32 q))) ≡ atan2_word y x
answered y x {q} e = go (ne q q) refl
  where
    go : (b : Bool) → ne q q ≡ b → cond b 0x7fc0_0000 (quadrant_word y x (cond b 0 (to_bits binary32 q))) ≡ atan2_word y x
    go true d = sym (turned_nan y x) ∙ turned_is y x (sym (differs_from_itself q (subst T (sym d) tt)) ∙ e)
    go false d = turned_is y x e

-- ---- within the gate

module _ (y x : ℕ) (h : AngleReach y x) where
  within : (w : ℕ) → magnitude binary32 w ≤ 0x5e80_0000 → nan_bits binary32 w ≡ false
  within w l = finite_number binary32 w (omega arith)

  pub gate_words : (nan_bits binary32 y ≡ false) × (nan_bits binary32 x ≡ false)
  gate_words = (within y h.height, within x h.across)

  pub gate_ratio : is_nan (ratio (of_bits binary32 y) (of_bits binary32 x)) ≡ false
  gate_ratio = ratio_number y x h.height h.across h.either

  pub gate_word : nan_bits binary32 (to_bits binary32 (ratio (of_bits binary32 y) (of_bits binary32 x))) ≡ false
  gate_word = number_word binary32 _ (div-fits binary32 _ _) gate_ratio
