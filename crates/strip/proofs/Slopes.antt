-- The arctangent of a word by its size and its sign: the quotient is that of the size, a NaN is handed on to the answer, and after a quotient
-- that is none no step meets one. Assumes nothing.
use Prim.Native.Nat.{ℕ, ◌^◌, ◌<◌}
use native.Mathlib.Omega.{arith}
use mathlib.Core.Path.{◌≡◌, refl, sym, ap, subst, ◌∙◌}
use mathlib.Core.Bool.{Bool, true, false, not, cond, ◌||◌}
use lib.Dec.{T}
use lib.Bits.{bit_and, bit_or}
use lib.Ieee.{Float, nan, binary32, add, mul, div, ne, is_nan, fits, nan_bits, of_bits, to_bits}
use lib.Ieee.Compare.{differs_from_itself}
use lib.Ieee.Fits.{mul-fits, div-fits}
use Rattle.format.specs.Fields.{negative, magnitude}
use Rattle.format.proofs.Nan.{nan_read, finite_number}
use Rattle.format.proofs.Sign.{abs_is}
use Rattle.float.specs.Engine.{ieee}
use Rattle.float.specs.Atan.{sign_or, signed_answer, quotient, first_quadrant, atan_norm_word, atan_word}
use Rattle.float.proofs.Signs.{or_answered}
use Rattle.sizes.proofs.Sign.{square_size}
use Rattle.sizes.proofs.Words.{abs_value, at_most_number, number_word}
use Rattle.sizes.proofs.Quotient.{sign_or_number, read_number, half_turns}
use Rattle.sizes.proofs.Atan.{quotient_at_most}
use Rattle.strip.specs.Steps.{in_radians, signed_word}
use Rattle.strip.proofs.Sized.{bend, bent_size, is_itself}

-- ---- the quotient

-- of a word's size
pub sized_slope : (w : ℕ) {m : ℕ} → m ≡ magnitude binary32 w
    → let x = of_bits binary32 m in quotient ieee (of_bits binary32 0x3f80_0000) (mul binary32 bend x) (mul binary32 x x) ≡ first_quadrant ieee (of_bits binary32 w)
sized_slope w p =
    let x = of_bits binary32 w in
    cc (p, (abs_is binary32 w).value, abs_value binary32 (mul binary32 bend x) (mul-fits binary32 _ _), bent_size x, square_size binary32 x)

quadrant_nan : first_quadrant ieee nan ≡ nan
unfolding add mul div of_bits to_bits
quadrant_nan = refl

pub slope_fits : (w : ℕ) {q : Float} → q ≡ first_quadrant ieee (of_bits binary32 w) → T (fits binary32 q)
slope_fits w e = rw e (div-fits binary32 _ _)

-- ---- the steps after it

module _ (w q : ℕ) (wl : w < 2 ^ 32) (ql : q < 2 ^ 32) (n : nan_bits binary32 q ≡ false) where
  abbrev signed : ℕ
  signed = bit_or (bit_and w 0x8000_0000) q

  signed_is : signed ≡ sign_or (negative binary32 w) q
  signed_is = or_answered w q wl ql n ∙ rw n

  pub signed_number : T (not (nan_bits binary32 signed))
  signed_number = rw (signed_is, sign_or_number (negative binary32 w) q n) tt

  pub angle_number : T (not (is_nan (mul binary32 (of_bits binary32 0x3fc9_0fdb) (of_bits binary32 signed))))
  angle_number = rw (signed_is, half_turns _ (read_number _ (sign_or_number (negative binary32 w) q n))) tt

  pub angle_is : in_radians (of_bits binary32 signed) ≡ signed_word w q
  angle_is = ap (λ (r : ℕ). in_radians (of_bits binary32 r)) signed_is

-- ---- the answer

abbrev answer_of : Bool → Float → ℕ
answer_of s q = in_radians (of_bits binary32 (signed_answer s (to_bits binary32 q)))

answer_nan : (s : Bool) → answer_of s nan ≡ 0x7fc0_0000
unfolding mul of_bits to_bits nan_bits
answer_nan s = refl

module _ (w : ℕ) {q : Float} (e : q ≡ first_quadrant ieee (of_bits binary32 w)) where
  answer_is : answer_of (negative binary32 w) q ≡ atan_word ieee w
  unfolding atan_word atan_norm_word
  answer_is = ap (answer_of (negative binary32 w)) e

  pub of_number : nan_bits binary32 (to_bits binary32 q) ≡ false → signed_word w (to_bits binary32 q) ≡ atan_word ieee w
  of_number n = ap (λ (b : Bool). in_radians (of_bits binary32 (cond b 0x7fc0_0000 (sign_or (negative binary32 w) (to_bits binary32 q))))) (sym n) ∙ answer_is

  of_nan : q ≡ nan → 0x7fc0_0000 ≡ atan_word ieee w
  of_nan d = sym (answer_nan (negative binary32 w)) ∙ ap (answer_of (negative binary32 w)) (sym d) ∙ answer_is

pub answered : (w : ℕ) {q : Float} → q ≡ first_quadrant ieee (of_bits binary32 (cond (nan_bits binary32 w) 0 w))
    → cond (nan_bits binary32 w || ne q q) 0x7fc0_0000 (signed_word w (cond (ne q q) 0 (to_bits binary32 q))) ≡ atan_word ieee w
answered w {q} e = go (nan_bits binary32 w) refl e
  where
    of_quotient : q ≡ first_quadrant ieee (of_bits binary32 w) → (b : Bool) → ne q q ≡ b → cond b 0x7fc0_0000 (signed_word w (cond b 0 (to_bits binary32 q))) ≡ atan_word ieee w
    of_quotient i true d = of_nan w i (differs_from_itself q (subst T (sym d) tt))
    of_quotient i false d = of_number w i (number_word binary32 q (slope_fits w i) (is_itself q d))

    go : (s : Bool) → nan_bits binary32 w ≡ s → q ≡ first_quadrant ieee (of_bits binary32 (cond s 0 w))
        → cond (s || ne q q) 0x7fc0_0000 (signed_word w (cond (ne q q) 0 (to_bits binary32 q))) ≡ atan_word ieee w
    go true p i = of_nan w refl (ap (first_quadrant ieee) (nan_read binary32 w p) ∙ quadrant_nan)
    go false p i = of_quotient i (ne q q) refl

-- ---- within the gate

module _ (w : ℕ) (h : magnitude binary32 w < 0x5f80_0000) where
  pub gate_number : nan_bits binary32 w ≡ false
  gate_number = finite_number binary32 w (omega arith)

  pub gate_slope : is_nan (first_quadrant ieee (of_bits binary32 w)) ≡ false
  gate_slope = at_most_number (quotient_at_most w h)

  pub gate_word : nan_bits binary32 (to_bits binary32 (first_quadrant ieee (of_bits binary32 w))) ≡ false
  gate_word = number_word binary32 _ (div-fits binary32 _ _) gate_slope
