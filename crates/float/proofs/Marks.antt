-- A mark tells the truth of the word that was cast and of its integer, and no other mark does; what raw floor and ceil give by their marks:
-- where nothing was clipped, the floor and the ceil. The mark by the fields of a word, as the code finds it. Assumes nothing.
use Rattle.std.proofs.Common.{◌≡◌, ℕ, ◌<◌, ◌≤◌, Bool, true, false, cond, ◌&&◌, ◌||◌, eqb, leb, ℤ, sym, refl, ap, ◌∙◌, subst, arith, leb-false, leb-true}
use lib.Ieee.{binary32, of_bits, nan_bits, to_signed}
use Rattle.format.specs.Fields.{negative, magnitude, exponent}
use Rattle.format.specs.Sign.{turned_word}
use Rattle.format.specs.Exponent.{is_integer_word}
use Rattle.format.specs.Cast.{is_whole, is_past, IsClipped}
use Rattle.format.specs.Whole.{floor_word, ceil_word}
use Rattle.format.specs.Meaning.{To31, IsFloor, IsCeil}
use Rattle.format.proofs.Nan.{finite_number}
use Rattle.format.proofs.Sign.{turned_magnitude}
use Rattle.format.proofs.FloorMeaning.{floor_is, ceil_by_floor, ceil_is}
use Rattle.format.proofs.Clipped.{floor_of_clipped, floor_of_nothing}
use Rattle.format.proofs.CastMeaning.{whole_is, within_range, past_high, past_low, nothing_told, clipped_told, kept_told, cut_told, kept_within, kept_whole, cut_within, cut_part, clipped_past}
use Rattle.float.specs.declared.mark.Mark.{Mark}
use Rattle.float.specs.declared.mark.Mark.TheVariants.{Exact, Dropped, High, Low, NotANumber}
use Rattle.float.specs.Marks.{mark_of, number_of, Tells}

-- ---- what a mark tells

sided : (s : Bool) (w : ℕ) (z : ℤ) → IsClipped binary32 31 s w z → Tells (cond s Low High) w z
sided true w z c = c
sided false w z c = c

pub tells : (w : ℕ) → Tells (mark_of w) w (to_signed 31 (of_bits binary32 w))
tells w = go (nan_bits binary32 w) (is_past binary32 31 w) (is_whole binary32 w) refl refl refl
  where
    go : (n p i : Bool) → nan_bits binary32 w ≡ n → is_past binary32 31 w ≡ p → is_whole binary32 w ≡ i
        → Tells (cond n NotANumber (cond p (cond (negative binary32 w) Low High) (cond i Exact Dropped))) w (to_signed 31 (of_bits binary32 w))
    go true p i a b c = nothing_told binary32 31 w a
    go false true i a b c = sided (negative binary32 w) w _ (clipped_told binary32 31 w a b)
    go false false true a b c = kept_told binary32 31 w b c
    go false false false a b c = cut_told binary32 31 w b c

-- so of an integer and a mark that are the cast's
pub told : (w : ℕ) {z : ℤ} {m : Mark} → z ≡ to_signed 31 (of_bits binary32 w) → m ≡ mark_of w → Tells m w z
told w {z} e d = subst (λ (n : Mark). Tells n w z) (sym d) (subst (λ (y : ℤ). Tells (mark_of w) w y) (sym e) (tells w))

-- no other mark does
pub one_mark : (m : Mark) (w : ℕ) → Tells m w (to_signed 31 (of_bits binary32 w)) → m ≡ mark_of w
one_mark Exact w c = sym (rw (finite_number binary32 w c.finite, kept_within binary32 31 w c, kept_whole binary32 w c))
one_mark Dropped w c = sym (rw (finite_number binary32 w c.finite, cut_within binary32 31 w c, cut_part binary32 w c))
one_mark High w c = sym (rw (c.number, clipped_past binary32 31 w c, c.side))
one_mark Low w c = sym (rw (c.number, clipped_past binary32 31 w c, c.side))
one_mark NotANumber w c = sym (rw c.nan)

-- ---- the mark by the fields

pub mark_nan : (w : ℕ) → nan_bits binary32 w ≡ true → mark_of w ≡ NotANumber
mark_nan w e = rw e

module _ (w : ℕ) (n : nan_bits binary32 w ≡ false) where
  -- by what the code's tests of a whole number read
  pub mark_within : {x z : ℕ} {i : Bool} {m : Mark} → x ≡ exponent binary32 w → i ≡ is_integer_word binary32 w → z ≡ magnitude binary32 w
      → x < 158 → m ≡ cond ((leb 127 x && i) || eqb z 0) Exact Dropped → m ≡ mark_of w
  mark_within ex ei ez h e =
      let l : exponent binary32 w < 158 = rw ex at h in
      (rw (ex, ei, ez) at e) ∙ ap (λ (b : Bool). cond b Exact Dropped) (sym (whole_is binary32 w (omega arith))) ∙ sym (rw (n, within_range w (omega arith)))

  pub mark_high : 158 ≤ exponent binary32 w → negative binary32 w ≡ false → mark_of w ≡ High
  mark_high h s = rw (n, past_high w h s, s)

  pub mark_low : 158 ≤ exponent binary32 w → negative binary32 w ≡ true → (magnitude binary32 w ≡ 0x4f00_0000 → ⊥) → mark_of w ≡ Low
  mark_low h s d = rw (n, past_low w h s d, s)

-- ---- where nothing was clipped, marked 0 or 1, floor and ceil have their meaning

clear_to31 : (w : ℕ) → number_of (mark_of w) ≤ 1 → To31 w
clear_to31 w h = go (leb (magnitude binary32 w) 0x4f00_0000) refl
  where
    not_clear : {m : Mark} → mark_of w ≡ m → (number_of m ≤ 1 → ⊥) → To31 w
    not_clear e n = absurd (n (subst (λ (m : Mark). number_of m ≤ 1) e h))

    go : (b : Bool) → leb (magnitude binary32 w) 0x4f00_0000 ≡ b → To31 w
    go true e = leb-true _ _ e
    go false e = by_class (nan_bits binary32 w) (negative binary32 w) refl refl
      where
        k : 0x4f00_0000 < magnitude binary32 w
        k = leb-false (magnitude binary32 w) 0x4f00_0000 e

        by_class : (n s : Bool) → nan_bits binary32 w ≡ n → negative binary32 w ≡ s → To31 w
        by_class true s a b = not_clear (mark_nan w a) (λ z. omega arith)
        by_class false true a b = not_clear (mark_low w a (omega (arith, k)) b (λ z. omega (arith, k))) (λ z. omega arith)
        by_class false false a b = not_clear (mark_high w a (omega (arith, k)) b) (λ z. omega arith)

pub clear_floor : (w : ℕ) → number_of (mark_of w) ≤ 1 → IsFloor binary32 w (floor_word binary32 w)
clear_floor w h = floor_is w (clear_to31 w h)

pub clear_ceil : (w : ℕ) → number_of (mark_of (turned_word binary32 w)) ≤ 1 → IsCeil binary32 w (ceil_word binary32 w)
clear_ceil w h = ceil_is w (rw (turned_magnitude binary32 w) at (clear_to31 (turned_word binary32 w) h))

-- ---- and elsewhere they give the end of the range, or a zero

told_of : (w : ℕ) {m : Mark} → mark_of w ≡ m → Tells m w (to_signed 31 (of_bits binary32 w))
told_of w e = subst (λ (m : Mark). Tells m w (to_signed 31 (of_bits binary32 w))) e (tells w)

module _ (w : ℕ) where
  pub floor_high : mark_of w ≡ High → floor_word binary32 w ≡ 0x4f00_0000
  floor_high e = floor_of_clipped false w (told_of w e)

  pub floor_low : mark_of w ≡ Low → floor_word binary32 w ≡ 0xcf00_0000
  floor_low e = floor_of_clipped true w (told_of w e)

  pub floor_nan : mark_of w ≡ NotANumber → floor_word binary32 w ≡ 0x0000_0000
  floor_nan e = floor_of_nothing w (told_of w e)

module _ (w : ℕ) where
  pub ceil_high : mark_of (turned_word binary32 w) ≡ High → ceil_word binary32 w ≡ 0xcf00_0000
  ceil_high e = ceil_by_floor binary32 w ∙ ap (turned_word binary32) (floor_high (turned_word binary32 w) e)

  pub ceil_low : mark_of (turned_word binary32 w) ≡ Low → ceil_word binary32 w ≡ 0x4f00_0000
  ceil_low e = ceil_by_floor binary32 w ∙ ap (turned_word binary32) (floor_low (turned_word binary32 w) e)

  pub ceil_nan : mark_of (turned_word binary32 w) ≡ NotANumber → ceil_word binary32 w ≡ 0x8000_0000
  ceil_nan e = ceil_by_floor binary32 w ∙ ap (turned_word binary32) (floor_nan (turned_word binary32 w) e)
