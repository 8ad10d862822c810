-- Which value of `lib.Ieee` a word of each class is: a NaN, an infinity, or a number with the word's sign and units. Assumes nothing.
use Prim.Native.Nat.{ℕ, ◌+◌, ◌/◌, ◌%◌, ◌≤◌, ◌<◌, zero-le}
use native.Mathlib.Nat.{lt_irrefl, mul-div_cancel, div-lt_iff_lt-mul, not-le_of_lt, lt_of_not-le, zero-div, zero-mod}
use native.Mathlib.Omega.{arith}
use mathlib.Core.Path.{◌≡◌, refl, sym, ap, subst, ◌∙◌}
use mathlib.Core.Bool.{Bool, true, false}
use borrow.Author.Tests.{le-ltb, ltb-false, eqb-true, eqb-false, ne_eqb}
use lib.Arith.{lt_of_le-ne}
use lib.Dec.{eqb, lit<}
use lib.Ieee.{Format, Float, inf, fin, binary32, binary64, hid, ones, top, nan_bits, of_bits, to_bits}
use lib.Ieee.Bits.{nan_bits_above}
use lib.IntN.{pos}
use Rattle.format.specs.Fields.{negative, magnitude, fraction, sign_bit, inf_word}
use Rattle.format.specs.Value.{units_at, units, Finite}
use Rattle.format.proofs.AtLeastZero.{inf_pos}
use Rattle.format.proofs.Fields.{hid_pos, low_of_magnitude}
use Rattle.format.proofs.Nan.{inf_read}
use Rattle.format.proofs.Larger.{magnitude_mono}
use Rattle.soft.specs.Operations.{Nan, Infinite, Zero, NonZero}

module _ (f : Format) (w : ℕ) where
  pub inf_number : Infinite f w → nan_bits f w ≡ false
  inf_number e = nan_bits_above f w ∙ le-ltb (inf_word f) (magnitude f w) (rw e (omega arith))

  pub inf_is : Infinite f w → of_bits f w ≡ inf (negative f w)
  inf_is e = inf_read f w (ap (λ (m : ℕ). m / hid f) e ∙ mul-div_cancel (ones f) (hid_pos f)) (inf_number e)

  pub finite_else : nan_bits f w ≡ false → (Infinite f w → ⊥) → Finite f w
  finite_else n i = (div-lt_iff_lt-mul (hid_pos f)).1 (lt_of_le-ne (ltb-false (inf_word f) (magnitude f w) (sym (nan_bits_above f w) ∙ n)) i)

  pub zero_units : Zero f w → units f w ≡ 0
  zero_units e = ap (λ (m : ℕ). units_at f (m / hid f) (fraction f w)) e ∙ ap (λ (x : ℕ). units_at f x (fraction f w)) (zero-div (hid f)) ∙ sym (low_of_magnitude f w) ∙ ap (λ (m : ℕ). m % hid f) e ∙ zero-mod (hid f)

  pub zero_finite : Zero f w → Finite f w
  zero_finite e = subst (λ (m : ℕ). m / hid f < ones f) (sym e) (some f)
    where
      some : (f : Format) → 0 / hid f < ones f
      some binary32 = lit< tt
      some binary64 = lit< tt

  pub units_pos : 0 < magnitude f w → 0 < units f w
  units_pos h = lt_of_not-le (λ (g : units f w ≤ 0). not-le_of_lt h (subst (λ (m : ℕ). magnitude f w ≤ m) (zero-mod (top f)) (magnitude_mono f w 0 (none g))))
    where
      none : units f w ≤ 0 → units f w ≤ units f 0
      none g = omega (arith, g)

pub inf_written : (f : Format) (s : Bool) → to_bits f (inf s) ≡ sign_bit f s + inf_word f
unfolding to_bits
inf_written f s = refl

pub zero_written : (f : Format) (s : Bool) → to_bits f (fin s 0 (pos 0)) ≡ sign_bit f s
unfolding to_bits
zero_written binary32 true = refl
zero_written binary32 false = refl
zero_written binary64 true = refl
zero_written binary64 false = refl

-- every word is of one class
pub data Class (f : Format) (w : ℕ) : Type 0 where
  a_nan : Nan f w → Class f w
  an_inf : Infinite f w → Class f w
  a_number : Finite f w → Class f w

pub class_of : (f : Format) (w : ℕ) → Class f w
class_of f w = by_nan (nan_bits f w) refl
  where
    by_inf : nan_bits f w ≡ false → (b : Bool) → eqb (magnitude f w) (inf_word f) ≡ b → Class f w
    by_inf n true e = an_inf (eqb-true (magnitude f w) (inf_word f) e)
    by_inf n false e = a_number (finite_else f w n (eqb-false (magnitude f w) (inf_word f) e))

    by_nan : (b : Bool) → nan_bits f w ≡ b → Class f w
    by_nan true n = a_nan n
    by_nan false n = by_inf n (eqb (magnitude f w) (inf_word f)) refl

-- an infinity is neither a NaN nor a zero
pub inf_nonzero : (f : Format) (w : ℕ) → Infinite f w → NonZero f w
inf_nonzero f w i = (rw i (inf_pos f), inf_number f w i)

pub nonzero : (f : Format) (w : ℕ) → (magnitude f w ≡ 0 → ⊥) → nan_bits f w ≡ false → NonZero f w
nonzero f w n e = (lt_of_le-ne zero-le (λ (z : 0 ≡ magnitude f w). n (sym z)), e)

pub below_infinite : (f : Format) (w : ℕ) → Finite f w → magnitude f w < inf_word f
below_infinite f w h = (div-lt_iff_lt-mul (hid_pos f)).0 h

pub not_zero : (f : Format) (w : ℕ) → 0 < magnitude f w → eqb (units f w) 0 ≡ false
not_zero f w p = ne_eqb (units f w) 0 (λ (e : units f w ≡ 0). lt_irrefl 0 (subst (λ (z : ℕ). 0 < z) e (units_pos f w p)))

-- an operation of two words by what they are
pub operated : (f : Format) (op : Float → Float → Float) (a b : ℕ) (x y z : Float) → of_bits f a ≡ x → of_bits f b ≡ y → op x y ≡ z → to_bits f (op (of_bits f a) (of_bits f b)) ≡ to_bits f z
operated f op a b x y z p q e = ap (to_bits f) (ap (λ (w : Float). op w (of_bits f b)) p ∙ ap (op x) q ∙ e)

-- ---- as the code tests them

pub infinite_so : (f : Format) (w : ℕ) → true ≡ eqb (magnitude f w) (inf_word f) → Infinite f w
infinite_so f w e = eqb-true (magnitude f w) (inf_word f) (sym e)

pub finite_so : (f : Format) (w : ℕ) → false ≡ nan_bits f w → false ≡ eqb (magnitude f w) (inf_word f) → Finite f w
finite_so f w n e = finite_else f w (sym n) (eqb-false (magnitude f w) (inf_word f) (sym e))

pub zero_so : (f : Format) (w : ℕ) → true ≡ eqb (magnitude f w) 0 → Zero f w
zero_so f w e = eqb-true (magnitude f w) 0 (sym e)

pub nonzero_so : (f : Format) (w : ℕ) → false ≡ nan_bits f w → false ≡ eqb (magnitude f w) 0 → NonZero f w
nonzero_so f w n e = nonzero f w (eqb-false (magnitude f w) 0 (sym e)) (sym n)
