-- A word and its fields: put together from a sign and a magnitude, or from all three, a word has just those, and it is made of its own.
-- Assumes nothing.
use Prim.Native.Nat.{ℕ, suc, ◌+◌, ◌-◌, ◌*◌, ◌/◌, ◌%◌, ◌<◌, ◌≤◌}
use native.Mathlib.Nat.{mod-lt, mod-eq_of_lt, mod-eq-sub-mod, mul-pos, mul_comm, zero-lt-suc, mod-mod_of_dvd, dvd-mul_right, div-add-mod', div-lt_iff_lt-mul, zero-add, add-mod_left, le-add_right}
use native.Mathlib.Omega.{arith}
use mathlib.Core.Path.{◌≡◌, refl, ap, sym, subst, ◌∙◌}
use mathlib.Core.Bool.{Bool, true, false}
use borrow.Author.Tests.{leb-true, leb-false, le-leb, lt-leb}
use lib.Arith.{digits_lt, digits_div, digits_mod}
use lib.Pow.{pow_pos}
use lib.Ieee.{Format, prec, hid, ones, top}
use Rattle.format.specs.Fields.{negative, magnitude, exponent, fraction, sign_bit}

pub hid_pos : (f : Format) → 0 < hid f
hid_pos f = pow_pos (prec f - 1)

pub top_pos : (f : Format) → 0 < top f
top_pos f = mul-pos (hid_pos f) (zero-lt-suc (ones f))

pub magnitude_lt : (f : Format) (w : ℕ) → magnitude f w < top f
magnitude_lt f w = mod-lt w (top_pos f)

-- the fraction is the magnitude's
pub low_of_magnitude : (f : Format) (w : ℕ) → magnitude f w % hid f ≡ fraction f w
low_of_magnitude f w = mod-mod_of_dvd (hid f) w (dvd-mul_right (hid f) (suc (ones f)))

module _ (f : Format) (m : ℕ) (m_lt : m < top f) where
  pub sign_of : (s : Bool) → negative f (sign_bit f s + m) ≡ s
  sign_of true = le-leb (top f) (top f + m) (le-add_right (top f) m)
  sign_of false = lt-leb (top f) (0 + m) (rw zero-add m_lt)

  pub magnitude_of : (s : Bool) → magnitude f (sign_bit f s + m) ≡ m
  magnitude_of true = add-mod_left (top f) m ∙ mod-eq_of_lt m_lt
  magnitude_of false = ap (magnitude f) (zero-add m) ∙ mod-eq_of_lt m_lt

  pub exponent_of : (s : Bool) → exponent f (sign_bit f s + m) ≡ m / hid f
  exponent_of s = ap (λ (x : ℕ). x / hid f) (magnitude_of s)

  pub fraction_of : (s : Bool) → fraction f (sign_bit f s + m) ≡ m % hid f
  fraction_of s = sym (low_of_magnitude f (sign_bit f s + m)) ∙ ap (λ (x : ℕ). x % hid f) (magnitude_of s)

-- ---- a word by its three fields

pub record Made (f : Format) (s : Bool) (x t r : ℕ) : Type 0 where
  pub sign : negative f r ≡ s
  pub field : exponent f r ≡ x
  pub digits : fraction f r ≡ t

in_top : (f : Format) (x t : ℕ) → x < suc (ones f) → t < hid f → x * hid f + t < top f
in_top f x t h k = subst (λ (n : ℕ). x * hid f + t < n) (mul_comm (suc (ones f)) (hid f)) (digits_lt h k)

pub made : (f : Format) (s : Bool) (x t : ℕ) → x < suc (ones f) → t < hid f → Made f s x t (sign_bit f s + (x * hid f + t))
made f s x t h k =
    let m_lt = in_top f x t h k in
    record {
      sign = sign_of f (x * hid f + t) m_lt s;
      field = exponent_of f (x * hid f + t) m_lt s ∙ digits_div x k;
      digits = fraction_of f (x * hid f + t) m_lt s ∙ digits_mod x k;
    }

-- a word is its sign and its magnitude, and those are its fields
pub sign_and_magnitude : (f : Format) (w : ℕ) → w < 2 * top f → sign_bit f (negative f w) + magnitude f w ≡ w
sign_and_magnitude f w h = go (negative f w) refl
  where
    go : (s : Bool) → negative f w ≡ s → sign_bit f s + magnitude f w ≡ w
    go true e =
        let l : top f ≤ w = leb-true (top f) w e in
        ap (λ (n : ℕ). top f + n) (mod-eq-sub-mod l ∙ mod-eq_of_lt (omega arith)) ∙ omega arith
    go false e = zero-add (magnitude f w) ∙ mod-eq_of_lt (leb-false (top f) w e)

pub two_fields : (f : Format) (w : ℕ) → exponent f w * hid f + fraction f w ≡ magnitude f w
two_fields f w = ap (λ (n : ℕ). exponent f w * hid f + n) (sym (low_of_magnitude f w)) ∙ div-add-mod' (magnitude f w) (hid f)

pub three_fields : (f : Format) (w : ℕ) → w < 2 * top f → sign_bit f (negative f w) + (exponent f w * hid f + fraction f w) ≡ w
three_fields f w h = ap (λ (n : ℕ). sign_bit f (negative f w) + n) (two_fields f w) ∙ sign_and_magnitude f w h

pub exponent_lt : (f : Format) (w : ℕ) → exponent f w < suc (ones f)
exponent_lt f w = (div-lt_iff_lt-mul (hid_pos f)).1 (subst (λ (n : ℕ). magnitude f w < n) (mul_comm (hid f) (suc (ones f))) (magnitude_lt f w))

pub fraction_lt : (f : Format) (w : ℕ) → fraction f w < hid f
fraction_lt f w = mod-lt w (hid_pos f)
