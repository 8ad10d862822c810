-- abs and copysign keep every bit but the sign's, so they are IEEE 754's operations of those names, and a word with its sign turned is
-- the negated number. Assumes nothing.
use Prim.Native.Nat.{ℕ, zero, suc, ◌+◌, ◌*◌, ◌<◌}
use native.Mathlib.Nat.{zero-add}
use native.Mathlib.Omega.{arith}
use mathlib.Core.Path.{◌≡◌, refl, sym, ap, subst, ◌∙◌}
use mathlib.Core.Bool.{Bool, true, false, not, cond}
use lib.Dec.{T, eqb}
use lib.Ieee.{Format, Float, nan, inf, fin, prec, low, hid, ones, top, odd, neg, fits, is_nan, of_fields, of_bits, to_bits}
use lib.Ieee.Bits.{of_bits-to_bits, to_bits-of_bits}
use Rattle.format.specs.Fields.{negative, magnitude, exponent, fraction, sign_bit}
use Rattle.format.specs.Sign.{abs_word, copysign_word, turned_word, with_sign, SignSet}
use Rattle.format.specs.Value.{units}
use Rattle.format.proofs.Fields.{magnitude_lt, sign_of, magnitude_of, exponent_of, fraction_of, low_of_magnitude}

odd_signed : (d : ℕ) (s t : Bool) (q k l : ℕ) → with_sign s (odd d t q k l) ≡ odd d s q k l
unfolding odd
odd_signed d s t zero k l = refl
odd_signed d s t (suc q) k l = refl

at_top : (a b s t : Bool) (v u : Float) → with_sign s v ≡ u → with_sign s (cond a (cond b (inf t) nan) v) ≡ cond a (cond b (inf s) nan) u
at_top true true s t v u e = refl
at_top true false s t v u e = refl
at_top false b s t v u e = e

fields_signed : (f : Format) (s t : Bool) (x d : ℕ) → with_sign s (of_fields f t x d) ≡ of_fields f s x d
unfolding of_fields
fields_signed f s t zero d = odd_signed (prec f) s t d 0 (low f)
fields_signed f s t (suc x) d = at_top (eqb (suc x) (ones f)) (eqb d 0) s t (odd (prec f) t (hid f + d) x (low f)) (odd (prec f) s (hid f + d) x (low f)) (odd_signed (prec f) s t (hid f + d) x (low f))

-- two words with the same exponent field and fraction have the same value but for the sign
pub same_but_sign : (f : Format) (w r : ℕ) → exponent f r ≡ exponent f w → fraction f r ≡ fraction f w → of_bits f r ≡ with_sign (negative f r) (of_bits f w)
unfolding of_bits
same_but_sign f w r p q = sym (fields_signed f (negative f r) (negative f w) (exponent f w) (fraction f w) ∙ rw (← p, ← q) refl)

pub sign_set : (f : Format) (s : Bool) (w : ℕ) → SignSet f s w (sign_bit f s + magnitude f w)
sign_set f s w =
    let r = sign_bit f s + magnitude f w in
    let e = sign_of f (magnitude f w) (magnitude_lt f w) s in
    let p = exponent_of f (magnitude f w) (magnitude_lt f w) s in
    let q = fraction_of f (magnitude f w) (magnitude_lt f w) s ∙ low_of_magnitude f w in
    record {
      sign = e;
      field = p;
      digits = q;
      value = same_but_sign f w r p q ∙ ap (λ (b : Bool). with_sign b (of_bits f w)) e;
    }

pub abs_is : (f : Format) (w : ℕ) → SignSet f false w (abs_word f w)
abs_is f w = subst (SignSet f false w) (zero-add (magnitude f w)) (sign_set f false w)

pub copysign_is : (f : Format) (w y : ℕ) → SignSet f (negative f y) w (copysign_word f w y)
copysign_is f w y = sign_set f (negative f y) w

-- ---- the sign turned

module _ (f : Format) (w : ℕ) where
  pub turned_sign : negative f (turned_word f w) ≡ not (negative f w)
  turned_sign = (sign_set f (not (negative f w)) w).sign

  pub turned_magnitude : magnitude f (turned_word f w) ≡ magnitude f w
  turned_magnitude = magnitude_of f (magnitude f w) (magnitude_lt f w) (not (negative f w))

  pub turned_field : exponent f (turned_word f w) ≡ exponent f w
  turned_field = (sign_set f (not (negative f w)) w).field

  pub turned_units : units f (turned_word f w) ≡ units f w
  turned_units = rw (turned_field, (sign_set f (not (negative f w)) w).digits)

-- a word's value has the word's sign
pub own_sign : (f : Format) (w : ℕ) → of_bits f w ≡ with_sign (negative f w) (of_bits f w)
own_sign f w = same_but_sign f w w refl refl

pub neg_with : (s : Bool) (x : Float) → neg (with_sign s x) ≡ with_sign (not s) x
unfolding neg
neg_with s nan = refl
neg_with s (inf t) = refl
neg_with s (fin t m e) = refl

pub turned_read : (f : Format) (w : ℕ) → of_bits f (turned_word f w) ≡ neg (of_bits f w)
turned_read f w = (sign_set f (not (negative f w)) w).value ∙ sym (ap neg (own_sign f w) ∙ neg_with (negative f w) (of_bits f w))

turned_lt : (f : Format) (w : ℕ) (s : Bool) → sign_bit f s + magnitude f w < 2 * top f
turned_lt f w true = omega (arith, magnitude_lt f w)
turned_lt f w false = omega (arith, magnitude_lt f w)

neg_nan : (x : Float) → is_nan (neg x) ≡ is_nan x
unfolding is_nan neg
neg_nan nan = refl
neg_nan (inf t) = refl
neg_nan (fin t m e) = refl

-- the word of a negated number that is no NaN is its own word with the sign turned
pub turned_written : (f : Format) (x : Float) → T (fits f x) → is_nan x ≡ false → to_bits f (neg x) ≡ turned_word f (to_bits f x)
turned_written f x h n =
    let w = to_bits f x in
    let same : of_bits f w ≡ x = of_bits-to_bits f x h in
    let read : of_bits f (turned_word f w) ≡ neg x = turned_read f w ∙ ap neg same in
    ap (to_bits f) (sym read)
    ∙ to_bits-of_bits f (turned_word f w) (turned_lt f w (not (negative f w)))
    (subst (λ (b : Bool). T (not b)) (sym (ap is_nan read ∙ neg_nan x ∙ n)) tt)
