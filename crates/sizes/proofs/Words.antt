-- From a word to a bound on the number that it is, and from a bound on a value to its word: of two words the one with the larger magnitude is
-- the larger number (Larger.antt of `format`), and a bounded value is no NaN. Assumes nothing.
use Prim.Native.Nat.{ℕ, zero, suc, ◌+◌, ◌*◌, ◌^◌, ◌≤◌, ◌<◌}
use native.Mathlib.Nat.{le_trans, le_of_eq, le_of_lt, le_of_suc-le-suc, lt_of_le_of_lt, eq-or-lt_of_le, mul-one, mul_comm, mul_assoc, mul-le-mul_right, le_of_mul-le-mul_right, pow-succ'}
use native.Mathlib.Omega.{arith}
use mathlib.Core.Path.{◌≡◌, refl, sym, ap, ◌∙◌}
use mathlib.Core.Logic.{inl, inr}
use mathlib.Core.Bool.{Bool, false}
use lib.Dec.{T, ltb, ltb→lt}
use lib.Ieee.{Format, Float, nan, inf, fin, up, down, low, hid, ones, is_nan, fits, of_bits, to_bits, nan_bits}
use lib.Ieee.Bits.{of_bits-to_bits, nan_bits_is}
use lib.Ieee.Exact.{HasValue}
use lib.Ieee.Nearest.{div_mono}
use lib.Ieee.Fits.{down_pos}
use lib.Ieee.Scale.{finite}
use Rattle.format.specs.Fields.{magnitude, exponent, fraction, negative}
use Rattle.format.specs.Sign.{abs_word, with_sign}
use Rattle.format.specs.Value.{units_at, units, Finite}
use Rattle.format.proofs.Fields.{hid_pos, fraction_lt, exponent_lt}
use Rattle.format.proofs.Nan.{inf_read}
use Rattle.format.proofs.Sign.{abs_is}
use Rattle.format.proofs.Value.{word_value, value_word}
use Rattle.format.proofs.Larger.{units_mono, magnitude_mono}
use Rattle.sizes.proofs.Size.{AtMost, AtLeast, NotNegative}

-- a number is below the power of two that its exponent field names next
pub units_field : (f : Format) (w : ℕ) → units f w ≤ hid f * 2 ^ exponent f w
units_field f w = go (exponent f w) (fraction f w) (fraction_lt f w)
  where
    go : (x t : ℕ) → t < hid f → units_at f x t ≤ hid f * 2 ^ x
    go zero t h = rw (mul-one (hid f)) (le_of_lt h)
    go (suc x) t h =
        let d : hid f + t ≤ 2 * hid f = omega arith in
        le_trans (mul-le-mul_right (2 ^ x) d) (le_of_eq (ap (λ (n : ℕ). n * 2 ^ x) (mul_comm 2 (hid f)) ∙ mul_assoc (hid f) 2 (2 ^ x) ∙ ap (λ (n : ℕ). hid f * n) (sym (pow-succ' 2 x))))

-- ---- from a word

value_at_most : (f : Format) (b : ℕ) (x : Float) (s : Bool) (n : ℕ) → HasValue x s n (2 ^ low f) → n ≤ units f b → AtMost f b x
value_at_most f b nan s n v h = absurd v
value_at_most f b (inf i) s n v h = absurd v
value_at_most f b (fin i m e) s n v h = record { finite = tt; small = le_trans (le_of_eq v.1) (mul-le-mul_right (down e) h) }

value_at_least : (f : Format) (b : ℕ) (x : Float) (s : Bool) (n : ℕ) → HasValue x s n (2 ^ low f) → units f b ≤ n → AtLeast f b x
value_at_least f b nan s n v h = absurd v
value_at_least f b (inf i) s n v h = absurd v
value_at_least f b (fin i m e) s n v h = record { large = le_trans (mul-le-mul_right (down e) h) (le_of_eq (sym v.1)) }

field_mono : (f : Format) (w v : ℕ) → magnitude f w ≤ magnitude f v → exponent f w ≤ exponent f v
field_mono f w v h = div_mono (magnitude f w) (hid f) (magnitude f v) (hid f) (hid_pos f) (hid_pos f) (mul-le-mul_right (hid f) h)

pub word_at_most : (f : Format) (w b : ℕ) → Finite f b → magnitude f w ≤ magnitude f b → AtMost f b (of_bits f w)
word_at_most f w b h l =
    value_at_most f b (of_bits f w) (negative f w) (units f w) (word_value f w (lt_of_le_of_lt (field_mono f w b l) h)) (units_mono f w b l)

pub word_at_least : (f : Format) (w b : ℕ) → nan_bits f w ≡ false → magnitude f b ≤ magnitude f w → AtLeast f b (of_bits f w)
word_at_least f w b n l = elim (eq-or-lt_of_le (le_of_suc-le-suc (exponent_lt f w))) [
  | inl e ↦ rw (inf_read f w e n) (record { large = tt })
  | inr h ↦ value_at_least f b (of_bits f w) (negative f w) (units f w) (word_value f w h) (units_mono f b w l)
]

pub units_at_most : (f : Format) (w b : ℕ) → Finite f w → units f w ≤ units f b → AtMost f b (of_bits f w)
units_at_most f w b h l = value_at_most f b (of_bits f w) (negative f w) (units f w) (word_value f w h) l

-- a word bounds its own number
pub own_at_most : (f : Format) (w : ℕ) → Finite f w → AtMost f w (of_bits f w)
own_at_most f w h = value_at_most f w (of_bits f w) (negative f w) (units f w) (word_value f w h) (le_of_eq refl)

pub own_at_least : (f : Format) (w : ℕ) → Finite f w → AtLeast f w (of_bits f w)
own_at_least f w h = value_at_least f w (of_bits f w) (negative f w) (units f w) (word_value f w h) (le_of_eq refl)

-- a word written out
pub constant : (f : Format) (w : ℕ) → T (ltb (exponent f w) (ones f)) → AtMost f w (of_bits f w)
constant f w t = own_at_most f w (ltb→lt _ _ t)

-- ---- to a word

pub at_most_number : {f : Format} {b : ℕ} {x : Float} → AtMost f b x → is_nan x ≡ false
unfolding is_nan
at_most_number {f} {b} {x = nan} h = absurd h.finite
at_most_number {f} {b} {x = inf s} h = absurd h.finite
at_most_number {f} {b} {x = fin s m e} h = refl

pub at_least_number : {f : Format} {b : ℕ} {x : Float} → AtLeast f b x → is_nan x ≡ false
unfolding is_nan
at_least_number {f} {b} {x = nan} h = absurd h.large
at_least_number {f} {b} {x = inf s} h = refl
at_least_number {f} {b} {x = fin s m e} h = refl

pub number_word : (f : Format) (x : Float) → T (fits f x) → is_nan x ≡ false → nan_bits f (to_bits f x) ≡ false
number_word f x h n = nan_bits_is f (to_bits f x) ∙ ap is_nan (of_bits-to_bits f x h) ∙ n

pub at_most_word : (f : Format) (b : ℕ) (x : Float) → T (fits f x) → AtMost f b x → magnitude f (to_bits f x) ≤ magnitude f b
at_most_word f b nan t h = absurd h.finite
at_most_word f b (inf s) t h = absurd h.finite
at_most_word f b (fin s m e) t h =
    let r = to_bits f (fin s m e) in
    let v = value_word f (fin s m e) s (m * up e) (down e) t (refl, refl) in
    magnitude_mono f r b (le_of_mul-le-mul_right (le_trans (le_of_eq v.amount) h.small) (down_pos e))

pub at_least_word : (f : Format) (b : ℕ) (x : Float) → T (fits f x) → T (finite x) → AtLeast f b x → magnitude f b ≤ magnitude f (to_bits f x)
at_least_word f b nan t i h = absurd i
at_least_word f b (inf s) t i h = absurd i
at_least_word f b (fin s m e) t i h =
    let r = to_bits f (fin s m e) in
    let v = value_word f (fin s m e) s (m * up e) (down e) t (refl, refl) in
    magnitude_mono f b r (le_of_mul-le-mul_right (le_trans h.large (le_of_eq (sym v.amount))) (down_pos e))

pub sign_word : (f : Format) (x : Float) → T (fits f x) → T (finite x) → NotNegative x → negative f (to_bits f x) ≡ false
sign_word f nan t i h = absurd i
sign_word f (inf s) t i h = absurd i
sign_word f (fin s m e) t i h = (value_word f (fin s m e) s (m * up e) (down e) t (refl, refl)).sign ∙ h.plus

-- ---- abs

signed_at_most : (f : Format) (b : ℕ) (s : Bool) (x : Float) → AtMost f b x → AtMost f b (with_sign s x)
signed_at_most f b s nan h = h
signed_at_most f b s (inf i) h = absurd h.finite
signed_at_most f b s (fin i m e) h = record { finite = tt; small = h.small }

signed_at_least : (f : Format) (b : ℕ) (s : Bool) (x : Float) → AtLeast f b x → AtLeast f b (with_sign s x)
signed_at_least f b s nan h = h
signed_at_least f b s (inf i) h = record { large = tt }
signed_at_least f b s (fin i m e) h = record { large = h.large }

pub abs_value : (f : Format) (x : Float) → T (fits f x) → of_bits f (abs_word f (to_bits f x)) ≡ with_sign false x
abs_value f x t = (abs_is f (to_bits f x)).value ∙ ap (with_sign false) (of_bits-to_bits f x t)

pub abs_at_most : {f : Format} {b : ℕ} {x : Float} → T (fits f x) → AtMost f b x → AtMost f b (of_bits f (abs_word f (to_bits f x)))
abs_at_most {f} {b} {x} t h = rw (abs_value f x t) (signed_at_most f b false x h)
