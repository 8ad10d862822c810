-- Which words are read as the one NaN of `lib.Ieee` and which as its infinities, and what is written for the NaN; a finite word is none, what is
-- none is its number's own word, and only the NaN differs from itself. Assumes nothing.
use Prim.Native.Nat.{ℕ, zero, suc, ◌+◌, ◌*◌, ◌<◌}
use native.Mathlib.Nat.{ne_of_lt}
use native.Mathlib.Omega.{arith}
use mathlib.Core.Path.{◌≡◌, refl, sym, ap, subst, ◌∙◌}
use mathlib.Core.Bool.{Bool, true, false, not, ◌&&◌, true≢false}
use borrow.Author.Tests.{eq-eqb, ne_eqb, not-false}
use lib.Dec.{T, eqb}
use lib.Ieee.{Format, binary32, binary64, Float, nan, inf, fin, emax, ones, top, is_nan, ne, div, nan_bits, of_fields, of_bits, to_bits}
use lib.Ieee.Bits.{to_bits-of_bits, nan_bits_is}
use lib.Ieee.Compare.{differs_from_itself, nan_differs}
use Rattle.format.specs.Fields.{negative, exponent, fraction, nan_word}
use Rattle.format.specs.Value.{Finite}

only_nan : (x : Float) → is_nan x ≡ true → x ≡ nan
unfolding is_nan
only_nan nan e = refl
only_nan (inf s) e = absurd (subst T (sym e) tt)
only_nan (fin s m k) e = absurd (subst T (sym e) tt)

pub nan_read : (f : Format) (w : ℕ) → nan_bits f w ≡ true → of_bits f w ≡ nan
nan_read f w e = only_nan (of_bits f w) (sym (nan_bits_is f w) ∙ e)

pub nan_written : (f : Format) → to_bits f nan ≡ nan_word f
unfolding to_bits
nan_written f = refl

never_zero : (e : ℕ) → 0 ≡ 2 * e + 1 → ⊥
never_zero e h = omega arith

at_ones : (f : Format) (s : Bool) (x t : ℕ) → x ≡ ones f → eqb t 0 ≡ true → of_fields f s x t ≡ inf s
unfolding of_fields
at_ones f s zero t e z = absurd (never_zero (emax f) e)
at_ones f s (suc x) t e z = rw (eq-eqb (suc x) (ones f) e, z)

no_digits : (a b : Bool) → a ≡ true → (a && not b) ≡ false → b ≡ true
no_digits a b p q = not-false b (rw p at q)

-- a word whose exponent field is all ones is an infinity unless it is a NaN
pub inf_read : (f : Format) (w : ℕ) → exponent f w ≡ ones f → nan_bits f w ≡ false → of_bits f w ≡ inf (negative f w)
unfolding of_bits nan_bits
inf_read f w e n =
    at_ones f (negative f w) (exponent f w) (fraction f w) e
    (no_digits (eqb (exponent f w) (ones f)) (eqb (fraction f w) 0) (eq-eqb (exponent f w) (ones f) e) n)

pub finite_number : (f : Format) (w : ℕ) → Finite f w → nan_bits f w ≡ false
unfolding nan_bits
finite_number f w h = rw (ne_eqb (exponent f w) (ones f) (ne_of_lt h))

pub not_held : {b : Bool} → b ≡ false → T (not b)
not_held e = subst (λ (b : Bool). T (not b)) (sym e) tt

-- a word that is no NaN is its number's word
pub kept_word : (f : Format) (w : ℕ) → w < 2 * top f → nan_bits f w ≡ false → to_bits f (of_bits f w) ≡ w
kept_word f w h n = to_bits-of_bits f w h (not_held (sym (nan_bits_is f w) ∙ n))

-- how the NaN is made, and told
pub zero_over_zero : (f : Format) → div f (of_bits f 0) (of_bits f 0) ≡ nan
unfolding div of_bits
zero_over_zero binary32 = refl
zero_over_zero binary64 = refl

pub nan_told : (f : Format) (x : Float) → ne x x ≡ true → nan_word f ≡ to_bits f x
nan_told f x e = sym (ap (to_bits f) (differs_from_itself x (subst T (sym e) tt)) ∙ nan_written f)

pub no_nan : (x : Float) → ne x x ≡ false → T (not (is_nan x))
unfolding is_nan
no_nan nan e = absurd (true≢false (sym nan_differs ∙ e))
no_nan (inf s) e = tt
no_nan (fin s m k) e = tt
