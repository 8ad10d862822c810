-- Of two words the one with the larger magnitude is the larger number, counted in units, and the other way round. Assumes nothing.
use Prim.Native.Nat.{ℕ, zero, suc, ◌+◌, ◌*◌, ◌/◌, ◌%◌, ◌^◌, ◌≤◌, ◌<◌}
use native.Mathlib.Nat.{le_trans, le_of_eq, le_of_lt, le_of_suc-le-suc, lt_of_lt_of_le, eq-or-lt_of_le, not-le_of_lt, mul-one, mul-le-mul_right, mul-le-mul_left, mul-lt-mul_of_pos_right, le-add_right, pow-succ'}
use native.Mathlib.Omega.{arith}
use mathlib.Core.Path.{◌≡◌, refl, sym, ap, ◌∙◌}
use mathlib.Core.Logic.{◌⊎◌, inl, inr}
use mathlib.Core.Bool.{Bool, true, false}
use borrow.Author.Tests.{ltb-true, ltb-false, lt-ltb, le-ltb}
use lib.Dec.{ltb}
use lib.Pow.{pow_pos, pow_mono}
use lib.Ieee.{Format, hid}
use Rattle.format.specs.Fields.{magnitude, exponent, fraction}
use Rattle.format.specs.Value.{units_at, units}
use Rattle.format.proofs.Fields.{fraction_lt, two_fields, low_of_magnitude}
use Rattle.format.proofs.Order.{either}

next_field : (f : Format) (x y t u : ℕ) → t < hid f → x < y → units_at f x t < units_at f y u
next_field f x zero t u h l = absurd (let z : ⊥ = omega arith in z)
next_field f zero (suc y) t u h l =
    lt_of_lt_of_le h (le_trans (le-add_right (hid f) u) (le_trans (le_of_eq (sym (mul-one (hid f + u)))) (mul-le-mul_left (hid f + u) (pow_pos y))))
next_field f (suc x) (suc y) t u h l =
    let d : hid f + t < 2 * hid f = omega arith in
    lt_of_lt_of_le (mul-lt-mul_of_pos_right d (pow_pos x))
    (le_trans (le_of_eq (doubled (hid f) (2 ^ x)))
    (le_trans (mul-le-mul_left (hid f) (le_trans (le_of_eq (sym (pow-succ' 2 x))) (pow_mono (le_of_suc-le-suc l))))
    (mul-le-mul_right (2 ^ y) (le-add_right (hid f) u))))
  where
    doubled : (a b : ℕ) → 2 * a * b ≡ a * (2 * b)
    doubled a b = omega arith

in_field : (f : Format) (x t u : ℕ) → t < u → units_at f x t < units_at f x u
in_field f zero t u h = h
in_field f (suc x) t u h = mul-lt-mul_of_pos_right (omega arith) (pow_pos x)

at_strict : (f : Format) (x y t u : ℕ) → t < hid f → u < hid f → x * hid f + t < y * hid f + u → units_at f x t < units_at f y u
at_strict f x y t u h k l = go (either x y)
  where
    same : (x : ℕ) → x ≡ y → x * hid f + t < y * hid f + u → units_at f x t < units_at f y u
    same x e l = rw e (in_field f y t u (omega (arith, ap (λ (n : ℕ). n * hid f) e)))

    go : (x ≤ y) ⊎ (y < x) → units_at f x t < units_at f y u
    go (inr g) = absurd (let z : ⊥ = omega (arith, mul-le-mul_right (hid f) g) in z)
    go (inl g) = elim (eq-or-lt_of_le g) [ inl e ↦ same x e l | inr m ↦ next_field f x y t u h m ]

pub units_strict : (f : Format) (w v : ℕ) → magnitude f w < magnitude f v → units f w < units f v
units_strict f w v h =
    at_strict f (exponent f w) (exponent f v) (fraction f w) (fraction f v) (fraction_lt f w) (fraction_lt f v) (rw (two_fields f w, two_fields f v) h)

pub units_mono : (f : Format) (w v : ℕ) → magnitude f w ≤ magnitude f v → units f w ≤ units f v
units_mono f w v h = elim (eq-or-lt_of_le h) [
  | inl e ↦ le_of_eq (ap (λ (m : ℕ). units_at f (m / hid f) (fraction f w)) e ∙ ap (units_at f (exponent f v)) (sym (low_of_magnitude f w) ∙ ap (λ (m : ℕ). m % hid f) e ∙ low_of_magnitude f v))
  | inr l ↦ le_of_lt (units_strict f w v l)
]

pub magnitude_mono : (f : Format) (w v : ℕ) → units f w ≤ units f v → magnitude f w ≤ magnitude f v
magnitude_mono f w v h = elim (either (magnitude f w) (magnitude f v)) [ inl l ↦ l | inr g ↦ absurd (not-le_of_lt (units_strict f v w g) h) ]

-- so the test of one is that of the other, in any measure
pub units_test : (f : Format) (w v c : ℕ) → 0 < c → ltb (units f w * c) (units f v * c) ≡ ltb (magnitude f w) (magnitude f v)
units_test f w v c h = go (ltb (magnitude f w) (magnitude f v)) refl
  where
    go : (t : Bool) → ltb (magnitude f w) (magnitude f v) ≡ t → ltb (units f w * c) (units f v * c) ≡ t
    go true e = lt-ltb (units f w * c) (units f v * c) (mul-lt-mul_of_pos_right (units_strict f w v (ltb-true (magnitude f w) (magnitude f v) e)) h)
    go false e = le-ltb (units f w * c) (units f v * c) (mul-le-mul_right c (units_mono f v w (ltb-false (magnitude f w) (magnitude f v) e)))
