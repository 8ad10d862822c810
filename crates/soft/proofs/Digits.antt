-- A finite word as its digits and the places that they are moved up by. Assumes nothing.
use Prim.Native.Nat.{ℕ, zero, suc, ◌+◌, ◌-◌, ◌*◌, ◌^◌, ◌≤◌, ◌<◌}
use native.Mathlib.Nat.{mul-one}
use native.Mathlib.Omega.{arith}
use mathlib.Core.Path.{◌≡◌, sym}
use mathlib.Core.Bool.{Bool, true, false, cond}
use borrow.Author.Tests.{ne_eqb}
use lib.Dec.{eqb}
use lib.Ieee.{Format, binary32, prec, hid}
use Rattle.format.specs.Fields.{exponent, fraction}
use Rattle.format.specs.Value.{units_at, units}
use Rattle.format.proofs.Fields.{fraction_lt, exponent_lt}
use Rattle.format.proofs.PartsMeaning.{full}
use Rattle.soft.specs.Digits.{digits_of, places_of}

pub digits_high : (f : Format) (w : ℕ) → (exponent f w ≡ 0 → ⊥) → digits_of f w ≡ hid f + fraction f w
unfolding digits_of
digits_high f w e = rw (ne_eqb (exponent f w) 0 e)

less_one : (x : ℕ) → suc x - 1 ≡ x
less_one x = omega arith

not_zero : (x : ℕ) → suc x ≡ 0 → ⊥
not_zero x e = omega arith

at : (f : Format) (x t : ℕ) → units_at f x t ≡ cond (eqb x 0) t (hid f + t) * 2 ^ (x - 1)
at f zero t = sym (mul-one t)
at f (suc x) t = rw (less_one x, ne_eqb (suc x) 0 (not_zero x))

pub units_digits : (f : Format) (w : ℕ) → units f w ≡ digits_of f w * 2 ^ places_of f w
unfolding digits_of places_of
units_digits f w = at f (exponent f w) (fraction f w)

pub digits_lt : (f : Format) (w : ℕ) → digits_of f w < 2 ^ prec f
unfolding digits_of
digits_lt f w = go (eqb (exponent f w) 0)
  where
    go : (b : Bool) → cond b (fraction f w) (hid f + fraction f w) < 2 ^ prec f
    go true = let g = full f (fraction f w) (fraction_lt f w) in omega (arith, g)
    go false = full f (fraction f w) (fraction_lt f w)

-- where they are moved up, the leading digit is there
pub digits_ge : (f : Format) (w : ℕ) → 0 < places_of f w → hid f ≤ digits_of f w
unfolding places_of
digits_ge f w h = rw (digits_high f w (λ e. some (exponent f w) h e)) (omega arith)
  where
    some : (x : ℕ) → 0 < x - 1 → x ≡ 0 → ⊥
    some x h e = omega arith

pub small_digits : (w r : ℕ) → r ≡ digits_of binary32 w → r < 16777216
small_digits w r e = rw e (digits_lt binary32 w)

pub small_places : (w r : ℕ) → r ≡ places_of binary32 w → r < 255
unfolding places_of
small_places w r e = rw e (small (exponent binary32 w) (exponent_lt binary32 w))
  where
    small : (x : ℕ) → x < 256 → x - 1 < 255
    small x h = omega arith
