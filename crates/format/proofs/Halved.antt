-- A word that passes sqrt's test is at most that of -0, so its sum with the word of 1 does not wrap, and half of the sum is the definition's
-- word. Assumes nothing.
use Prim.Native.Nat.{ℕ, ◌+◌, ◌*◌, ◌/◌, ◌^◌, ◌≤◌, ◌<◌}
use native.Mathlib.Nat.{mod-eq_of_lt}
use native.Mathlib.Omega.{arith}
use mathlib.Core.Path.{◌≡◌, refl, sym, ◌∙◌}
use mathlib.Core.Bool.{Bool, true, false, ◌||◌}
use borrow.Author.Tests.{leb-true, eqb-true}
use lib.Dec.{leb, eqb, lit<}
use lib.Ieee.{Format, binary32, binary64, top}
use Rattle.format.specs.Fields.{width, one_word, inf_word}
use Rattle.format.specs.Estimates.{at_least_zero, sqrt_word}
use Rattle.format.proofs.AtLeastZero.{inf_lt, at_least_zero_is, up_to_infinity}

room : (f : Format) → top f + one_word f < 2 ^ width f
room binary32 = lit< tt
room binary64 = lit< tt

module _ (f : Format) (w : ℕ) (l : w < 2 * top f) (e : at_least_zero f w ≡ true) where
  at_most : w ≤ top f
  at_most = go (leb w (inf_word f)) refl (sym (at_least_zero_is f w l) ∙ e)
    where
      go : (b : Bool) → leb w (inf_word f) ≡ b → (b || eqb w (top f)) ≡ true → w ≤ top f
      go true h d = omega (arith, leb-true w (inf_word f) h, inf_lt f)
      go false h d = omega (arith, eqb-true w (top f) d)

  pub no_carry : w + one_word f < 2 ^ width f
  no_carry = omega (arith, at_most, room f)

  pub halved : (w + one_word f) / 2 ≡ sqrt_word f w
  halved = sym (rw (e, mod-eq_of_lt {n = w + one_word f} {m = 2 ^ width f} no_carry))

-- from +0 up to the infinity
pub halved_up : (f : Format) (w : ℕ) → w ≤ inf_word f → sqrt_word f w ≡ (w + one_word f) / 2
halved_up f w h = sym (halved f w (omega (arith, inf_lt f)) (up_to_infinity f w h))
