-- The steps of trunc and fract, as code takes them at either width: a word moved up by its exponent and masked keeps the bits below the point,
-- moved down again it is those, and the test on the exponent picks the arm of the definition. Assumes nothing.
use Prim.Native.Nat.{ℕ, ◌+◌, ◌-◌, ◌*◌, ◌/◌, ◌%◌, ◌^◌, ◌≤◌, ◌<◌}
use native.Mathlib.Nat.{add-zero, mod-eq_of_lt}
use mathlib.Core.Path.{◌≡◌, sym, ap, subst, ◌∙◌}
use borrow.Author.Tests.{lt-ltb, le-ltb}
use lib.Bits.{bit_and}
use lib.Pow.{mod-mod-pow}
use lib.Ieee.{Format, binary32, binary64, prec, emax, hid, sub, of_bits, to_bits}
use Rattle.format.specs.Fields.{width, negative, magnitude, exponent, sign_bit, one_word}
use Rattle.format.specs.Exponent.{places}
use Rattle.format.specs.Parts.{below_point, trunc_word, fract_word}
use Rattle.format.proofs.Masks.{only_fraction}
use Rattle.format.proofs.Parts.{moved_up, back_down, below_lt, fraction_top}
use Rattle.format.proofs.TakenOff.{taken_off}

-- ---- the shifts and the mask

cut : (f : Format) (x : ℕ) → x % 2 ^ width f % hid f ≡ x % hid f
cut binary32 x = mod-mod-pow x 9 23
cut binary64 x = mod-mod-pow x 12 52

-- n is the count and s the word moved up
module _ (f : Format) (w n s : ℕ) (e : n ≡ exponent f w - emax f) (d : s ≡ w * 2 ^ (n % width f) % 2 ^ width f) where
  pub masked : bit_and s (hid f - 1) ≡ w * 2 ^ places f w % hid f
  masked =
      only_fraction f s
      ∙ ap (λ (x : ℕ). x % hid f) d
      ∙ cut f (w * 2 ^ (n % width f))
      ∙ ap (λ (x : ℕ). w * 2 ^ (x % width f) % hid f) e

  -- the bits below the point, at the point
  pub raised : bit_and s (hid f - 1) ≡ below_point f w * 2 ^ places f w
  raised = masked ∙ moved_up w (places f w) (prec f - 1)

  -- and where they were
  pub lowered : bit_and s (hid f - 1) / 2 ^ (n % width f) ≡ below_point f w
  lowered =
      ap (λ (x : ℕ). x / 2 ^ (n % width f)) masked
      ∙ ap (λ (m : ℕ). w * 2 ^ places f w % hid f / 2 ^ (m % width f)) e
      ∙ back_down w (places f w) (prec f - 1)

-- ---- the test on the exponent, x

module _ (f : Format) (w x : ℕ) (e : x ≡ exponent f w) where
  module _ (h : x < emax f) where
    below : exponent f w < emax f
    below = subst (λ (y : ℕ). y < emax f) e h

    pub trunc_below_one : sign_bit f (negative f w) + 0 ≡ trunc_word f w
    trunc_below_one = add-zero (sign_bit f (negative f w)) ∙ sym (rw (lt-ltb (exponent f w) (emax f) below))

    pub fract_below_one : w ≡ fract_word f w
    fract_below_one = sym (rw (lt-ltb (exponent f w) (emax f) below))

  module _ (h : emax f ≤ x) (b : ℕ) where
    above : emax f ≤ exponent f w
    above = subst (λ (y : ℕ). emax f ≤ y) e h

    pub trunc_from_one : b ≡ below_point f w → w - b ≡ trunc_word f w
    trunc_from_one d = ap (λ (n : ℕ). w - n) d ∙ sym (rw (le-ltb (exponent f w) (emax f) above))

    -- under a leading 1, which is taken off again
    pub fract_from_one : (r : ℕ) → b ≡ below_point f w * 2 ^ places f w → r ≡ to_bits f (sub f (of_bits f (one_word f + b)) (of_bits f (one_word f)))
        → sign_bit f (negative f w) + magnitude f r ≡ fract_word f w
    fract_from_one r d v =
        let l : b < hid f = subst (λ (n : ℕ). n < hid f) (sym d) (below_lt f w) in
        ap (λ (n : ℕ). sign_bit f (negative f w) + n) (ap (magnitude f) (v ∙ taken_off f b l) ∙ mod-eq_of_lt (fraction_top f b l))
        ∙ rw (d, le-ltb (exponent f w) (emax f) above)
