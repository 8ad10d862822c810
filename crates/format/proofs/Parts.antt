-- The bits below the point, as shifts find them, and the word of a fraction. Assumes nothing.
use Prim.Native.Nat.{ℕ, suc, ◌+◌, ◌-◌, ◌*◌, ◌/◌, ◌%◌, ◌^◌, ◌<◌, ◌≤◌}
use native.Mathlib.Nat.{mod-one, mod-lt, mul_assoc, mul-mod_left, mul-div_cancel, zero-mul, zero-add, add-zero, lt_of_lt_of_le, mul-lt-mul_of_pos_right}
use native.Mathlib.Omega.{arith}
use mathlib.Core.Path.{◌≡◌, refl, sym, ap, subst, ◌∙◌}
use mathlib.Core.Bool.{Bool, true, false}
use borrow.Author.Tests.{leb-true, leb-false}
use lib.Dec.{leb}
use lib.Pow.{pow-add, pow_pos, pow_mono, mod-pow-add}
use lib.Ieee.{Format, prec, emax, low, hid, top, round, to_bits}
use lib.Ieee.Fits.{two}
use Rattle.format.specs.Fields.{sign_bit}
use Rattle.format.specs.Exponent.{places}
use Rattle.format.specs.Parts.{below_point, written}
use Rattle.format.proofs.Fields.{hid_pos}
use Rattle.format.proofs.Same.{Counted, counted, count_written}

-- moved up by c and cut to p places, a number keeps its p - c lowest
pub moved_up : (w c p : ℕ) → w * 2 ^ c % 2 ^ p ≡ w % 2 ^ (p - c) * 2 ^ c
moved_up w c p = go (leb c p) refl
  where
    go : (t : Bool) → leb c p ≡ t → w * 2 ^ c % 2 ^ p ≡ w % 2 ^ (p - c) * 2 ^ c
    go true e =
        let h : p ≡ p - c + c = omega (arith, leb-true c p e) in
        ap (λ (k : ℕ). w * 2 ^ c % 2 ^ k) h
        ∙ mod-pow-add (w * 2 ^ c) (p - c) c
        ∙ ap (λ (n : ℕ). n % 2 ^ (p - c) * 2 ^ c + w * 2 ^ c % 2 ^ c) (mul-div_cancel w (pow_pos c))
        ∙ ap (λ (n : ℕ). w % 2 ^ (p - c) * 2 ^ c + n) (mul-mod_left w (2 ^ c))
        ∙ add-zero (w % 2 ^ (p - c) * 2 ^ c)
    go false e =
        let h : c ≡ c - p + p = omega (arith, leb-false c p e) in
        let z : p - c ≡ 0 = omega (arith, leb-false c p e) in
        ap (λ (k : ℕ). w * 2 ^ k % 2 ^ p) h
        ∙ ap (λ (n : ℕ). w * n % 2 ^ p) (pow-add 2 (c - p) p)
        ∙ ap (λ (n : ℕ). n % 2 ^ p) (sym (mul_assoc w (2 ^ (c - p)) (2 ^ p)))
        ∙ mul-mod_left (w * 2 ^ (c - p)) (2 ^ p)
        ∙ sym (ap (λ (k : ℕ). w % 2 ^ k * 2 ^ c) z ∙ ap (λ (n : ℕ). n * 2 ^ c) (mod-one w) ∙ zero-mul (2 ^ c))

-- and back down, it is those
pub back_down : (w c p : ℕ) → w * 2 ^ c % 2 ^ p / 2 ^ c ≡ w % 2 ^ (p - c)
back_down w c p = ap (λ (n : ℕ). n / 2 ^ c) (moved_up w c p) ∙ mul-div_cancel (w % 2 ^ (p - c)) (pow_pos c)

-- the bits below the point, moved up to the point, are a fraction over hid f
pub below_lt : (f : Format) (w : ℕ) → below_point f w * 2 ^ places f w < hid f
below_lt f w = subst (λ (n : ℕ). n < hid f) (moved_up w (places f w) (prec f - 1)) (mod-lt (w * 2 ^ places f w) (hid_pos f))

-- a fraction b over hid f, whose last digit is 2 ^ (emax f - 1) units, is a number of the format's
module _ (f : Format) (s : Bool) (b : ℕ) (b_lt : b < hid f) where
  few : b < 2 ^ prec f
  few = lt_of_lt_of_le b_lt (pow_mono (omega arith))

  fine : b * 2 ^ (emax f - 1) < 2 ^ (low f + suc (emax f))
  fine =
      lt_of_lt_of_le (mul-lt-mul_of_pos_right b_lt (pow_pos (emax f - 1)))
      (subst (λ (n : ℕ). n ≤ 2 ^ (low f + suc (emax f))) (pow-add 2 (prec f - 1) (emax f - 1)) (pow_mono (omega (arith, two f))))

  pub fraction_written : to_bits f (round f s (b * 2 ^ (emax f - 1)) (2 ^ low f)) ≡ sign_bit f s + written f (b * 2 ^ (emax f - 1))
  fraction_written = count_written f s b (emax f - 1) few fine

  pub fraction_word : Counted f s (b * 2 ^ (emax f - 1)) (sign_bit f s + written f (b * 2 ^ (emax f - 1)))
  fraction_word = counted f s b (emax f - 1) few fine

-- what is written for one leaves the sign bit clear
pub fraction_top : (f : Format) (b : ℕ) → b < hid f → written f (b * 2 ^ (emax f - 1)) < top f
fraction_top f b h = subst (λ (n : ℕ). n < top f) (zero-add _) (leb-false _ _ (fraction_word f false b h).sign)
