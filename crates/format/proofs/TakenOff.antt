-- A fraction put below a leading 1, and the 1 taken off again: the language's own subtraction moves the fraction up, exactly, and leaves +0
-- where there is none. So it gives the fraction's word. Assumes nothing.
use Prim.Native.Nat.{ℕ, suc, ◌+◌, ◌-◌, ◌*◌, ◌^◌, ◌<◌}
use native.Mathlib.Nat.{add-mul, add-zero, zero-add, mul-le-mul_right}
use native.Mathlib.Omega.{arith}
use mathlib.Core.Path.{◌≡◌, refl, sym, ap, ◌∙◌}
use mathlib.Core.Bool.{false}
use borrow.Author.Tests.{lt-leb, le-ltb}
use lib.Dec.{lit<}
use lib.Pow.{pow_pos}
use lib.Ieee.{Format, binary32, binary64, emax, low, hid, top, round, sub, sum, of_bits, to_bits}
use lib.Ieee.Exact.{HasValue}
use Rattle.format.specs.Fields.{negative, one_word, inf_word}
use Rattle.format.specs.Value.{units}
use Rattle.format.specs.Parts.{written}
use Rattle.format.proofs.Fields.{hid_pos}
use Rattle.format.proofs.Normal.{below_top, units_of, finite_below}
use Rattle.format.proofs.Parts.{fraction_written}
use Rattle.format.proofs.Value.{word_value, sub_signed}

one_up : (f : Format) → suc (emax f - 1) ≡ emax f
one_up binary32 = refl
one_up binary64 = refl

below_inf : (f : Format) → one_word f + hid f < inf_word f
below_inf binary32 = lit< tt
below_inf binary64 = lit< tt

-- the fraction is b over hid f
module _ (f : Format) (b : ℕ) (b_lt : b < hid f) where
  -- how many units its last digit is
  abbrev last : ℕ
  last = 2 ^ (emax f - 1)

  -- from 1 up to 2
  led : (w t : ℕ) → w ≡ one_word f + t → t < hid f → HasValue (of_bits f w) false ((hid f + t) * last) (2 ^ low f)
  led w t e h =
      let l : w < inf_word f = omega (arith, below_inf f) in
      let u : units f w ≡ (hid f + t) * last = units_of f w (emax f - 1) t l (e ∙ ap (λ (x : ℕ). x * hid f + t) (sym (one_up f))) h in
      let s : negative f w ≡ false = lt-leb (top f) w (below_top f w l) in
      let v = word_value f w (finite_below f w l) in
      rw (u, s) at v

  rounded : sub f (of_bits f (one_word f + b)) (of_bits f (one_word f)) ≡ round f false (b * last) (2 ^ low f)
  unfolding sum
  rounded =
      sub_signed f _ _ false false ((hid f + b) * last) ((hid f + 0) * last) (2 ^ low f) (pow_pos (low f)) (led _ b refl b_lt) (led _ 0 (sym (add-zero _)) (hid_pos f))
      ∙ rw (le-ltb ((hid f + b) * last) ((hid f + 0) * last) (mul-le-mul_right last (omega arith)))
      (ap (λ (n : ℕ). round f false n (2 ^ low f)) (let d : (hid f + b) * last - (hid f + 0) * last ≡ b * last = rw (add-mul (hid f) b last) (omega arith) in d))

  pub taken_off : to_bits f (sub f (of_bits f (one_word f + b)) (of_bits f (one_word f))) ≡ written f (b * 2 ^ (emax f - 1))
  taken_off = ap (to_bits f) rounded ∙ fraction_written f false b b_lt ∙ zero-add _
