-- What raw floor gives where the cast that it makes is clipped or of a NaN: the end of the range, as the float that it rounds to, or +0.
-- Assumes nothing.
use Prim.Native.Nat.{ℕ, suc, ◌+◌, ◌*◌, ◌^◌, ◌≤◌}
use native.Mathlib.Nat.{mul-one, lt_of_lt_of_le}
use mathlib.Core.Path.{◌≡◌, refl, ap, subst, ◌∙◌}
use mathlib.Core.Bool.{Bool, true, false, cond}
use borrow.Author.Tests.{lt-ltb, le-ltb, eqb-true}
use lib.Dec.{lit<}
use lib.Pow.{pow_pos}
use lib.Ieee.{binary32, Float, inf, round, add, sub, lt, below, of_bits, to_bits, of_int, to_signed}
use lib.Ieee.Exact.{HasValue}
use Rattle.format.specs.Fields.{sign_bit, one_word}
use Rattle.format.specs.Value.{units, Finite}
use Rattle.format.specs.Classes.{is_endless}
use Rattle.format.specs.Whole.{floor_word}
use Rattle.format.specs.Cast.{last_size, signed, IsClipped, IsNothing}
use Rattle.format.proofs.Classes.{finite_of}
use Rattle.format.proofs.Nan.{nan_read, inf_read}
use Rattle.format.proofs.Value.{word_value, lt_values}

-- the end of the range on a side of 0, as a float: 2 ^ 31 on either, since 2 ^ 31 - 1 rounds up
abbrev end_of : Bool → Float
end_of s = of_int binary32 (signed s (last_size 31 s))

end_value : (s : Bool) → HasValue (end_of s) s (2 ^ 31) 1
unfolding of_int round
end_value true = (refl, refl)
end_value false = (refl, refl)

-- floor takes 1 off where the number is below that float, and what is left rounds to the same
answer : (s : Bool) → to_bits binary32 (cond s (sub binary32 (end_of s) (of_bits binary32 (one_word binary32))) (end_of s)) ≡ sign_bit binary32 s + 0x4f00_0000
unfolding add sub of_int round of_bits to_bits
answer true = refl
answer false = refl

-- a number that is past the end is below its float on the side below 0, and not on the other
beyond : (s : Bool) (u : ℕ) → suc (last_size 31 s) * 2 ^ 149 ≤ u → below s (u * 1) s (2 ^ 31 * 2 ^ 149) ≡ s
beyond true u h = lt-ltb (2 ^ 31 * 2 ^ 149) (u * 1) (rw (mul-one u) (lt_of_lt_of_le (lit< tt) h))
beyond false u h = le-ltb (u * 1) (2 ^ 31 * 2 ^ 149) (rw (mul-one u) h)

infinite : (s : Bool) → lt (inf s) (end_of s) ≡ s
unfolding lt of_int round
infinite true = refl
infinite false = refl

module _ (s : Bool) (w : ℕ) (c : IsClipped binary32 31 s w (to_signed 31 (of_bits binary32 w))) where
  test : lt (of_bits binary32 w) (end_of s) ≡ s
  test = go (is_endless binary32 w) refl
    where
      go : (b : Bool) → is_endless binary32 w ≡ b → lt (of_bits binary32 w) (end_of s) ≡ s
      go true e = ap (λ (x : Float). lt x (end_of s)) (inf_read binary32 w (eqb-true _ _ e) c.number ∙ ap inf c.side) ∙ infinite s
      go false e =
          let k : Finite binary32 w = finite_of binary32 w e in
          lt_values (of_bits binary32 w) (end_of s) s s (units binary32 w) (2 ^ 149) (2 ^ 31) 1 (pow_pos 149) (lit< tt)
          (subst (λ (t : Bool). HasValue (of_bits binary32 w) t (units binary32 w) (2 ^ 149)) c.side (word_value binary32 w k)) (end_value s)
          ∙ beyond s (units binary32 w) (c.past k)

  pub floor_of_clipped : floor_word binary32 w ≡ sign_bit binary32 s + 0x4f00_0000
  floor_of_clipped = rw (c.end, test) (answer s)

pub floor_of_nothing : (w : ℕ) → IsNothing binary32 w (to_signed 31 (of_bits binary32 w)) → floor_word binary32 w ≡ 0
unfolding lt of_int round to_bits to_signed
floor_of_nothing w c = rw (nan_read binary32 w c.nan)
