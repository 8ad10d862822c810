-- acos's answer is a number, not a NaN, for a zero and for operands from 2 ^ -60 and under 1: there the root over the operand is below 2 ^ 61.
-- Assumes nothing.
use Prim.Native.Nat.{ℕ, ◌^◌, ◌≤◌, ◌<◌}
use native.Mathlib.Nat.{lt_of_le_of_lt}
use native.Mathlib.Omega.{arith}
use mathlib.Core.Path.{◌≡◌, refl}
use mathlib.Core.Logic.{◌⊎◌, inl, inr}
use mathlib.Core.Bool.{Bool, true, false, cond}
use lib.Dec.{lit<}
use lib.Ieee.{binary32, lt, eq, nan_bits, of_bits, to_bits}
use lib.Ieee.Fits.{add-fits, div-fits}
use Rattle.format.specs.Fields.{magnitude}
use Rattle.format.specs.Estimates.{sqrt_word}
use Rattle.format.proofs.Nan.{finite_number}
use Rattle.format.proofs.Order.{either}
use Rattle.format.proofs.AtLeastZero.{up_to_infinity}
use Rattle.float.specs.Engine.{ieee}
use Rattle.float.specs.Atan.{atan_word}
use Rattle.float.specs.Rounded.{◌⊕◌, number}
use Rattle.float.specs.Asin.{rest_word}
use Rattle.float.specs.Acos.{slope_word, acos_word}
use Rattle.sizes.proofs.Size.{AtMost, div_at_most}
use Rattle.sizes.proofs.Words.{constant, word_at_most, word_at_least, at_most_word, number_word}
use Rattle.sizes.proofs.Numbers.{add_number}
use Rattle.sizes.proofs.Quotient.{read_number}
use Rattle.sizes.proofs.Atan.{atan_number}
use Rattle.sizes.proofs.Asin.{Rest, rest_is}

root_at_most : (v : ℕ) → Rest v → AtMost binary32 0x3fc0_0000 (of_bits binary32 (sqrt_word binary32 v))
root_at_most v r = word_at_most binary32 (sqrt_word binary32 v) 0x3fc0_0000 (lit< tt) (rw (up_to_infinity binary32 v (omega (arith, r.below))) (omega (arith, r.below)))

angle_number : (w : ℕ) → 0x2180_0000 ≤ magnitude binary32 w → magnitude binary32 w < 0x3f80_0000 → nan_bits binary32 (atan_word ieee (slope_word w)) ≡ false
angle_number w l h =
    let x = word_at_least binary32 w 0x2180_0000 (finite_number binary32 w (omega arith)) l in
    let q = div_at_most 0x5e00_0000 (root_at_most (rest_word w) (rest_is w h)) x tt in
    atan_number (slope_word w) (lt_of_le_of_lt (at_most_word binary32 0x5e00_0000 _ (div-fits binary32 _ _) q) (lit< tt))

half_turn : nan_bits binary32 0x3fc9_0fdb ≡ false
unfolding nan_bits
half_turn = refl

-- both zeros
zero_number : (w : ℕ) → (w ≡ 0) ⊎ (w ≡ 2 ^ 31) → nan_bits binary32 (acos_word w) ≡ false
unfolding acos_word lt eq of_bits
zero_number w (inl e) = rw e half_turn
zero_number w (inr e) = rw e half_turn

zero_word : (w : ℕ) → w < 2 ^ 32 → magnitude binary32 w ≡ 0 → (w ≡ 0) ⊎ (w ≡ 2 ^ 31)
zero_word w l e = elim (either (2 ^ 31) w) [ inl g ↦ inr (omega arith) | inr g ↦ inl (omega arith) ]

pub acos_number : (w : ℕ) → w < 2 ^ 32 → (magnitude binary32 w ≡ 0) ⊎ ((0x2180_0000 ≤ magnitude binary32 w) × (magnitude binary32 w < 0x3f80_0000))
    → nan_bits binary32 (acos_word w) ≡ false
unfolding acos_word
acos_number w l (inl e) = zero_number w (zero_word w l e)
acos_number w l (inr h) = go (lt (number 0) (number w)) (eq (number w) (number 0))
  where
    angle : ℕ
    angle = atan_word ieee (slope_word w)

    angle_is : nan_bits binary32 angle ≡ false
    angle_is = angle_number w h.0 h.1

    go : (a b : Bool) → nan_bits binary32 (cond a angle (cond b 0x3fc9_0fdb (to_bits binary32 (number angle ⊕ number 0x4049_0fdb)))) ≡ false
    go true b = angle_is
    go false true = half_turn
    go false false = number_word binary32 _ (add-fits binary32 _ _) (add_number binary32 (number angle) (number 0x4049_0fdb) (read_number angle angle_is) (constant binary32 0x4049_0fdb tt).finite)
