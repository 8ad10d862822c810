-- As the number grows sqrt's answer never falls, from +0 up to the infinity, nor does a guarded root where it answers, and the answers of
-- invsqrt and inv never rise, inv's up to where its subtraction wraps; and inv is odd to the bit. Assumes nothing.
use Prim.Native.Nat.{ℕ, ◌+◌, ◌-◌, ◌*◌, ◌/◌, ◌^◌, ◌≤◌, ◌<◌}
use native.Mathlib.Nat.{mod-eq_of_lt, le_trans, le_of_lt}
use native.Mathlib.Omega.{arith}
use mathlib.Core.Path.{◌≡◌, refl, sym, ◌∙◌}
use mathlib.Core.Bool.{Bool, true, false, cond, false≢true}
use borrow.Author.Tests.{leb-true, lt-leb, eq-eqb}
use lib.Dec.{lit<, lit≤}
use lib.Ieee.{Format, binary32, binary64, hid, top, le, lt, eq, of_bits}
use Rattle.format.specs.Fields.{width, magnitude, inf_word, one_word}
use Rattle.format.specs.Value.{units}
use Rattle.format.specs.Classes.{is_zero}
use Rattle.format.specs.Estimates.{sqrt_word, inv_magic, inv_word, invsqrt_magic, invsqrt_word, Normal}
use Rattle.format.specs.Ordered.{Unsigned, Unwrapped, NoLarger, OddAt}
use Rattle.format.proofs.Order.{no_wrap}
use Rattle.format.proofs.AtLeastZero.{units_zero}
use Rattle.format.proofs.Classes.{no_units}
use Rattle.format.proofs.Larger.{magnitude_mono}
use Rattle.format.proofs.Normal.{below_top}
use Rattle.format.proofs.Halved.{halved_up}
use Rattle.format.proofs.Compared.{to_infinity, from_infinity, order_of_words, no_larger}
use Rattle.format.proofs.Inv.{magic_below, magic_fits, inv_sign}

-- ---- sqrt

-- the half of 1's word, and that of 1's with the infinity's
ends : (f : Format) → (hid f ≤ one_word f / 2) × ((inf_word f + one_word f) / 2 < inf_word f)
ends binary32 = (lit≤ tt, lit< tt)
ends binary64 = (lit≤ tt, lit< tt)

-- each answer is a positive normal number
pub sqrt_normal : (f : Format) (w : ℕ) → Unsigned f w → Normal f (sqrt_word f w)
sqrt_normal f w u =
    let h = to_infinity f w u in
    let e = ends f in
    rw (halved_up f w h) (record { above = omega arith; below = omega arith })

pub sqrt_keeps_order : (f : Format) (w v : ℕ) → Unsigned f v → w ≤ v → NoLarger f (sqrt_word f w) (sqrt_word f v)
sqrt_keeps_order f w v u h =
    let k = to_infinity f v u in
    no_larger f (sqrt_word f w) (sqrt_word f v) (rw (halved_up f w (le_trans h k), halved_up f v k) (omega arith)) (le_of_lt (sqrt_normal f v u).below)

-- the same of two numbers that IEEE 754 compares
pub sqrt_rises : (f : Format) (w v : ℕ) → Unsigned f w → Unsigned f v → le (of_bits f w) (of_bits f v) ≡ true → NoLarger f (sqrt_word f w) (sqrt_word f v)
sqrt_rises f w v p q h = sqrt_keeps_order f w v q (leb-true w v (sym (order_of_words f w v p q) ∙ h))

-- a guarded root, where a zero is its own and any other number is normal: the root of the larger of two numbers is no smaller
pub root_keeps_order : (f : Format) (w v : ℕ) → (is_zero f w ≡ false → Normal f w) → (is_zero f v ≡ false → Normal f v) → units f w ≤ units f v
    → units f (cond (is_zero f w) w (sqrt_word f w)) ≤ units f (cond (is_zero f v) v (sqrt_word f v))
root_keeps_order f w v n m h = go (is_zero f w) (is_zero f v) refl refl
  where
    as_is : (x : ℕ) → Normal f x → magnitude f x ≡ x
    as_is x k = mod-eq_of_lt (below_top f x k.below)

    go : (s t : Bool) → is_zero f w ≡ s → is_zero f v ≡ t → units f (cond s w (sqrt_word f w)) ≤ units f (cond t v (sqrt_word f v))
    go true t p q = rw (no_units f w p) (omega arith)
    go false true p q =
        let z : units f w ≡ 0 = let k = no_units f v q in omega arith in
        absurd (false≢true (sym p ∙ units_zero f w ∙ eq-eqb (units f w) 0 z))
    go false false p q =
        let k = m q in
        let l : w ≤ v = rw (as_is w (n p), as_is v k) at (magnitude_mono f w v h) in
        (sqrt_keeps_order f w v (from_infinity f v (le_of_lt k.below)) l).amounts

-- it does not always rise, as from +0 to the number next to it; and past the infinity the answers' words fall, from a NaN's root to that of -0
pub sqrt_rests : sqrt_word binary32 0x0000_0000 ≡ sqrt_word binary32 0x0000_0001
unfolding le lt eq of_bits
sqrt_rests = refl

pub sqrt_falls_past : sqrt_word binary32 0x8000_0000 < sqrt_word binary32 0x7f80_0001
unfolding le lt eq of_bits
sqrt_falls_past = lit< tt

-- ---- invsqrt, at binary32

invsqrt_answer : (w : ℕ) → w ≤ inf_word binary32 → invsqrt_word w ≡ invsqrt_magic - w / 2
invsqrt_answer w h = no_wrap (2 ^ 32) invsqrt_magic (w / 2) (omega arith) (lit< tt)

pub invsqrt_turns_order : (w v : ℕ) → Unsigned binary32 v → w ≤ v → NoLarger binary32 (invsqrt_word v) (invsqrt_word w)
invsqrt_turns_order w v u h =
    let k = to_infinity binary32 v u in
    let i = le_trans h k in
    no_larger binary32 (invsqrt_word v) (invsqrt_word w) (rw (invsqrt_answer v k, invsqrt_answer w i) (omega arith)) (rw (invsqrt_answer w i) (omega arith))

-- ---- inv

inv_answer : (f : Format) (w : ℕ) → Unwrapped f w → inv_word f w ≡ inv_magic f - w
inv_answer f w h = no_wrap (2 ^ width f) (inv_magic f) w h (magic_fits f)

pub inv_turns_order : (f : Format) (w v : ℕ) → Unwrapped f v → w ≤ v → NoLarger f (inv_word f v) (inv_word f w)
inv_turns_order f w v u h =
    let i : Unwrapped f w = le_trans h u in
    no_larger f (inv_word f v) (inv_word f w) (rw (inv_answer f v u, inv_answer f w i) (omega arith)) (rw (inv_answer f w i) (omega (arith, magic_below f)))

-- it never rests, as words and as numbers
pub inv_apart : (f : Format) (w v : ℕ) → Unwrapped f v → w < v → (inv_word f v < inv_word f w) × (le (of_bits f (inv_word f w)) (of_bits f (inv_word f v)) ≡ false)
inv_apart f w v u h =
    let i : Unwrapped f w = le_trans (le_of_lt h) u in
    let apart : inv_word f v < inv_word f w = rw (inv_answer f v u, inv_answer f w i) (omega arith) in
    let unsigned : (x : ℕ) → Unwrapped f x → Unsigned f (inv_word f x) = λ x k. from_infinity f (inv_word f x) (rw (inv_answer f x k) (omega (arith, magic_below f))) in
    (apart, order_of_words f (inv_word f w) (inv_word f v) (unsigned w i) (unsigned v u) ∙ lt-leb (inv_word f w) (inv_word f v) apart)

-- past 2 ^ 127 the subtraction wraps: from 0 to the last word of all, a NaN
pub inv_wraps : (inv_word binary32 0x7f00_0000 ≡ 0x0000_0000) × (inv_word binary32 0x7f00_0001 ≡ 0xffff_ffff)
inv_wraps = (refl, refl)

-- turning the operand's sign turns the answer's, of every word
pub inv_odd : (f : Format) (w : ℕ) → w < 2 * top f → OddAt f (inv_word f) w
inv_odd = inv_sign
