-- hypot's answer is a number, not a NaN, up to 2 ^ 62: the squares and their sum are finite and not negative, and of such a word sqrt's answer is one.
-- Assumes nothing.
use Prim.Native.Nat.{ℕ, ◌*◌, ◌≤◌, ◌<◌}
use native.Mathlib.Nat.{mod-eq_of_lt, div-lt_iff_lt-mul}
use native.Mathlib.Omega.{arith}
use mathlib.Core.Path.{◌≡◌, refl}
use mathlib.Core.Bool.{false}
use borrow.Author.Tests.{leb-false}
use lib.Dec.{T, lit<}
use lib.Ieee.{Float, nan, inf, fin, binary32, up, down, hid, ones, top, fits, nan_bits, of_bits, to_bits}
use lib.Ieee.Fits.{add-fits}
use Rattle.format.specs.Fields.{magnitude}
use Rattle.format.proofs.Fields.{hid_pos}
use Rattle.format.proofs.Value.{value_word}
use Rattle.float.specs.Hypot.{hypot_word}
use Rattle.sizes.proofs.Size.{AtMost, mul_at_most, add_at_most, NotNegative, square_not_negative, add_not_negative}
use Rattle.sizes.proofs.Words.{word_at_most, at_most_number}
use Rattle.sizes.proofs.Bitwise.{sqrt_of_word}

-- the word of a finite value that is not negative
clear_word : (b : ℕ) (x : Float) → T (fits binary32 x) → AtMost binary32 b x → NotNegative x → to_bits binary32 x ≤ 0x7f80_0000
clear_word b nan t h k = absurd h.finite
clear_word b (inf s) t h k = absurd h.finite
clear_word b (fin s m e) t h k =
    let w = to_bits binary32 (fin s m e) in
    let held = value_word binary32 (fin s m e) false (m * up e) (down e) t (k.plus, refl) in
    let l : w < top binary32 = leb-false (top binary32) w held.sign in
    let g : magnitude binary32 w < ones binary32 * hid binary32 = (div-lt_iff_lt-mul (hid_pos binary32)).0 held.finite in
    omega (arith, mod-eq_of_lt l)

pub hypot_number : (w v : ℕ) → magnitude binary32 w ≤ 0x5e80_0000 → magnitude binary32 v ≤ 0x5e80_0000
    → nan_bits binary32 (hypot_word w v) ≡ false
unfolding hypot_word
hypot_number w v h k =
    let x = of_bits binary32 w in
    let y = of_bits binary32 v in
    let xs : AtMost binary32 0x5e80_0000 x = word_at_most binary32 w 0x5e80_0000 (lit< tt) h in
    let ys : AtMost binary32 0x5e80_0000 y = word_at_most binary32 v 0x5e80_0000 (lit< tt) k in
    let total = add_at_most 0x7e00_0000 (mul_at_most 0x7d80_0000 xs xs tt) (mul_at_most 0x7d80_0000 ys ys tt) tt in
    let plus = add_not_negative binary32 (square_not_negative binary32 x (at_most_number xs)) (square_not_negative binary32 y (at_most_number ys)) in
    sqrt_of_word _ (clear_word 0x7e00_0000 _ (add-fits binary32 _ _) total plus)
