-- A mask or an or on a word is one of its fields or two fields joined, so code may say either. Assumes nothing.
use Prim.Native.Nat.{ℕ, ◌+◌, ◌-◌, ◌*◌, ◌/◌, ◌%◌, ◌^◌, ◌<◌}
use native.Mathlib.Nat.{zero-add, mod-lt, mul-div_cancel}
use native.Mathlib.Omega.{arith}
use mathlib.Core.Path.{◌≡◌, refl, sym, ap, ◌∙◌}
use mathlib.Core.Bool.{Bool, true, false, not, cond}
use lib.Bits.{bit_and, bit_or, bit_xor, and_mask, and_high, or_shifted_r, or_zero_r, xor_block, xor_zero_r}
use lib.Pow.{pow_pos, split, field}
use borrow.Author.Tests.{leb-true, leb-false}
use lib.Ieee.{Format, binary32, binary64, hid, ones, top}
use Rattle.format.specs.Fields.{negative, magnitude, exponent, fraction, sign_bit}
use Rattle.format.specs.Sign.{turned_word}
use Rattle.format.proofs.Fields.{hid_pos}

pub clear_sign : (f : Format) (w : ℕ) → bit_and w (top f - 1) ≡ magnitude f w
clear_sign binary32 w = and_mask w 31
clear_sign binary64 w = and_mask w 63

pub only_fraction : (f : Format) (w : ℕ) → bit_and w (hid f - 1) ≡ fraction f w
only_fraction binary32 w = and_mask w 23
only_fraction binary64 w = and_mask w 52

pub only_field : (f : Format) (w : ℕ) → bit_and w (ones f * hid f) ≡ exponent f w * hid f
only_field binary32 w = and_high w 8 23 ∙ ap (λ (x : ℕ). x * 2 ^ 23) (sym (field w 8 23))
only_field binary64 w = and_high w 11 52 ∙ ap (λ (x : ℕ). x * 2 ^ 52) (sym (field w 11 52))

-- a word's highest bit, which is all that stands at its weight
abbrev pub bit : Bool → ℕ
bit s = cond s 1 0

pub high_bit : (f : Format) (w : ℕ) → w < 2 * top f → (s : Bool) → negative f w ≡ s → w / top f ≡ bit s
high_bit binary32 w h true e = omega (arith, leb-true (top binary32) w e)
high_bit binary32 w h false e = omega (arith, leb-false (top binary32) w e)
high_bit binary64 w h true e = omega (arith, leb-true (top binary64) w e)
high_bit binary64 w h false e = omega (arith, leb-false (top binary64) w e)

sign_share : (k : ℕ) (s : Bool) → bit s % 2 ^ 1 * k ≡ cond s (1 * k) (0 * k)
sign_share k true = refl
sign_share k false = refl

sign_at : (k w : ℕ) (s : Bool) → w / 2 ^ k ≡ bit s → bit_and w (2 ^ (1 + k) - 2 ^ k) ≡ cond s (1 * 2 ^ k) (0 * 2 ^ k)
sign_at k w s e = and_high w 1 k ∙ ap (λ (x : ℕ). x % 2 ^ 1 * 2 ^ k) e ∙ sign_share (2 ^ k) s

pub only_sign : (f : Format) (w : ℕ) → w < 2 * top f → bit_and w (top f) ≡ sign_bit f (negative f w)
only_sign binary32 w h = sign_at 31 w (negative binary32 w) (high_bit binary32 w h (negative binary32 w) refl)
only_sign binary64 w h = sign_at 63 w (negative binary64 w) (high_bit binary64 w h (negative binary64 w) refl)

other_bit : (k : ℕ) (s : Bool) → bit_xor (bit s) 1 * k ≡ cond (not s) (1 * k) (0 * k)
other_bit k true = refl
other_bit k false = refl

turned_at : (k w : ℕ) (s : Bool) → w / 2 ^ k ≡ bit s → bit_xor w (1 * 2 ^ k + 0) ≡ cond (not s) (1 * 2 ^ k) (0 * 2 ^ k) + w % 2 ^ k
turned_at k w s e =
    ap (λ (x : ℕ). bit_xor x (1 * 2 ^ k + 0)) (sym (split w k))
    ∙ xor_block k (w / 2 ^ k) 1 (w % 2 ^ k) 0 (mod-lt w (pow_pos k)) (pow_pos k)
    ∙ ap (λ (x : ℕ). bit_xor x 1 * 2 ^ k + bit_xor (w % 2 ^ k) 0) e
    ∙ ap (λ (x : ℕ). x + bit_xor (w % 2 ^ k) 0) (other_bit (2 ^ k) s)
    ∙ ap (λ (x : ℕ). cond (not s) (1 * 2 ^ k) (0 * 2 ^ k) + x) (xor_zero_r (w % 2 ^ k))

pub turn_sign : (f : Format) (w : ℕ) → w < 2 * top f → bit_xor w (top f) ≡ turned_word f w
turn_sign binary32 w h = turned_at 31 w (negative binary32 w) (high_bit binary32 w h (negative binary32 w) refl)
turn_sign binary64 w h = turned_at 63 w (negative binary64 w) (high_bit binary64 w h (negative binary64 w) refl)

pub join_sign : (f : Format) (s : Bool) (m : ℕ) → m < top f → bit_or m (sign_bit f s) ≡ sign_bit f s + m
join_sign binary32 true m h = or_shifted_r 1 31 m h
join_sign binary64 true m h = or_shifted_r 1 63 m h
join_sign f false m h = or_zero_r m ∙ sym (zero-add m)

-- the exponent field moved down to the lowest place
pub field_down : (f : Format) (w : ℕ) → bit_and w (ones f * hid f) / hid f ≡ exponent f w
field_down f w = ap (λ (x : ℕ). x / hid f) (only_field f w) ∙ mul-div_cancel (exponent f w) (hid_pos f)
