-- The sign bits of the arctangents: or-ed onto a word and onto an answer, and of two operands made into the offset. Assumes nothing.
use Rattle.std.proofs.Common.{◌≡◌, ℕ, ◌+◌, ◌-◌, ◌*◌, ◌/◌, ◌%◌, ◌^◌, ◌<◌, Bool, true, false, cond, ◌⊎◌, sym, refl, ap, ◌∙◌, inl, inr, mod-lt, pow_pos}
use lib.Bits.{bit_and, bit_or, bit_xor, or_block, or_zero_l}
use lib.Pow.{split}
use lib.Ieee.{binary32, unlike, nan_bits}
use Rattle.format.specs.Fields.{negative, sign_bit}
use Rattle.format.proofs.Fields.{sign_and_magnitude}
use Rattle.format.proofs.Masks.{bit, high_bit, only_sign}
use Rattle.float.specs.Atan.{sign_or, signed_answer}
use Rattle.float.specs.Atan2.{offset}

set_stays : (s : Bool) → bit_or 1 (bit s) ≡ 1
set_stays true = refl
set_stays false = refl

pub or_sign : (s : Bool) (w : ℕ) → w < 2 ^ 32 → bit_or (sign_bit binary32 s) w ≡ sign_or s w
or_sign true w h =
    ap (bit_or (1 * 2 ^ 31 + 0)) (sym (split w 31))
    ∙ or_block 31 1 (w / 2 ^ 31) 0 (w % 2 ^ 31) (pow_pos 31) (mod-lt w (pow_pos 31))
    ∙ ap (λ (x : ℕ). bit_or 1 x * 2 ^ 31 + bit_or 0 (w % 2 ^ 31)) (high_bit binary32 w h (negative binary32 w) refl)
    ∙ ap (λ (x : ℕ). x * 2 ^ 31 + bit_or 0 (w % 2 ^ 31)) (set_stays (negative binary32 w))
    ∙ ap (λ (x : ℕ). 2 ^ 31 + x) (or_zero_l (w % 2 ^ 31))
or_sign false w h = or_zero_l w ∙ sym (sign_and_magnitude binary32 w h)

pub nan_answered : (s : Bool) (w : ℕ) → nan_bits binary32 w ≡ true → 0x7fc0_0000 ≡ signed_answer s w
nan_answered s w n = rw n

pub or_answered : (w r : ℕ) → w < 2 ^ 32 → r < 2 ^ 32 → nan_bits binary32 r ≡ false → bit_or (bit_and w 0x8000_0000) r ≡ signed_answer (negative binary32 w) r
or_answered w r h k n = ap (λ (x : ℕ). bit_or x r) (only_sign binary32 w h) ∙ or_sign (negative binary32 w) r k ∙ sym (rw n)

-- ---- two operands

xor_bits : (s t : Bool) → bit_xor (sign_bit binary32 s) (sign_bit binary32 t) ≡ sign_bit binary32 (unlike s t)
xor_bits true true = refl
xor_bits true false = refl
xor_bits false true = refl
xor_bits false false = refl

offset_bits : (s t : Bool) → bit_or (bit_and (0xffff_ffff - sign_bit binary32 s) (sign_bit binary32 t) / 2 ^ 29) (sign_bit binary32 s / 2 ^ 30) ≡ cond s 2 (cond t 4 0)
offset_bits true true = refl
offset_bits true false = refl
offset_bits false true = refl
offset_bits false false = refl

module _ (y x : ℕ) (y_lt : y < 2 ^ 32) (x_lt : x < 2 ^ 32) where
  pub signs_or : (r : ℕ) → r < 2 ^ 32 → bit_or (bit_xor (bit_and x 0x8000_0000) (bit_and y 0x8000_0000)) r ≡ sign_or (unlike (negative binary32 x) (negative binary32 y)) r
  signs_or r h =
      let s = negative binary32 x in
      let t = negative binary32 y in
      ap (λ (a : ℕ). bit_or (bit_xor a (bit_and y 0x8000_0000)) r) (only_sign binary32 x x_lt)
      ∙ ap (λ (b : ℕ). bit_or (bit_xor (sign_bit binary32 s) b) r) (only_sign binary32 y y_lt)
      ∙ ap (λ (a : ℕ). bit_or a r) (xor_bits s t)
      ∙ or_sign (unlike s t) r h

  pub offset_is : bit_or (bit_and (0xffff_ffff - bit_and x 0x8000_0000) (bit_and y 0x8000_0000) / 2 ^ 29) (bit_and x 0x8000_0000 / 2 ^ 30) ≡ offset y x
  offset_is =
      let s = negative binary32 x in
      let t = negative binary32 y in
      ap (λ (a : ℕ). bit_or (bit_and (0xffff_ffff - a) (bit_and y 0x8000_0000) / 2 ^ 29) (a / 2 ^ 30)) (only_sign binary32 x x_lt)
      ∙ ap (λ (b : ℕ). bit_or (bit_and (0xffff_ffff - sign_bit binary32 s) b / 2 ^ 29) (sign_bit binary32 s / 2 ^ 30)) (only_sign binary32 y y_lt)
      ∙ offset_bits s t

-- atan2's offset is one of three numbers
pub offset_one_of : (y x : ℕ) → (offset y x ≡ 0) ⊎ ((offset y x ≡ 2) ⊎ (offset y x ≡ 4))
offset_one_of y x = go (negative binary32 x) (negative binary32 y)
  where
    go : (s t : Bool) → let n : ℕ = cond s 2 (cond t 4 0) in (n ≡ 0) ⊎ ((n ≡ 2) ⊎ (n ≡ 4))
    go true t = inr (inl refl)
    go false true = inr (inr refl)
    go false false = inl refl
