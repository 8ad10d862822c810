-- An exponent field or-ed onto a word whose own was masked away is the word that `set_exponent_word` names. Assumes nothing.
use Prim.Native.Nat.{ℕ, ◌+◌, ◌-◌, ◌*◌, ◌/◌, ◌%◌, ◌^◌, ◌<◌}
use native.Mathlib.Nat.{mod-lt, mul-pos, lt_of_lt_of_le, add_assoc}
use native.Mathlib.Omega.{arith}
use mathlib.Core.Path.{◌≡◌, refl, sym, ap, ◌∙◌}
use mathlib.Core.Bool.{Bool, true, false, cond, ◌||◌}
use lib.Dec.{lit<}
use lib.Bits.{bit_and, bit_or, and_mask, and_block, or_block, or_shifted_r}
use lib.Pow.{pow_pos, pow_mono, ones_lt, split, mod-mod-pow}
use lib.Ieee.{Format, binary32, binary64, hid, ones, top}
use Rattle.format.specs.Fields.{negative}
use Rattle.format.specs.Exponent.{moved, set_exponent_word}
use Rattle.format.proofs.Fields.{top_pos}
use Rattle.format.proofs.Masks.{bit, high_bit}

either_bit : (k : ℕ) (a b : Bool) → bit_or (bit a) (bit b) * k ≡ cond (a || b) (1 * k) (0 * k)
either_bit k true true = refl
either_bit k true false = refl
either_bit k false true = refl
either_bit k false false = refl

one_bit : (s : Bool) → bit_and (bit s) 1 ≡ bit s
one_bit true = refl
one_bit false = refl

-- p digits of fraction below j of exponent, and the sign above them
module _ (j p : ℕ) where
  masked : (w : ℕ) (s : Bool) → w / 2 ^ (j + p) ≡ bit s → bit_and w (1 * 2 ^ (j + p) + (2 ^ p - 1)) ≡ bit s * 2 ^ (j + p) + w % 2 ^ p
  masked w s e =
      ap (λ (x : ℕ). bit_and x (1 * 2 ^ (j + p) + (2 ^ p - 1))) (sym (split w (j + p)))
      ∙ and_block (j + p) (w / 2 ^ (j + p)) 1 (w % 2 ^ (j + p)) (2 ^ p - 1) (mod-lt w (pow_pos (j + p))) (lt_of_lt_of_le (ones_lt p) (pow_mono (omega arith)))
      ∙ ap (λ (x : ℕ). bit_and x 1 * 2 ^ (j + p) + bit_and (w % 2 ^ (j + p)) (2 ^ p - 1)) e
      ∙ ap (λ (x : ℕ). x * 2 ^ (j + p) + bit_and (w % 2 ^ (j + p)) (2 ^ p - 1)) (one_bit s)
      ∙ ap (λ (x : ℕ). bit s * 2 ^ (j + p) + x) (and_mask (w % 2 ^ (j + p)) p ∙ mod-mod-pow w j p)

  joined : (s u : Bool) (t o : ℕ) → t < 2 ^ p → o / 2 ^ (j + p) ≡ bit u → o % 2 ^ (j + p) ≡ o % 2 ^ (j + p) / 2 ^ p * 2 ^ p
      → bit_or (bit s * 2 ^ (j + p) + t) o ≡ cond (s || u) (1 * 2 ^ (j + p)) (0 * 2 ^ (j + p)) + (o % 2 ^ (j + p) + t)
  joined s u t o h e m =
      ap (bit_or (bit s * 2 ^ (j + p) + t)) (sym (split o (j + p)))
      ∙ or_block (j + p) (bit s) (o / 2 ^ (j + p)) t (o % 2 ^ (j + p)) (lt_of_lt_of_le h (pow_mono (omega arith))) (mod-lt o (pow_pos (j + p)))
      ∙ ap (λ (x : ℕ). bit_or (bit s) x * 2 ^ (j + p) + bit_or t (o % 2 ^ (j + p))) e
      ∙ ap (λ (x : ℕ). x + bit_or t (o % 2 ^ (j + p))) (either_bit (2 ^ (j + p)) s u)
      ∙ ap (λ (x : ℕ). cond (s || u) (1 * 2 ^ (j + p)) (0 * 2 ^ (j + p)) + x)
      (ap (bit_or t) m ∙ or_shifted_r (o % 2 ^ (j + p) / 2 ^ p) p t h ∙ ap (λ (x : ℕ). x + t) (sym m))

  or_field : (s u : Bool) (w o : ℕ) → w / 2 ^ (j + p) ≡ bit s → o / 2 ^ (j + p) ≡ bit u → o % 2 ^ (j + p) ≡ o % 2 ^ (j + p) / 2 ^ p * 2 ^ p
      → bit_or (bit_and w (1 * 2 ^ (j + p) + (2 ^ p - 1))) o ≡ cond (s || u) (1 * 2 ^ (j + p)) (0 * 2 ^ (j + p)) + o % 2 ^ (j + p) + w % 2 ^ p
  or_field s u w o e d m =
      ap (λ (x : ℕ). bit_or x o) (masked w s e)
      ∙ joined s u (w % 2 ^ p) o (mod-lt w (pow_pos p)) d m
      ∙ sym (add_assoc (cond (s || u) (1 * 2 ^ (j + p)) (0 * 2 ^ (j + p))) (o % 2 ^ (j + p)) (w % 2 ^ p))

moved_lt : (f : Format) (n : ℕ) → moved f n < 2 * top f
moved_lt f n = mod-lt (n * hid f) (mul-pos (lit< tt) (top_pos f))

pub set_field : (f : Format) (w n : ℕ) → w < 2 * top f → bit_or (bit_and w (2 * top f - 1 - ones f * hid f)) (moved f n) ≡ set_exponent_word f w n
set_field binary32 w n h =
    or_field 8 23 (negative binary32 w) (negative binary32 (moved binary32 n)) w (moved binary32 n)
    (high_bit binary32 w h _ refl) (high_bit binary32 (moved binary32 n) (moved_lt binary32 n) _ refl) (omega arith)
set_field binary64 w n h =
    or_field 11 52 (negative binary64 w) (negative binary64 (moved binary64 n)) w (moved binary64 n)
    (high_bit binary64 w h _ refl) (high_bit binary64 (moved binary64 n) (moved_lt binary64 n) _ refl) (omega arith)
