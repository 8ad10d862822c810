-- hypot of two words: of numbers the sum of the squares is no NaN and its sign is clear, so its root is half of its word's sum with that of 1; a NaN is handed on to the answer.
-- Assumes nothing.
use Prim.Native.Nat.{ℕ, ◌+◌, ◌/◌, ◌^◌, ◌≤◌, ◌<◌}
use native.Mathlib.Nat.{mod-eq_of_lt}
use native.Mathlib.Omega.{arith}
use mathlib.Core.Path.{◌≡◌, refl, sym, ap, ◌∙◌}
use mathlib.Core.Bool.{Bool, true, false, not, cond, ◌||◌}
use borrow.Author.Tests.{leb-false, ltb-false}
use lib.Dec.{T, lit≤}
use lib.Ieee.{Float, nan, inf, fin, binary32, top, add, mul, le, is_nan, fits, nan_bits, of_bits, to_bits}
use lib.Ieee.Bits.{nan_bits_above}
use lib.Ieee.Fits.{add-fits}
use Rattle.format.specs.Fields.{magnitude}
use Rattle.format.specs.Estimates.{sqrt_word}
use Rattle.format.proofs.AtLeastZero.{up_to_infinity}
use Rattle.format.proofs.Nan.{nan_read}
use Rattle.float.specs.Hypot.{hypot_word}
use Rattle.sizes.proofs.Size.{NotNegative, square_not_negative, add_not_negative}
use Rattle.sizes.proofs.Words.{number_word, sign_word}
use Rattle.sizes.proofs.Quotient.{read_number}
use Rattle.strip.proofs.Sized.{and_nan}

-- ---- a value that is not negative

is_number : (x : Float) → NotNegative x → is_nan x ≡ false
unfolding is_nan
is_number nan h = absurd h.plus
is_number (inf s) h = refl
is_number (fin s m e) h = refl

clear_sign_bit : (x : Float) → T (fits binary32 x) → NotNegative x → to_bits binary32 x ≤ 0x7f80_0000
clear_sign_bit nan t h = absurd h.plus
clear_sign_bit (inf s) t h = rw h.plus (unfold to_bits in lit≤ tt)
clear_sign_bit (fin s m e) t h =
    let w = to_bits binary32 (fin s m e) in
    let l : w < top binary32 = leb-false (top binary32) w (sign_word binary32 (fin s m e) t tt h) in
    let k = ltb-false 0x7f80_0000 (magnitude binary32 w) (sym (nan_bits_above binary32 w) ∙ number_word binary32 (fin s m e) t (is_number (fin s m e) h)) in
    omega (arith, k, mod-eq_of_lt l)

-- ---- of two numbers

abbrev squares : Float → Float → Float
squares x y = add binary32 (mul binary32 x x) (mul binary32 y y)

module _ (w v : ℕ) (p : nan_bits binary32 w ≡ false) (q : nan_bits binary32 v ≡ false) where
  abbrev total : Float
  total = squares (of_bits binary32 w) (of_bits binary32 v)

  plus : NotNegative total
  plus = add_not_negative binary32 (square_not_negative binary32 _ (read_number w p)) (square_not_negative binary32 _ (read_number v q))

  pub total_number : T (not (is_nan total))
  total_number = rw (is_number total plus) tt

  pub total_word : to_bits binary32 total ≤ 0x7f80_0000
  total_word = clear_sign_bit total (add-fits binary32 _ _) plus

  pub halved : (to_bits binary32 total + 0x3f80_0000) / 2 ≡ hypot_word w v
  unfolding hypot_word
  halved = sym (rw (up_to_infinity binary32 (to_bits binary32 total) total_word, mod-eq_of_lt {n = to_bits binary32 total + 0x3f80_0000} {m = 2 ^ 32} (omega (arith, total_word))))

-- ---- of any two words

root_nan : sqrt_word binary32 (to_bits binary32 nan) ≡ 0x7fc0_0000
unfolding le of_bits to_bits
root_nan = refl

first_nan : (y : Float) → squares nan y ≡ nan
unfolding add mul
first_nan y = refl

second_nan : (x : Float) → squares x nan ≡ nan
unfolding mul
second_nan x = and_nan binary32 (mul binary32 x x)

of_nan : (w v : ℕ) → squares (of_bits binary32 w) (of_bits binary32 v) ≡ nan → 0x7fc0_0000 ≡ hypot_word w v
unfolding hypot_word
of_nan w v e = sym (ap (λ (s : Float). sqrt_word binary32 (to_bits binary32 s)) e ∙ root_nan)

pub answered : (w v : ℕ) → let t = nan_bits binary32 w || nan_bits binary32 v in cond t 0x7fc0_0000 (hypot_word (cond t 0 w) (cond t 0 v)) ≡ hypot_word w v
answered w v = go (nan_bits binary32 w) (nan_bits binary32 v) refl refl
  where
    go : (s t : Bool) → nan_bits binary32 w ≡ s → nan_bits binary32 v ≡ t → cond (s || t) 0x7fc0_0000 (hypot_word (cond (s || t) 0 w) (cond (s || t) 0 v)) ≡ hypot_word w v
    go true t p q = of_nan w v (ap (λ (x : Float). squares x (of_bits binary32 v)) (nan_read binary32 w p) ∙ first_nan (of_bits binary32 v))
    go false true p q = of_nan w v (ap (squares (of_bits binary32 w)) (nan_read binary32 v q) ∙ second_nan (of_bits binary32 w))
    go false false p q = refl
