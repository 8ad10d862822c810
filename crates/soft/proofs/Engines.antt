-- The two engines have the same words: each step on words is the first engine's step on the numbers that they are. Assumes nothing.
use Prim.Native.Nat.{ℕ, ◌+◌, ◌^◌, ◌<◌}
use native.Mathlib.Nat.{lt_of_lt_of_le}
use native.Mathlib.Omega.{arith}
use mathlib.Core.Path.{◌≡◌, refl, sym, ap, subst, ◌∙◌}
use mathlib.Core.Bool.{Bool, true, false, not, cond, ◌||◌}
use lib.Dec.{T, ltb, lit<, lit≤}
use lib.Ieee.{Float, binary32, add, sub, mul, div, fits, is_nan, nan_bits, of_bits, to_bits}
use lib.Ieee.Bits.{of_bits-to_bits, to_bits-of_bits, to_bits-lt, of_bits-fits, nan_bits_is}
use lib.Ieee.Fits.{add-fits, sub-fits, mul-fits, div-fits}
use Rattle.format.specs.Fields.{negative, magnitude, sign_bit, nan_word}
use Rattle.format.specs.Sign.{abs_word}
use Rattle.format.specs.Whole.{floor_word, floor_value}
use Rattle.format.proofs.Fields.{magnitude_lt}
use Rattle.format.proofs.Nan.{nan_read, nan_written}
use Rattle.format.proofs.Whole.{floor_fits}
use Rattle.float.specs.Engine.{ieee, abs_of, floor_of}
use Rattle.float.specs.Cos.{turns, centred, parabola, refined, cos_word, sin_word}
use Rattle.float.specs.Atan.{first_quadrant, signed_answer, atan_norm_word, atan_word}
use Rattle.soft.proofs.Classes.{operated}
use Rattle.soft.specs.Words.{add_word, sub_word, mul_word, div_word, one_nan, soft}

-- a number of the first engine and its word
pub record Same (x : Float) (w : ℕ) : Type 0 where
  pub held : T (fits binary32 x)
  pub is : to_bits binary32 x ≡ w

read : (x : Float) (w : ℕ) → Same x w → of_bits binary32 w ≡ x
read x w s = ap (of_bits binary32) (sym s.is) ∙ of_bits-to_bits binary32 x s.held

same_by : (op : Float → Float → Float) (x y : Float) (u v : ℕ) → T (fits binary32 (op x y)) → Same x u → Same y v → Same (op x y) (to_bits binary32 (op (of_bits binary32 u) (of_bits binary32 v)))
same_by op x y u v h p q = record { held = h; is = sym (operated binary32 op u v x y (op x y) (read x u p) (read y v q) refl) }

pub same_add : (x y : Float) (u v : ℕ) → Same x u → Same y v → Same (add binary32 x y) (add_word binary32 u v)
unfolding add_word
same_add x y u v p q = same_by (add binary32) x y u v (add-fits binary32 x y) p q

pub same_sub : (x y : Float) (u v : ℕ) → Same x u → Same y v → Same (sub binary32 x y) (sub_word binary32 u v)
unfolding sub_word
same_sub x y u v p q = same_by (sub binary32) x y u v (sub-fits binary32 x y) p q

pub same_mul : (x y : Float) (u v : ℕ) → Same x u → Same y v → Same (mul binary32 x y) (mul_word binary32 u v)
unfolding mul_word
same_mul x y u v p q = same_by (mul binary32) x y u v (mul-fits binary32 x y) p q

pub same_div : (x y : Float) (u v : ℕ) → Same x u → Same y v → Same (div binary32 x y) (div_word binary32 u v)
unfolding div_word
same_div x y u v p q = same_by (div binary32) x y u v (div-fits binary32 x y) p q

not_nan : (w : ℕ) → nan_bits binary32 w ≡ false → T (not (is_nan (of_bits binary32 w)))
not_nan w n = subst (λ (b : Bool). T (not b)) (sym n ∙ nan_bits_is binary32 w) tt

-- a word read, and written again: a NaN is the one NaN
pub same_number : (w : ℕ) → w < 2 ^ 32 → Same (ieee.number w) (soft.number w)
same_number w h = record { held = of_bits-fits binary32 w; is = go (nan_bits binary32 w) refl }
  where
    go : (b : Bool) → nan_bits binary32 w ≡ b → to_bits binary32 (of_bits binary32 w) ≡ cond b (nan_word binary32) w
    go true n = ap (to_bits binary32) (nan_read binary32 w n) ∙ nan_written binary32
    go false n = to_bits-of_bits binary32 w h (not_nan w n)

pub same_abs : (x : Float) (w : ℕ) → Same x w → Same (abs_of ieee x) (abs_of soft w)
same_abs x w s = rw s.is (same_number (abs_word binary32 w) (lt_of_lt_of_le (magnitude_lt binary32 w) (lit≤ tt)))

pub same_floor : (x : Float) (w : ℕ) → Same x w → Same (floor_of ieee x) (floor_of soft w)
same_floor x w s = rw s.is (same_number (floor_word binary32 w) (to_bits-lt binary32 (floor_value binary32 (of_bits binary32 w)) (floor_fits binary32 (of_bits binary32 w))))

-- ---- the kernels

module _ (w : ℕ) (h : w < 2 ^ 32) where
  abbrev k : (c : ℕ) → T (ltb c (2 ^ 32)) → Same (of_bits binary32 c) (one_nan c)
  k c t = same_number c (lit< t)

  same_turns : (x : Float) (u : ℕ) → Same x u → Same (turns ieee x) (turns soft u)
  same_turns x u s = same_mul _ _ _ _ s (k 0x3e22_f983 tt)

  same_centred : (x : Float) (u : ℕ) → Same x u → Same (centred ieee x) (centred soft u)
  same_centred x u s = same_sub _ _ _ _ s (same_add _ _ _ _ (k 0x3e80_0000 tt) (same_floor _ _ (same_add _ _ _ _ s (k 0x3e80_0000 tt))))

  same_parabola : (x : Float) (u : ℕ) → Same x u → Same (parabola ieee x) (parabola soft u)
  same_parabola x u s = same_mul _ _ _ _ s (same_mul _ _ _ _ (k 0x4180_0000 tt) (same_sub _ _ _ _ (same_abs _ _ s) (k 0x3f00_0000 tt)))

  same_refined : (x : Float) (u : ℕ) → Same x u → Same (refined ieee x) (refined soft u)
  same_refined x u s = same_add _ _ _ _ s (same_mul _ _ _ _ (same_mul _ _ _ _ (k 0x3e66_6666 tt) s) (same_sub _ _ _ _ (same_abs _ _ s) (k 0x3f80_0000 tt)))

  pub cos_agree : cos_word soft w ≡ cos_word ieee w
  unfolding cos_word
  cos_agree = sym (same_refined _ _ (same_parabola _ _ (same_centred _ _ (same_turns _ _ (same_number w h))))).is

  same_quadrant : (x : Float) (u : ℕ) → Same x u → Same (first_quadrant ieee x) (first_quadrant soft u)
  same_quadrant x u s =
      let b = same_abs _ _ (same_mul _ _ _ _ (k 0x3f18_a255 tt) s) in
      let n = same_add _ _ _ _ b (same_mul _ _ _ _ s s) in
      same_div _ _ _ _ n (same_add _ _ _ _ (same_add _ _ _ _ (k 0x3f80_0000 tt) b) n)

  pub atan_norm_agree : atan_norm_word soft w ≡ atan_norm_word ieee w
  unfolding atan_norm_word
  atan_norm_agree = ap (signed_answer (negative binary32 w)) (sym (same_quadrant _ _ (same_number w h)).is)

-- the words in between are of 32 bits
word_lt : (x : Float) (w : ℕ) → Same x w → w < 2 ^ 32
word_lt x w s = subst (λ (z : ℕ). z < 2 ^ 32) s.is (to_bits-lt binary32 x s.held)

answer_lt : (s : Bool) (w : ℕ) → signed_answer s w < 2 ^ 32
answer_lt s w = go (nan_bits binary32 w) (s || negative binary32 w)
  where
    go : (b t : Bool) → cond b (nan_word binary32) (sign_bit binary32 t + magnitude binary32 w) < 2 ^ 32
    go true t = lit< tt
    go false true = omega (arith, magnitude_lt binary32 w)
    go false false = omega (arith, magnitude_lt binary32 w)

-- sin goes through cos, and atan through atan_norm
pub sin_agree : (w : ℕ) → w < 2 ^ 32 → sin_word soft w ≡ sin_word ieee w
unfolding sin_word
sin_agree w h =
    let s = same_sub _ _ _ _ (same_number w h) (same_number 0x3fc9_0fdb (lit< tt)) in
    cos_agree _ (word_lt _ _ s) ∙ ap (cos_word ieee) (sym s.is)

pub atan_agree : (w : ℕ) → w < 2 ^ 32 → atan_word soft w ≡ atan_word ieee w
unfolding atan_word atan_norm_word
atan_agree w h =
    ap (λ (z : ℕ). mul_word binary32 (one_nan 0x3fc9_0fdb) (one_nan z)) (atan_norm_agree w h)
    ∙ sym (same_mul _ _ _ _ (same_number 0x3fc9_0fdb (lit< tt)) (same_number (atan_norm_word ieee w) (answer_lt (negative binary32 w) (to_bits binary32 (first_quadrant ieee (of_bits binary32 w)))))).is
