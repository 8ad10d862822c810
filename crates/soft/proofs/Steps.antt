-- The steps of the kernels on words: an operand is read as a number anyway, so no NaN has to be put right on the way. Assumes nothing.
use Prim.Native.Nat.{ℕ, ◌<◌, ◌^◌}
use mathlib.Core.Path.{◌≡◌, refl, sym, ap, ◌∙◌}
use mathlib.Core.Bool.{Bool, true, false, cond}
use lib.IntN.{ℤ}
use lib.Ieee.{Float, nan, binary32, lt, sub, div, nan_bits, of_bits, to_bits, of_int, to_signed}
use lib.Ieee.Bits.{of_bits-to_bits, to_bits-lt}
use lib.Ieee.Fits.{of_int-fits, nan-fits, div-fits}
use Rattle.format.specs.Fields.{nan_word, negative, one_word}
use Rattle.format.specs.Sign.{abs_word}
use Rattle.format.specs.Whole.{floor_word, through_int}
use Rattle.format.proofs.Nan.{nan_read, nan_written}
use Rattle.float.specs.Engine.{ieee}
use Rattle.float.specs.Cos.{turns, centred, parabola, refined, cos_word, sin_word}
use Rattle.float.specs.Atan.{first_quadrant, signed_answer, atan_norm_word, atan_word}
use Rattle.soft.specs.Words.{add_word, sub_word, mul_word, div_word, one_nan, soft}
use Rattle.soft.proofs.Engines.{cos_agree, sin_agree, atan_norm_agree, atan_agree}

operand : (w : ℕ) → of_bits binary32 (one_nan w) ≡ of_bits binary32 w
operand w = go (nan_bits binary32 w) refl
  where
    go : (b : Bool) → nan_bits binary32 w ≡ b → of_bits binary32 (cond b (nan_word binary32) w) ≡ of_bits binary32 w
    go true n = ap (of_bits binary32) (sym (nan_written binary32)) ∙ of_bits-to_bits binary32 nan (nan-fits binary32) ∙ sym (nan_read binary32 w n)
    go false n = refl

module _ (x y : ℕ) where
  mul_first : mul_word binary32 (one_nan x) y ≡ mul_word binary32 x y
  unfolding mul_word
  mul_first = rw (operand x)

  mul_second : mul_word binary32 x (one_nan y) ≡ mul_word binary32 x y
  unfolding mul_word
  mul_second = rw (operand y)

  add_first : add_word binary32 (one_nan x) y ≡ add_word binary32 x y
  unfolding add_word
  add_first = rw (operand x)

  add_second : add_word binary32 x (one_nan y) ≡ add_word binary32 x y
  unfolding add_word
  add_second = rw (operand y)

  sub_first : sub_word binary32 (one_nan x) y ≡ sub_word binary32 x y
  unfolding sub_word
  sub_first = rw (operand x)

  sub_second : sub_word binary32 x (one_nan y) ≡ sub_word binary32 x y
  unfolding sub_word
  sub_second = rw (operand y)

-- ---- cos

abbrev plus : ℕ → ℕ → ℕ
plus = add_word binary32

abbrev less : ℕ → ℕ → ℕ
less = sub_word binary32

abbrev times : ℕ → ℕ → ℕ
times = mul_word binary32

turns_is : (w : ℕ) → times w 0x3e22_f983 ≡ turns soft (one_nan w)
turns_is w = sym (mul_first w (one_nan 0x3e22_f983) ∙ mul_second w 0x3e22_f983)

centred_is : (t : ℕ) → less t (plus 0x3e80_0000 (floor_word binary32 (plus t 0x3e80_0000))) ≡ centred soft t
centred_is t =
    sym
    (ap (less t)
    (add_first 0x3e80_0000 (one_nan (floor_word binary32 (plus t (one_nan 0x3e80_0000))))
    ∙ add_second 0x3e80_0000 (floor_word binary32 (plus t (one_nan 0x3e80_0000)))
    ∙ ap (λ (z : ℕ). plus 0x3e80_0000 (floor_word binary32 z)) (add_second t 0x3e80_0000)))

parabola_is : (t : ℕ) → times t (times 0x4180_0000 (less (abs_word binary32 t) 0x3f00_0000)) ≡ parabola soft t
parabola_is t =
    sym
    (ap (times t)
    (mul_first 0x4180_0000 (less (one_nan (abs_word binary32 t)) (one_nan 0x3f00_0000))
    ∙ ap (times 0x4180_0000) (sub_first (abs_word binary32 t) (one_nan 0x3f00_0000) ∙ sub_second (abs_word binary32 t) 0x3f00_0000)))

refined_is : (p : ℕ) → plus p (times (times 0x3e66_6666 p) (less (abs_word binary32 p) 0x3f80_0000)) ≡ refined soft p
refined_is p =
    sym
    (ap (plus p)
    (ap (λ (z : ℕ). times z (less (one_nan (abs_word binary32 p)) (one_nan 0x3f80_0000))) (mul_first 0x3e66_6666 p)
    ∙ ap (times (times 0x3e66_6666 p)) (sub_first (abs_word binary32 p) (one_nan 0x3f80_0000) ∙ sub_second (abs_word binary32 p) 0x3f80_0000)))

-- the code's steps, each by its result
pub cos_steps : (w t q g c d e p m : ℕ) → w < 2 ^ 32 → t ≡ times w 0x3e22_f983 → q ≡ plus 0x3e80_0000 (floor_word binary32 g) → g ≡ plus t 0x3e80_0000 → c ≡ less t q → d ≡ abs_word binary32 c
    → p ≡ times c (times 0x4180_0000 (less d 0x3f00_0000)) → e ≡ abs_word binary32 p → m ≡ times (times 0x3e66_6666 p) (less e 0x3f80_0000)
    → (plus p m ≡ cos_word soft w) × (plus p m ≡ cos_word ieee w)
unfolding cos_word
cos_steps w t q g c d e p m h ht hq hg hc hd hp he hm = (steps, steps ∙ cos_agree w h)
  where
    c_is : c ≡ centred soft t
    c_is = hc ∙ ap (less t) (hq ∙ ap (λ (z : ℕ). plus 0x3e80_0000 (floor_word binary32 z)) hg) ∙ centred_is t

    p_is : p ≡ parabola soft c
    p_is = hp ∙ ap (λ (z : ℕ). times c (times 0x4180_0000 (less z 0x3f00_0000))) hd ∙ parabola_is c

    steps : plus p m ≡ cos_word soft w
    steps =
        ap (plus p) (hm ∙ ap (λ (z : ℕ). times (times 0x3e66_6666 p) (less z 0x3f80_0000)) he)
        ∙ refined_is p
        ∙ ap (refined soft) (p_is ∙ ap (parabola soft) (c_is ∙ ap (centred soft) (ht ∙ turns_is w)))

-- sin, by the cosine of its difference
pub sin_steps : (w v r : ℕ) → w < 2 ^ 32 → v ≡ less w 0x3fc9_0fdb → r ≡ cos_word soft v → (r ≡ sin_word soft w) × (r ≡ sin_word ieee w)
unfolding sin_word
sin_steps w v r h hv hr = (steps, steps ∙ sin_agree w h)
  where
    steps : r ≡ sin_word soft w
    steps = hr ∙ ap (cos_word soft) (hv ∙ sym (sub_first w (one_nan 0x3fc9_0fdb) ∙ sub_second w 0x3fc9_0fdb))

-- ---- atan_norm

abbrev bent : ℕ → ℕ
bent w = abs_word binary32 (times 0x3f18_a255 w)

abbrev over : ℕ → ℕ → ℕ
over b c = div_word binary32 (plus b c) (plus (plus 0x3f80_0000 b) (plus b c))

abbrev full : ℕ → ℕ → ℕ
full b c = div_word binary32 (plus b c) (plus (plus (one_nan 0x3f80_0000) b) (plus b c))

quadrant_is : (w : ℕ) → over (bent w) (times w w) ≡ first_quadrant soft (one_nan w)
quadrant_is w =
    sym
    (ap (λ (z : ℕ). full (one_nan (abs_word binary32 z)) (times (one_nan w) (one_nan w))) (mul_first 0x3f18_a255 (one_nan w) ∙ mul_second 0x3f18_a255 w)
    ∙ ap (full (one_nan (bent w))) (mul_first w (one_nan w) ∙ mul_second w w)
    ∙ ap (λ (z : ℕ). div_word binary32 z (plus (plus (one_nan 0x3f80_0000) (one_nan (bent w))) z)) (add_first (bent w) (times w w))
    ∙ ap (λ (z : ℕ). div_word binary32 (plus (bent w) (times w w)) (plus z (plus (bent w) (times w w)))) (add_first 0x3f80_0000 (one_nan (bent w)) ∙ add_second 0x3f80_0000 (bent w)))

pub atan_steps : (w b s n o q r : ℕ) → w < 2 ^ 32 → b ≡ bent w → s ≡ times w w → n ≡ plus b s → o ≡ plus 0x3f80_0000 b → q ≡ div_word binary32 n (plus o n) → r ≡ signed_answer (negative binary32 w) q
    → (r ≡ atan_norm_word soft w) × (r ≡ atan_norm_word ieee w)
unfolding atan_norm_word
atan_steps w b s n o q r h hb hs hn ho hq hr = (steps, steps ∙ atan_norm_agree w h)
  where
    q_is : q ≡ first_quadrant soft (one_nan w)
    q_is =
        hq
        ∙ ap (λ (z : ℕ). div_word binary32 n (plus z n)) ho
        ∙ ap (λ (z : ℕ). div_word binary32 z (plus (plus 0x3f80_0000 b) z)) hn
        ∙ ap (over b) hs
        ∙ ap (λ (z : ℕ). over z (times w w)) hb
        ∙ quadrant_is w

    steps : r ≡ atan_norm_word soft w
    steps = hr ∙ ap (signed_answer (negative binary32 w)) q_is

-- atan, by its share of a quarter turn
pub radian_steps : (w v r : ℕ) → w < 2 ^ 32 → v ≡ atan_norm_word soft w → r ≡ times 0x3fc9_0fdb v → (r ≡ atan_word soft w) × (r ≡ atan_word ieee w)
unfolding atan_word
radian_steps w v r h hv hr = (steps, steps ∙ atan_agree w h)
  where
    steps : r ≡ atan_word soft w
    steps = hr ∙ ap (times 0x3fc9_0fdb) hv ∙ sym (mul_first 0x3fc9_0fdb (one_nan (atan_norm_word soft w)) ∙ mul_second 0x3fc9_0fdb (atan_norm_word soft w))

-- ---- floor

module _ (w v : ℕ) (z : ℤ) (e : v ≡ to_bits binary32 (of_int binary32 z)) (i : z ≡ to_signed 31 (of_bits binary32 w)) where
  back : of_bits binary32 v ≡ through_int binary32 (of_bits binary32 w)
  back = ap (of_bits binary32) e ∙ of_bits-to_bits binary32 (of_int binary32 z) (of_int-fits binary32 z) ∙ ap (of_int binary32) i

  pub floor_below : lt (of_bits binary32 w) (of_bits binary32 v) ≡ true → sub_word binary32 v (one_word binary32) ≡ floor_word binary32 w
  unfolding sub_word
  floor_below l = ap (λ (x : Float). to_bits binary32 (sub binary32 x (of_bits binary32 (one_word binary32)))) back ∙ sym (ap (λ (b : Bool). to_bits binary32 (cond b (sub binary32 (through_int binary32 (of_bits binary32 w)) (of_bits binary32 (one_word binary32))) (through_int binary32 (of_bits binary32 w)))) (sym (ap (lt (of_bits binary32 w)) back) ∙ l))

  pub floor_whole : lt (of_bits binary32 w) (of_bits binary32 v) ≡ false → v ≡ floor_word binary32 w
  floor_whole l = e ∙ ap (λ (y : ℤ). to_bits binary32 (of_int binary32 y)) i ∙ sym (ap (λ (b : Bool). to_bits binary32 (cond b (sub binary32 (through_int binary32 (of_bits binary32 w)) (of_bits binary32 (one_word binary32))) (through_int binary32 (of_bits binary32 w)))) (sym (ap (lt (of_bits binary32 w)) back) ∙ l))

pub div_lt : (a b r : ℕ) → r ≡ div_word binary32 a b → r < 2 ^ 32
unfolding div_word
div_lt a b r e = rw e (to_bits-lt binary32 (div binary32 (of_bits binary32 a) (of_bits binary32 b)) (div-fits binary32 (of_bits binary32 a) (of_bits binary32 b)))
