-- What the kernels answer to a NaN, whatever its sign and its other bits: exp and div_euclid an infinity, the others the one NaN. Assumes nothing.
use Rattle.std.proofs.Common.{◌≡◌, ℕ, Bool, true, false, cond, sym, refl, ap, ◌∙◌}
use lib.Ieee.{Float, binary32, nan, inf, fin, add, sub, mul, div, rem, lt, le, eq, nan_bits, of_bits, to_bits, of_int, to_signed}
use Rattle.format.specs.Fields.{negative}
use Rattle.format.specs.Sign.{abs_word}
use Rattle.format.specs.Parts.{trunc_word, written}
use Rattle.format.proofs.Nan.{nan_read}
use Rattle.float.specs.Engine.{ieee, abs_of}
use Rattle.float.specs.Cos.{cos_word, sin_word}
use Rattle.float.specs.Atan.{sign_or, quotient, first_quadrant, atan_norm_word, atan_word}
use Rattle.float.specs.Atan2.{ratio, quarters, within_half, atan2_word}
use Rattle.float.specs.Asin.{asin_word}
use Rattle.float.specs.Acos.{acos_word}
use Rattle.float.specs.Tan.{tan_word}
use Rattle.float.specs.RemEuclid.{remainder, is_not_below, rem_euclid_word}
use Rattle.float.specs.DivEuclid.{div_euclid_word}
use Rattle.float.specs.Exp.{series, power_word, exp_word}
use Rattle.float.proofs.Signs.{nan_answered}

the_nan_is : nan_bits binary32 0x7fc0_0000 ≡ true
unfolding nan_bits
the_nan_is = refl

exp_computed : exp_word 0x7fc0_0000 ≡ 0x7f80_0000
unfolding exp_word power_word series written add sub mul div lt eq of_bits to_bits to_signed
exp_computed = refl

cos_computed : cos_word ieee 0x7fc0_0000 ≡ 0x7fc0_0000
unfolding cos_word add sub mul lt of_bits to_bits of_int to_signed
cos_computed = refl

sin_computed : sin_word ieee 0x7fc0_0000 ≡ 0x7fc0_0000
unfolding sin_word cos_word add sub mul lt of_bits to_bits of_int to_signed
sin_computed = refl

quotient_computed : nan_bits binary32 (to_bits binary32 (first_quadrant ieee (of_bits binary32 0x7fc0_0000))) ≡ true
unfolding add mul div nan_bits of_bits to_bits
quotient_computed = refl

atan_computed : to_bits binary32 (mul binary32 (of_bits binary32 0x3fc9_0fdb) (of_bits binary32 0x7fc0_0000)) ≡ 0x7fc0_0000
unfolding mul of_bits to_bits
atan_computed = refl

asin_computed : asin_word 0x7fc0_0000 ≡ 0x7fc0_0000
unfolding asin_word atan_word atan_norm_word add sub mul div nan_bits of_bits to_bits
asin_computed = refl

acos_computed : acos_word 0x7fc0_0000 ≡ 0x7fc0_0000
unfolding acos_word atan_word atan_norm_word add sub mul div lt le eq nan_bits of_bits to_bits
acos_computed = refl

over_computed : to_bits binary32 (div binary32 (of_bits binary32 0x7fc0_0000) (of_bits binary32 0x7fc0_0000)) ≡ 0x7fc0_0000
unfolding div of_bits to_bits
over_computed = refl

module _ (w : ℕ) (n : nan_bits binary32 w ≡ true) where
  -- it is read as the one NaN
  read : of_bits binary32 w ≡ of_bits binary32 0x7fc0_0000
  read = nan_read binary32 w n ∙ sym (nan_read binary32 0x7fc0_0000 the_nan_is)

  pub exp_of_nan : exp_word w ≡ 0x7f80_0000
  unfolding exp_word
  exp_of_nan = rw read exp_computed

  pub cos_of_nan : cos_word ieee w ≡ 0x7fc0_0000
  unfolding cos_word
  cos_of_nan = rw read cos_computed

  pub sin_of_nan : sin_word ieee w ≡ 0x7fc0_0000
  unfolding sin_word
  sin_of_nan = rw read sin_computed

  pub atan_norm_of_nan : atan_norm_word ieee w ≡ 0x7fc0_0000
  unfolding atan_norm_word
  atan_norm_of_nan = rw read (sym (nan_answered (negative binary32 w) (to_bits binary32 (first_quadrant ieee (of_bits binary32 0x7fc0_0000))) quotient_computed))

  pub atan_of_nan : atan_word ieee w ≡ 0x7fc0_0000
  unfolding atan_word
  atan_of_nan = rw atan_norm_of_nan atan_computed

  pub asin_of_nan : asin_word w ≡ 0x7fc0_0000
  unfolding asin_word
  asin_of_nan = rw read asin_computed

  pub acos_of_nan : acos_word w ≡ 0x7fc0_0000
  unfolding acos_word
  acos_of_nan = rw read acos_computed

  pub tan_of_nan : tan_word w ≡ 0x7fc0_0000
  unfolding tan_word
  tan_of_nan = rw (sin_of_nan, cos_of_nan) over_computed

-- ---- atan2, of which one operand is a NaN

add_left : (x : Float) → add binary32 nan x ≡ nan
unfolding add
add_left x = refl

add_right : (x : Float) → add binary32 x nan ≡ nan
unfolding add
add_right nan = refl
add_right (inf s) = refl
add_right (fin s m e) = refl

mul_left : (x : Float) → mul binary32 nan x ≡ nan
unfolding mul
mul_left x = refl

mul_right : (x : Float) → mul binary32 x nan ≡ nan
unfolding mul
mul_right nan = refl
mul_right (inf s) = refl
mul_right (fin s m e) = refl

div_left : (x : Float) → div binary32 nan x ≡ nan
unfolding div
div_left x = refl

abs_computed : abs_of ieee nan ≡ nan
unfolding of_bits to_bits
abs_computed = refl

-- a NaN above the line is enough
quotient_nan : (a b c : Float) → add binary32 b c ≡ nan → quotient ieee a b c ≡ nan
quotient_nan a b c e = ap (λ (n : Float). div binary32 n (add binary32 (add binary32 a b) n)) e ∙ div_left _

ratio_of_y : (x : Float) → ratio nan x ≡ nan
ratio_of_y x = quotient_nan _ _ _ (rw (mul_left nan) (add_right _))

ratio_of_x : (y : Float) → ratio y nan ≡ nan
ratio_of_x y = quotient_nan _ _ _ (rw (mul_right (of_bits binary32 0x3f18_a255), mul_left y, abs_computed) (add_left _))

signed_computed : (s : Bool) → of_bits binary32 (sign_or s (to_bits binary32 nan)) ≡ nan
unfolding of_bits to_bits
signed_computed true = refl
signed_computed false = refl

quarters_of : (y x : ℕ) → ratio (of_bits binary32 y) (of_bits binary32 x) ≡ nan → quarters y x ≡ nan
unfolding quarters
quarters_of y x e = rw (e, signed_computed) (add_right _)

within_computed : to_bits binary32 (mul binary32 (of_bits binary32 0x3fc9_0fdb) (within_half nan)) ≡ 0x7fc0_0000
unfolding sub mul lt of_bits to_bits
within_computed = refl

atan2_of : (y x : ℕ) → ratio (of_bits binary32 y) (of_bits binary32 x) ≡ nan → atan2_word y x ≡ 0x7fc0_0000
unfolding atan2_word
atan2_of y x e = ap (λ (q : Float). to_bits binary32 (mul binary32 (of_bits binary32 0x3fc9_0fdb) (within_half q))) (quarters_of y x e) ∙ within_computed

pub atan2_of_nan_y : (y x : ℕ) → nan_bits binary32 y ≡ true → atan2_word y x ≡ 0x7fc0_0000
atan2_of_nan_y y x n = atan2_of y x (rw (nan_read binary32 y n) (ratio_of_y (of_bits binary32 x)))

pub atan2_of_nan_x : (y x : ℕ) → nan_bits binary32 x ≡ true → atan2_word y x ≡ 0x7fc0_0000
atan2_of_nan_x y x n = atan2_of y x (rw (nan_read binary32 x n) (ratio_of_x (of_bits binary32 y)))

-- ---- the two euclids, of which one operand is a NaN: trunc reads the quotient's bits, so div_euclid's answer is an infinity

div_right : (x : Float) → div binary32 x nan ≡ nan
unfolding div
div_right nan = refl
div_right (inf s) = refl
div_right (fin s m e) = refl

rem_left : (x : Float) → rem binary32 nan x ≡ nan
unfolding rem
rem_left x = refl

rem_right : (x : Float) → rem binary32 x nan ≡ nan
unfolding rem
rem_right nan = refl
rem_right (inf s) = refl
rem_right (fin s m e) = refl

more_than_nan : (x : Float) → to_bits binary32 (cond (is_not_below nan) nan (add binary32 nan x)) ≡ 0x7fc0_0000
unfolding add le lt eq of_bits to_bits
more_than_nan x = refl

rem_euclid_of : (w v : ℕ) → remainder w v ≡ nan → rem_euclid_word w v ≡ 0x7fc0_0000
unfolding rem_euclid_word
rem_euclid_of w v e = rw e (more_than_nan (of_bits binary32 (abs_word binary32 v)))

-- trunc's answer to the NaN is an infinity, and a step either way leaves it
past_nan : (b : Bool) → let q = trunc_word binary32 (to_bits binary32 nan) in
    cond (is_not_below nan) q (to_bits binary32 (cond b (sub binary32 (of_bits binary32 q) (of_bits binary32 0x3f80_0000)) (add binary32 (of_bits binary32 q) (of_bits binary32 0x3f80_0000)))) ≡ 0x7f80_0000
unfolding add sub le lt eq of_bits to_bits
past_nan true = refl
past_nan false = refl

div_euclid_of : (w v : ℕ) → div binary32 (of_bits binary32 w) (of_bits binary32 v) ≡ nan → remainder w v ≡ nan → div_euclid_word w v ≡ 0x7f80_0000
unfolding div_euclid_word
div_euclid_of w v d e = rw (d, e) (past_nan (lt (of_bits binary32 0) (of_bits binary32 v)))

pub rem_euclid_of_nan : (w v : ℕ) → nan_bits binary32 w ≡ true → rem_euclid_word w v ≡ 0x7fc0_0000
rem_euclid_of_nan w v n = rem_euclid_of w v (rw (nan_read binary32 w n) (rem_left (of_bits binary32 v)))

pub rem_euclid_by_nan : (w v : ℕ) → nan_bits binary32 v ≡ true → rem_euclid_word w v ≡ 0x7fc0_0000
rem_euclid_by_nan w v n = rem_euclid_of w v (rw (nan_read binary32 v n) (rem_right (of_bits binary32 w)))

pub div_euclid_of_nan : (w v : ℕ) → nan_bits binary32 w ≡ true → div_euclid_word w v ≡ 0x7f80_0000
div_euclid_of_nan w v n = let e = nan_read binary32 w n in div_euclid_of w v (rw e (div_left (of_bits binary32 v))) (rw e (rem_left (of_bits binary32 v)))

pub div_euclid_by_nan : (w v : ℕ) → nan_bits binary32 v ≡ true → div_euclid_word w v ≡ 0x7f80_0000
div_euclid_by_nan w v n = let e = nan_read binary32 v n in div_euclid_of w v (rw e (div_right (of_bits binary32 w))) (rw e (rem_right (of_bits binary32 w)))
