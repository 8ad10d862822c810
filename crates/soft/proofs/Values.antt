-- A sum, a product and a quotient of `lib.Ieee` where an operand is a NaN, an infinity or a zero, and a quotient by the sizes of its operands.
-- Assumes nothing.
use Prim.Native.Nat.{ℕ, zero, suc, ◌*◌, ◌<◌}
use native.Mathlib.Nat.{lt_irrefl, mul-pos, zero-mul, zero-lt-suc}
use native.Mathlib.Omega.{arith}
use mathlib.Core.Path.{◌≡◌, refl, sym, ap, subst, ◌∙◌}
use mathlib.Core.Bool.{Bool, false, cond, beq}
use borrow.Author.Tests.{eq-eqb, ne_eqb}
use lib.IntN.{pos}
use lib.Dec.{eqb, eqb-suc-zero}
use lib.Ieee.{Format, Float, nan, inf, fin, unlike, up, down, round, add, mul, div}
use lib.Ieee.Exact.{HasValue}
use lib.Ieee.Fits.{up_pos, down_pos}
use lib.Ieee.Scale.{round_same}

-- a value is zero where its size is
same_zero : (m a u c d : ℕ) → 0 < u → 0 < c → 0 < d → m * u * c ≡ a * d → eqb m 0 ≡ eqb a 0
same_zero zero zero u c d U C D e = refl
same_zero zero (suc a) u c d U C D e = absurd (lt_irrefl 0 (subst (λ (z : ℕ). 0 < z) (sym e ∙ ap (λ (z : ℕ). z * c) (zero-mul u) ∙ zero-mul c) (mul-pos (zero-lt-suc a) D)))
same_zero (suc m) zero u c d U C D e = absurd (lt_irrefl 0 (subst (λ (z : ℕ). 0 < z) (e ∙ zero-mul d) (mul-pos (mul-pos (zero-lt-suc m) U) C)))
same_zero (suc m) (suc a) u c d U C D e = eqb-suc-zero m ∙ sym (eqb-suc-zero a)

-- ---- multiply

pub mul_inf_first : (f : Format) (s t : Bool) (y : Float) (b d : ℕ) → 0 < d → HasValue y t b d → mul f (inf s) y ≡ cond (eqb b 0) nan (inf (unlike s t))
unfolding mul
mul_inf_first f s t nan b d D v = absurd v
mul_inf_first f s t (inf i) b d D v = absurd v
mul_inf_first f s t (fin i m e) b d D v = rw (same_zero m b (up e) d (down e) (up_pos e) D (down_pos e) v.1, v.0)

pub mul_inf_second : (f : Format) (s t : Bool) (x : Float) (a c : ℕ) → 0 < c → HasValue x s a c → mul f x (inf t) ≡ cond (eqb a 0) nan (inf (unlike s t))
unfolding mul
mul_inf_second f s t nan a c C v = absurd v
mul_inf_second f s t (inf i) a c C v = absurd v
mul_inf_second f s t (fin i m e) a c C v = rw (same_zero m a (up e) c (down e) (up_pos e) C (down_pos e) v.1, v.0)

pub mul_nan_second : (f : Format) (x : Float) → mul f x nan ≡ nan
unfolding mul
mul_nan_second f nan = refl
mul_nan_second f (inf s) = refl
mul_nan_second f (fin s m e) = refl

pub mul_nan_first : (f : Format) (y : Float) → mul f nan y ≡ nan
unfolding mul
mul_nan_first f y = refl

pub mul_inf_inf : (f : Format) (s t : Bool) → mul f (inf s) (inf t) ≡ inf (unlike s t)
unfolding mul
mul_inf_inf f s t = refl

-- ---- divide

pub div_nan_first : (f : Format) (y : Float) → div f nan y ≡ nan
unfolding div
div_nan_first f y = refl

pub div_nan_second : (f : Format) (x : Float) → div f x nan ≡ nan
unfolding div
div_nan_second f nan = refl
div_nan_second f (inf s) = refl
div_nan_second f (fin s m e) = refl

pub div_inf_inf : (f : Format) (s t : Bool) → div f (inf s) (inf t) ≡ nan
unfolding div
div_inf_inf f s t = refl

pub div_inf_first : (f : Format) (s t : Bool) (y : Float) (b d : ℕ) → HasValue y t b d → div f (inf s) y ≡ inf (unlike s t)
unfolding div
div_inf_first f s t nan b d v = absurd v
div_inf_first f s t (inf i) b d v = absurd v
div_inf_first f s t (fin i m e) b d v = rw v.0

pub div_inf_second : (f : Format) (s t : Bool) (x : Float) (a c : ℕ) → HasValue x s a c → div f x (inf t) ≡ fin (unlike s t) 0 (pos 0)
unfolding div
div_inf_second f s t nan a c v = absurd v
div_inf_second f s t (inf i) a c v = absurd v
div_inf_second f s t (fin i m e) a c v = rw v.0

pub div_by_zero : (f : Format) (x y : Float) (s t : Bool) (a c b d : ℕ) → 0 < c → 0 < d → HasValue x s a c → HasValue y t b d → b ≡ 0 → div f x y ≡ cond (eqb a 0) nan (inf (unlike s t))
unfolding div
div_by_zero f nan y s t a c b d C D v u z = absurd v
div_by_zero f (inf i) y s t a c b d C D v u z = absurd v
div_by_zero f (fin i m e) nan s t a c b d C D v u z = absurd u
div_by_zero f (fin i m e) (inf j) s t a c b d C D v u z = absurd u
div_by_zero f (fin i m e) (fin j n g) s t a c b d C D v u z =
    rw (same_zero n b (up g) d (down g) (up_pos g) D (down_pos g) u.1, eq-eqb b 0 z, same_zero m a (up e) c (down e) (up_pos e) C (down_pos e) v.1, v.0, u.0)

positive : (n : ℕ) → eqb n 0 ≡ false → 0 < n
positive zero e = absurd (let z : ◌≡◌ {A = ℕ} 0 1 = cc in omega arith)
positive (suc n) e = zero-lt-suc n

pub div_values : (f : Format) (x y : Float) (s t : Bool) (a c b d : ℕ) → 0 < c → 0 < d → 0 < b → HasValue x s a c → HasValue y t b d → div f x y ≡ round f (unlike s t) (a * d) (b * c)
unfolding div
div_values f nan y s t a c b d C D B v u = absurd v
div_values f (inf i) y s t a c b d C D B v u = absurd v
div_values f (fin i m e) nan s t a c b d C D B v u = absurd u
div_values f (fin i m e) (inf j) s t a c b d C D B v u = absurd u
div_values f (fin i m e) (fin j n g) s t a c b d C D B v u =
    let z : eqb n 0 ≡ false = same_zero n b (up g) d (down g) (up_pos g) D (down_pos g) u.1 ∙ ne_eqb b 0 (λ (e : b ≡ 0). lt_irrefl 0 (subst (λ (x : ℕ). 0 < x) e B)) in
    rw (z, v.0, u.0)
    (round_same f (unlike s t) (m * up e * down g) (n * up g * down e) (a * d) (b * c) (mul-pos (mul-pos (positive n z) (up_pos g)) (down_pos e)) (mul-pos B C)
    (cross (m * up e) (down g) b c a d (n * up g) (down e) v.1 u.1))
  where
    cross : (x g b c a d y e : ℕ) → x * c ≡ a * e → y * d ≡ b * g → x * g * (b * c) ≡ a * d * (y * e)
    cross x g b c a d y e p q =
        (let z : x * g * (b * c) ≡ x * c * (b * g) = omega arith in z)
        ∙ rw (p, sym q) (omega arith)

-- ---- add

pub add_nan_first : (f : Format) (y : Float) → add f nan y ≡ nan
unfolding add
add_nan_first f y = refl

pub add_nan_second : (f : Format) (x : Float) → add f x nan ≡ nan
unfolding add
add_nan_second f nan = refl
add_nan_second f (inf s) = refl
add_nan_second f (fin s m e) = refl

pub add_inf_inf : (f : Format) (s t : Bool) → add f (inf s) (inf t) ≡ cond (beq s t) (inf s) nan
unfolding add
add_inf_inf f s t = refl

pub add_inf_first : (f : Format) (s t : Bool) (y : Float) (b d : ℕ) → HasValue y t b d → add f (inf s) y ≡ inf s
unfolding add
add_inf_first f s t nan b d v = absurd v
add_inf_first f s t (inf i) b d v = absurd v
add_inf_first f s t (fin i m e) b d v = refl

pub add_inf_second : (f : Format) (s t : Bool) (x : Float) (a c : ℕ) → HasValue x s a c → add f x (inf t) ≡ inf t
unfolding add
add_inf_second f s t nan a c v = absurd v
add_inf_second f s t (inf i) a c v = absurd v
add_inf_second f s t (fin i m e) a c v = refl
