-- The sign given to `round` is the sign of what it makes and nothing else; so a product's size is the product of the sizes, and it has its sign turned where
-- a factor has. Assumes nothing.
use Prim.Native.Nat.{ℕ, zero, suc, ◌+◌, ◌*◌, ◌^◌}
use mathlib.Core.Path.{◌≡◌, refl, sym, ap, ◌∙◌}
use mathlib.Core.Bool.{Bool, true, false, not, cond}
use lib.Dec.{ltb, eqb}
use lib.Ieee.{Format, Float, nan, inf, fin, unlike, up, down, prec, emax, low, odd, units, round, neg, mul}
use lib.Ieee.Fits.{round_is}
use Rattle.format.specs.Sign.{with_sign}
use Rattle.format.proofs.Exact.{unlike_itself}
use Rattle.format.proofs.Sign.{neg_with}

units_signed : (f : Format) (s t : Bool) (q k : ℕ) → with_sign t (units f s q k) ≡ units f t q k
unfolding units odd
units_signed f s t q k = go (ltb (q * 2 ^ k) (2 ^ (low f + suc (emax f)))) q
  where
    go : (b : Bool) (q : ℕ) → with_sign t (cond b (odd (suc (prec f)) s q k (low f)) (inf s)) ≡ cond b (odd (suc (prec f)) t q k (low f)) (inf t)
    go true zero = refl
    go true (suc q) = refl
    go false q = refl

pub round_signed : (f : Format) (s t : Bool) (num den : ℕ) → with_sign t (round f s num den) ≡ round f t num den
round_signed f s t num den = ap (with_sign t) (round_is f s num den) ∙ units_signed f s t _ _ ∙ sym (round_is f t num den)

-- ---- products

nan_or_inf : (b s : Bool) → with_sign false (cond b nan (inf s)) ≡ cond b nan (inf false)
nan_or_inf true s = refl
nan_or_inf false s = refl

pub product_size : (f : Format) (x y : Float) → with_sign false (mul f x y) ≡ mul f (with_sign false x) (with_sign false y)
unfolding mul
product_size f nan y = refl
product_size f (inf s) nan = refl
product_size f (inf s) (inf t) = refl
product_size f (inf s) (fin t n d) = nan_or_inf (eqb n 0) (unlike s t)
product_size f (fin s m e) nan = refl
product_size f (fin s m e) (inf t) = nan_or_inf (eqb m 0) (unlike s t)
product_size f (fin s m e) (fin t n d) = round_signed f (unlike s t) false (m * up e * (n * up d)) (down e * down d)

pub square_size : (f : Format) (x : Float) → mul f x x ≡ mul f (with_sign false x) (with_sign false x)
unfolding mul
square_size f nan = refl
square_size f (inf s) = ap inf (unlike_itself s)
square_size f (fin s m e) = ap (λ (b : Bool). round f b (m * up e * (m * up e)) (down e * down e)) (unlike_itself s)

round_turned : (f : Format) (s : Bool) (num den : ℕ) → neg (round f s num den) ≡ round f (not s) num den
round_turned f s num den = ap neg (sym (round_signed f s s num den)) ∙ neg_with s (round f s num den) ∙ round_signed f s (not s) num den

unlike_turned : (s t : Bool) → unlike s (not t) ≡ not (unlike s t)
unlike_turned true true = refl
unlike_turned true false = refl
unlike_turned false true = refl
unlike_turned false false = refl

nan_or_turned : (b s t : Bool) → cond b nan (inf (unlike s (not t))) ≡ neg (cond b nan (inf (unlike s t)))
unfolding neg
nan_or_turned true s t = refl
nan_or_turned false s t = ap inf (unlike_turned s t)

pub product_turned : (f : Format) (x y : Float) → mul f x (neg y) ≡ neg (mul f x y)
unfolding mul neg
product_turned f nan y = refl
product_turned f (inf s) nan = refl
product_turned f (inf s) (inf t) = ap inf (unlike_turned s t)
product_turned f (inf s) (fin t n d) = nan_or_turned (eqb n 0) s t
product_turned f (fin s m e) nan = refl
product_turned f (fin s m e) (inf t) = nan_or_turned (eqb m 0) s t
product_turned f (fin s m e) (fin t n d) = ap (λ (b : Bool). round f b (m * up e * (n * up d)) (down e * down d)) (unlike_turned s t) ∙ sym (round_turned f (unlike s t) (m * up e * (n * up d)) (down e * down d))
