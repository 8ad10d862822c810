-- The floor of any value at all is a value of the format and no NaN. Assumes nothing.
use Prim.Native.Nat.{ℕ, zero, suc, ◌+◌, ◌-◌, ◌*◌, ◌^◌}
use mathlib.Core.Path.{◌≡◌, refl, ap, ◌∙◌}
use mathlib.Core.Bool.{Bool, true, false, cond, ◌&&◌, beq, true≢false}
use lib.Dec.{T, ltb}
use lib.IntN.{ℤ, pos, negsuc}
use lib.Ieee.{Format, binary32, binary64, Float, nan, inf, fin, up, down, prec, emax, low, odd, units, round, neg, sum, add, sub, lt, of_bits, of_int, to_signed, is_nan, fits}
use lib.Ieee.Fits.{round_is, cond-fits, of_int-fits, sub-fits}
use Rattle.format.specs.Fields.{one_word}
use Rattle.format.specs.Whole.{through_int, floor_value}

units_no_nan : (f : Format) (s : Bool) (q k : ℕ) → is_nan (units f s q k) ≡ false
unfolding units odd is_nan
units_no_nan f s q k = go (ltb (q * 2 ^ k) (2 ^ (low f + suc (emax f)))) q
  where
    go : (b : Bool) (q : ℕ) → is_nan (cond b (odd (suc (prec f)) s q k (low f)) (inf s)) ≡ false
    go true zero = refl
    go true (suc q) = refl
    go false q = refl

pub round_no_nan : (f : Format) (s : Bool) (num den : ℕ) → is_nan (round f s num den) ≡ false
round_no_nan f s num den = ap is_nan (round_is f s num den) ∙ units_no_nan f s _ _

int_no_nan : (f : Format) (z : ℤ) → is_nan (of_int f z) ≡ false
unfolding of_int
int_no_nan f (pos n) = round_no_nan f false n 1
int_no_nan f (negsuc n) = round_no_nan f true (suc n) 1

either : (b : Bool) (x y : Float) → is_nan x ≡ false → is_nan y ≡ false → is_nan (cond b x y) ≡ false
either true x y h k = h
either false x y h k = k

total_no_nan : (f : Format) (s : Bool) (a : ℕ) (t : Bool) (b c : ℕ) → is_nan (sum f s a t b c) ≡ false
unfolding sum
total_no_nan f s a t b c =
    either (beq s t) (round f s (a + b) c) (cond (ltb a b) (round f t (b - a) c) (round f (s && ltb b a) (a - b) c))
    (round_no_nan f s (a + b) c)
    (either (ltb a b) (round f t (b - a) c) (round f (s && ltb b a) (a - b) c) (round_no_nan f t (b - a) c) (round_no_nan f (s && ltb b a) (a - b) c))

-- a finite number added to what is no NaN
sum_no_nan : (f : Format) (x : Float) (t : Bool) (n : ℕ) (d : ℤ) → is_nan x ≡ false → is_nan (add f x (fin t n d)) ≡ false
unfolding is_nan add
sum_no_nan f nan t n d h = absurd (true≢false h)
sum_no_nan f (inf s) t n d h = refl
sum_no_nan f (fin s m e) t n d h = total_no_nan f s (m * up e * down d) t (n * up d * down e) (down e * down d)

one_less : (f : Format) (x : Float) → is_nan x ≡ false → is_nan (sub f x (of_bits f (one_word f))) ≡ false
unfolding sub of_bits neg
one_less binary32 x h = sum_no_nan binary32 x true 1 (pos 0) h
one_less binary64 x h = sum_no_nan binary64 x true 1 (pos 0) h

pub floor_no_nan : (f : Format) (x : Float) → is_nan (floor_value f x) ≡ false
floor_no_nan f x = either (lt x (through_int f x)) _ _ (one_less f (through_int f x) (int_no_nan f (to_signed 31 x))) (int_no_nan f (to_signed 31 x))

pub floor_fits : (f : Format) (x : Float) → T (fits f (floor_value f x))
floor_fits f x =
    cond-fits f (lt x (through_int f x)) (sub f (through_int f x) (of_bits f (one_word f))) (through_int f x) (sub-fits f (through_int f x) (of_bits f (one_word f))) (of_int-fits f (to_signed 31 x))
