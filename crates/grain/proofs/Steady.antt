-- One sample offered over and over, in a format: the mean is the sample from the first on, where a zero counts as +0, and the sum stays
-- +0. Assumes nothing.
use Prim.Native.Nat.{ℕ, zero, suc, ◌^◌, ◌<◌}
use native.Mathlib.Omega.{arith}
use mathlib.Core.Path.{◌≡◌, ap, ◌∙◌}
use mathlib.Core.Bool.{Bool, false}
use lib.Dec.{T}
use lib.IntN.{ℤ, pos}
use lib.Ieee.{Format, Float, nan, inf, fin, prec, unlike, add, sub, div, of_int, fits}
use Rattle.format.proofs.Same.{zero_of, zero_fits, less_itself}
use Rattle.format.proofs.Exact.{unlike_false, unlike_itself, zero_times, times_zero, zero_over, zeros_added, zero_is, less_zero, over_one, and_zero, zero_and, one_is}
use Rattle.grain.specs.Grain.{next_mean, next_sum}
use Rattle.grain.proofs.Divisors.{divisor}

-- a number, with +0 for either zero
abbrev pub settled : Float → Float
settled nan = nan
settled (inf s) = inf s
settled (fin s zero e) = zero_of false
settled (fin s (suc m) e) = fin s (suc m) e

pub record Stays (f : Format) (n mean x : Float) : Type 0 where
  pub mean_is : next_mean f n mean x ≡ settled x
  pub sum_is : next_sum f n mean (zero_of false) x ≡ zero_of false

-- from the mean +0, a zero
zero_stays : (f : Format) (s : Bool) (m : ℕ) (e : ℤ) → 0 < m → Stays f (fin false m e) (zero_of false) (zero_of s)
zero_stays f s m e p =
    let d : sub f (zero_of s) (zero_of false) ≡ zero_of s = less_zero f s 0 (pos 0) (zero_fits f s) in
    let q : div f (zero_of s) (fin false m e) ≡ zero_of s = zero_over f s false m e p ∙ ap zero_of (unlike_false s) in
    let a : add f (zero_of false) (zero_of s) ≡ zero_of false = zeros_added f false s in
    record {
      mean_is = rw (d, q) a;
      sum_is = rw (d, q, a, d, zero_times f s s 0 (pos 0), unlike_itself s) (zeros_added f false false);
    }

-- from the mean +0, the first sample
first_stays : (f : Format) (s : Bool) (m : ℕ) (e : ℤ) → T (fits f (fin s (suc m) e)) → Stays f (fin false 1 (pos 0)) (zero_of false) (fin s (suc m) e)
first_stays f s m e h =
    let p : 0 < suc m = omega arith in
    let d = less_zero f s (suc m) e h in
    let q = over_one f s (suc m) e h in
    let a = zero_and f s (suc m) e h p in
    record {
      mean_is = rw (d, q) a;
      sum_is = rw (d, q, a, less_itself f s (suc m) e, times_zero f false s (suc m) e) (zeros_added f false (unlike s false));
    }

-- from the sample's own mean
next_stays : (f : Format) (s : Bool) (m : ℕ) (e : ℤ) (n : ℕ) (k : ℤ) → T (fits f (fin s (suc m) e)) → 0 < n → Stays f (fin false n k) (fin s (suc m) e) (fin s (suc m) e)
next_stays f s m e n k h q =
    let p : 0 < suc m = omega arith in
    let d = less_itself f s (suc m) e in
    let o = zero_over f false false n k q in
    let a = and_zero f s (suc m) e h p in
    record {
      mean_is = rw (d, o) a;
      sum_is = rw (d, o, a, d, zero_times f false false 0 (pos 0)) (zeros_added f false false);
    }

-- ---- by the count

-- the mean of n samples that are all x
abbrev pub mean_of : ℕ → Float → Float
mean_of zero x = zero_of false
mean_of (suc n) x = settled x

-- one more of them
pub stays : (f : Format) (s : Bool) (m : ℕ) (e : ℤ) (n : ℕ) → T (fits f (fin s m e)) → suc n < 2 ^ prec f → Stays f (of_int f (pos (suc n))) (mean_of n (fin s m e)) (fin s m e)
stays f s zero e zero h l = let k = divisor f zero l in rw (zero_is f s e h, k.is) (zero_stays f s k.digits k.power k.some)
stays f s zero e (suc n) h l = let k = divisor f (suc n) l in rw (zero_is f s e h, k.is) (zero_stays f s k.digits k.power k.some)
stays f s (suc m) e zero h l = rw (one_is f) (first_stays f s m e h)
stays f s (suc m) e (suc n) h l = let k = divisor f (suc n) l in rw k.is (next_stays f s m e k.digits k.power h k.some)
