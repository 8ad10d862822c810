-- What a format holds comes back from every step that is exact: +0 added to it, but for -0, or taken from it, and it over 1. A zero times a number or over
-- one is a zero, and a whole number of few digits is itself. Same.antt has that a number less itself is +0. Assumes nothing.
use Prim.Native.Nat.{ℕ, zero, suc, ◌+◌, ◌*◌, ◌^◌, ◌≤◌, ◌<◌}
use native.Mathlib.Nat.{mul_comm, zero-mul, mul-zero, mul-one, one-mul, mul-pos, add-zero, zero-add, sub-zero, mul-lt-mul_of_pos_right, lt_of_lt_of_le}
use native.Mathlib.Omega.{arith}
use mathlib.Core.Path.{◌≡◌, refl, sym, ap, ◌∙◌}
use mathlib.Core.Bool.{Bool, true, false, ◌&&◌}
use borrow.Author.Tests.{le-ltb, lt-ltb, ne_eqb}
use lib.Dec.{T, lit≤}
use lib.IntN.{ℤ, pos}
use lib.Pow.{pow_pos, pow-add, pow_mono, shl_lt}
use lib.Ieee.{Format, binary32, binary64, fin, prec, emax, low, hid, ones, up, down, unlike, round, sum, neg, add, sub, mul, div, fits, of_int, of_bits, to_bits}
use lib.Ieee.Bits.{of_bits-to_bits, of_bits-fits}
use lib.Ieee.Exact.{HasValue, round_exact}
use lib.Ieee.Scale.{round_same}
use lib.Ieee.Fits.{reach, up_pos, down_pos, round-fits}
use Rattle.format.specs.Fields.{negative, exponent, fraction}
use Rattle.format.specs.Value.{units_at, units, Finite}
use Rattle.format.proofs.Fields.{fraction_lt}
use Rattle.format.proofs.Value.{word_value, value_word}
use Rattle.format.proofs.PartsMeaning.{full}
use Rattle.format.proofs.Same.{zero_of, zero_fits, same_number, round_nothing}

-- ---- the sign of a product or a quotient

pub unlike_false : (s : Bool) → unlike s false ≡ s
unlike_false true = refl
unlike_false false = refl

pub unlike_itself : (s : Bool) → unlike s s ≡ false
unlike_itself true = refl
unlike_itself false = refl

-- ---- a finite word's number is exact

-- the two formats' numbers
reaches : (f : Format) (x : ℕ) → suc x < ones f → prec f + x ≤ low f + suc (emax f)
reaches binary32 x h = omega arith
reaches binary64 x h = omega arith

starts : (f : Format) → prec f ≤ low f + suc (emax f)
starts binary32 = lit≤ tt
starts binary64 = lit≤ tt

exact_at : (f : Format) (s : Bool) (x t : ℕ) → x < ones f → t < hid f → HasValue (round f s (units_at f x t) (2 ^ low f)) s (units_at f x t) (2 ^ low f)
exact_at f s zero t h d =
    let l : t < 2 ^ prec f = omega (arith, full f t d) in
    let e : t * 2 ^ 0 ≡ t = mul-one t in
    round_exact f s t (2 ^ low f) t 0 (pow_pos (low f)) l
    (rw e (lt_of_lt_of_le l (pow_mono (starts f)))) (ap (λ (n : ℕ). n * 2 ^ low f) (sym e))
exact_at f s (suc x) t h d =
    let l = full f t d in
    round_exact f s ((hid f + t) * 2 ^ x) (2 ^ low f) (hid f + t) x (pow_pos (low f)) l
    (lt_of_lt_of_le (shl_lt (prec f) x l) (pow_mono (reaches f x h))) refl

pub exact_word : (f : Format) (s : Bool) (w : ℕ) → Finite f w → HasValue (round f s (units f w) (2 ^ low f)) s (units f w) (2 ^ low f)
exact_word f s w h = exact_at f s (exponent f w) (fraction f w) h (fraction_lt f w)

-- a fraction that is a finite word's very value is rounded to that word
pub round_word : (f : Format) (w num den : ℕ) → Finite f w → 0 < den → num * 2 ^ low f ≡ units f w * den → round f (negative f w) num den ≡ of_bits f w
round_word f w num den h p e =
    let s = negative f w in
    let u = units f w in
    let d = pow_pos (low f) in
    round_same f s num den u (2 ^ low f) p d e
    ∙ same_number f (round f s u (2 ^ low f)) (of_bits f w) s u (2 ^ low f) d (round-fits f s u (2 ^ low f)) (of_bits-fits f w) (exact_word f s w h) (word_value f w h)

-- a number that the format holds is rounded to itself
pub round_itself : (f : Format) (s : Bool) (m : ℕ) (e : ℤ) → T (fits f (fin s m e)) → round f s (m * up e) (down e) ≡ fin s m e
round_itself f s m e h =
    let x = fin s m e in
    let w = value_word f x s (m * up e) (down e) h (refl, refl) in
    ap (λ (t : Bool). round f t (m * up e) (down e)) (sym w.sign)
    ∙ round_word f (to_bits f x) (m * up e) (down e) w.finite (down_pos e) (sym w.amount)
    ∙ of_bits-to_bits f x h

-- ---- zeros

-- a zero that the format holds is one of the two
pub zero_is : (f : Format) (s : Bool) (e : ℤ) → T (fits f (fin s 0 e)) → fin s 0 e ≡ zero_of s
zero_is f s e h = same_number f (fin s 0 e) (zero_of s) s 0 1 (omega arith) h (zero_fits f s) (refl, rw (zero-mul, zero-mul, zero-mul)) (refl, zero-mul 1)

-- a zero times a number is a zero
pub zero_times : (f : Format) (s t : Bool) (m : ℕ) (e : ℤ) → mul f (zero_of s) (fin t m e) ≡ zero_of (unlike s t)
unfolding mul
zero_times f s t m e = rw (zero-mul (up (pos 0)), zero-mul (m * up e)) (round_nothing f (unlike s t) (1 * down e) (mul-pos (omega arith) (down_pos e)))

pub times_zero : (f : Format) (s t : Bool) (m : ℕ) (e : ℤ) → mul f (fin t m e) (zero_of s) ≡ zero_of (unlike t s)
unfolding mul
times_zero f s t m e = rw (zero-mul (up (pos 0)), mul-zero (m * up e)) (round_nothing f (unlike t s) (down e * 1) (mul-pos (down_pos e) (omega arith)))

-- a zero over a number that is none is a zero
pub zero_over : (f : Format) (s t : Bool) (m : ℕ) (e : ℤ) → 0 < m → div f (zero_of s) (fin t m e) ≡ zero_of (unlike s t)
unfolding div
zero_over f s t m e p = rw (ne_eqb m 0 (λ h. omega arith), zero-mul (up (pos 0)), zero-mul (down e)) (round_nothing f (unlike s t) (m * up e * 1) (mul-pos (mul-pos p (up_pos e)) (omega arith)))

-- of two zeros, only -0 and -0 make -0
pub zeros_added : (f : Format) (s t : Bool) → add f (zero_of s) (zero_of t) ≡ zero_of (s && t)
unfolding add sum
zeros_added f true true = round_nothing f true 1 (omega arith)
zeros_added f true false = round_nothing f false 1 (omega arith)
zeros_added f false true = round_nothing f false 1 (omega arith)
zeros_added f false false = round_nothing f false 1 (omega arith)

-- ---- a number with nothing added or taken, and over 1

less_nothing : (f : Format) (s : Bool) (a c : ℕ) → sum f s a true 0 c ≡ round f s a c
unfolding sum
less_nothing f true a c = rw (add-zero a)
less_nothing f false a c = rw (le-ltb a 0 (omega arith), sub-zero a)

and_nothing : (f : Format) (s : Bool) (a c : ℕ) → 0 < a → sum f s a false 0 c ≡ round f s a c
unfolding sum
and_nothing f true a c p = rw (le-ltb a 0 (omega arith), lt-ltb 0 a p, sub-zero a)
and_nothing f false a c p = rw (add-zero a)

nothing_and : (f : Format) (s : Bool) (a c : ℕ) → 0 < a → sum f false 0 s a c ≡ round f s a c
unfolding sum
nothing_and f true a c p = rw (lt-ltb 0 a p, sub-zero a)
nothing_and f false a c p = rw (zero-add a)

module _ (f : Format) (s : Bool) (m : ℕ) (e : ℤ) (h : T (fits f (fin s m e))) where
  -- less +0
  pub less_zero : sub f (fin s m e) (zero_of false) ≡ fin s m e
  unfolding sub neg add
  less_zero = rw (mul-one (m * up e), zero-mul (up (pos 0)), zero-mul (down e), mul-one (down e)) (less_nothing f s (m * up e) (down e) ∙ round_itself f s m e h)

  -- over 1
  pub over_one : div f (fin s m e) (fin false 1 (pos 0)) ≡ fin s m e
  unfolding div
  over_one = rw (unlike_false s, mul-one (m * up e), one-mul (down e)) (round_itself f s m e h)

  -- with +0 added, before it or after; -0 is not to be had so, and `zeros_added` has both zeros
  module _ (p : 0 < m) where
    pub and_zero : add f (fin s m e) (zero_of false) ≡ fin s m e
    unfolding add
    and_zero = rw (mul-one (m * up e), zero-mul (up (pos 0)), zero-mul (down e), mul-one (down e)) (and_nothing f s (m * up e) (down e) (mul-pos p (up_pos e)) ∙ round_itself f s m e h)

    pub zero_and : add f (zero_of false) (fin s m e) ≡ fin s m e
    unfolding add
    zero_and = rw (mul-one (m * up e), zero-mul (up (pos 0)), zero-mul (down e), one-mul (down e)) (nothing_and f s (m * up e) (down e) (mul-pos p (up_pos e)) ∙ round_itself f s m e h)

-- ---- whole numbers

pub one_is : (f : Format) → of_int f (pos 1) ≡ fin false 1 (pos 0)
unfolding of_int round
one_is binary32 = refl
one_is binary64 = refl

-- a whole number of no more digits than the format keeps is itself
pub whole_value : (f : Format) (n : ℕ) → n < 2 ^ prec f → HasValue (of_int f (pos n)) false n 1
unfolding of_int
whole_value f n h =
    round_exact f false n 1 n (low f) (omega arith) h
    (rw (pow-add 2 (low f) (suc (emax f)), mul_comm (2 ^ low f) (2 ^ suc (emax f))) (mul-lt-mul_of_pos_right (lt_of_lt_of_le h (pow_mono (reach f))) (pow_pos (low f))))
    (sym (mul-one (n * 2 ^ low f)))
