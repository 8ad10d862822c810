-- A number tells its word: two floats of a format, or two words, that are the same number with the same sign are the same, and what is written
-- for a count of units that the format holds has that count. So a number less itself is +0. Assumes nothing.
use Prim.Native.Nat.{ℕ, suc, ◌+◌, ◌-◌, ◌*◌, ◌/◌, ◌^◌, ◌<◌}
use native.Mathlib.Nat.{add_assoc, mul_right_comm, zero-mul, mul-pos, mul-div_cancel, eq_of_mul-eq-mul_right, sub_self}
use native.Mathlib.Omega.{arith}
use mathlib.Core.Path.{◌≡◌, refl, sym, ap, subst, ◌∙◌}
use mathlib.Core.Bool.{Bool, true, false, not}
use borrow.Author.Tests.{le-ltb}
use lib.Dec.{T}
use lib.IntN.{ℤ, pos}
use lib.Pow.{pow_pos}
use lib.Ieee.{Format, Float, nan, inf, fin, prec, emax, low, top, up, down, round, sum, neg, add, sub, fits, is_nan, of_bits, to_bits}
use lib.Ieee.Bits.{of_bits-to_bits, to_bits-of_bits}
use lib.Ieee.Exact.{HasValue, round_exact}
use lib.Ieee.Nearest.{div_same}
use lib.Ieee.Fits.{down_pos, round-fits}
use Rattle.format.specs.Fields.{negative, sign_bit}
use Rattle.format.specs.Value.{units, Finite}
use Rattle.format.specs.Parts.{written}
use Rattle.format.proofs.Value.{word_value, value_word}

-- ---- floats

-- the word of the value a / c with the sign s
pub written_value : (f : Format) (x : Float) (s : Bool) (a c : ℕ) → 0 < c → HasValue x s a c → to_bits f x ≡ sign_bit f s + written f (a * 2 ^ low f / c)
unfolding to_bits written
written_value f nan s a c p v = absurd v
written_value f (inf t) s a c p v = absurd v
written_value f (fin t m e) s a c p v =
    let h : m * up e * 2 ^ low f * c ≡ a * 2 ^ low f * down e = mul_right_comm (m * up e) (2 ^ low f) c ∙ ap (λ (n : ℕ). n * 2 ^ low f) v.1 ∙ mul_right_comm a (down e) (2 ^ low f) in
    let d : m * up e * 2 ^ low f / down e ≡ a * 2 ^ low f / c = div_same (m * up e * 2 ^ low f) (down e) (a * 2 ^ low f) c (down_pos e) p h in
    rw (d, v.0) (add_assoc _ _ _)

pub same_number : (f : Format) (x y : Float) (s : Bool) (a c : ℕ) → 0 < c → T (fits f x) → T (fits f y) → HasValue x s a c → HasValue y s a c → x ≡ y
same_number f x y s a c p h k v w =
    sym (of_bits-to_bits f x h) ∙ ap (of_bits f) (written_value f x s a c p v ∙ sym (written_value f y s a c p w)) ∙ of_bits-to_bits f y k

-- ---- words

number_no_nan : (x : Float) (s : Bool) (a c : ℕ) → HasValue x s a c → T (not (is_nan x))
unfolding is_nan
number_no_nan nan s a c v = absurd v
number_no_nan (inf t) s a c v = absurd v
number_no_nan (fin t m e) s a c v = tt

-- the word of n units with the sign s
units_written : (f : Format) (x : Float) (s : Bool) (n : ℕ) → HasValue x s n (2 ^ low f) → to_bits f x ≡ sign_bit f s + written f n
units_written f x s n v =
    written_value f x s n (2 ^ low f) (pow_pos (low f)) v ∙ ap (λ (k : ℕ). sign_bit f s + written f k) (mul-div_cancel n (pow_pos (low f)))

word_written : (f : Format) (w : ℕ) → w < 2 * top f → Finite f w → w ≡ sign_bit f (negative f w) + written f (units f w)
word_written f w h k =
    let v = word_value f w k in
    sym (to_bits-of_bits f w h (number_no_nan (of_bits f w) (negative f w) (units f w) (2 ^ low f) v)) ∙ units_written f (of_bits f w) (negative f w) (units f w) v

pub same_word : (f : Format) (v w : ℕ) → v < 2 * top f → w < 2 * top f → Finite f v → Finite f w → negative f v ≡ negative f w → units f v ≡ units f w → v ≡ w
same_word f v w h k p q s u = word_written f v h p ∙ rw (s, u) (sym (word_written f w k q))

-- ---- the word of a count

-- a finite word with the sign s and n units
pub record Counted (f : Format) (s : Bool) (n r : ℕ) : Type 0 where
  pub finite : Finite f r
  pub sign : negative f r ≡ s
  pub count : units f r ≡ n

-- a count of few digits and within the range is rounded to itself, and its word has it
module _ (f : Format) (s : Bool) (q j : ℕ) (few : q < 2 ^ prec f) (fine : q * 2 ^ j < 2 ^ (low f + suc (emax f))) where
  pub held : HasValue (round f s (q * 2 ^ j) (2 ^ low f)) s (q * 2 ^ j) (2 ^ low f)
  held = round_exact f s (q * 2 ^ j) (2 ^ low f) q j (pow_pos (low f)) few fine refl

  pub count_written : to_bits f (round f s (q * 2 ^ j) (2 ^ low f)) ≡ sign_bit f s + written f (q * 2 ^ j)
  count_written = units_written f _ s (q * 2 ^ j) held

  pub counted : Counted f s (q * 2 ^ j) (sign_bit f s + written f (q * 2 ^ j))
  counted =
      let h = value_word f _ s (q * 2 ^ j) (2 ^ low f) (round-fits f s (q * 2 ^ j) (2 ^ low f)) held in
      subst (Counted f s (q * 2 ^ j)) count_written (record {
        finite = h.finite;
        sign = h.sign;
        count = eq_of_mul-eq-mul_right (2 ^ low f) (pow_pos (low f)) _ (q * 2 ^ j) h.amount;
      })

-- ---- nothing left

abbrev pub zero_of : Bool → Float
zero_of s = fin s 0 (pos 0)

pub zero_fits : (f : Format) (s : Bool) → T (fits f (zero_of s))
unfolding fits
zero_fits f s = tt

-- nothing, rounded, is the zero of that sign
pub round_nothing : (f : Format) (s : Bool) (c : ℕ) → 0 < c → round f s 0 c ≡ zero_of s
round_nothing f s c p =
    same_number f (round f s 0 c) (zero_of s) s 0 c p (round-fits f s 0 c) (zero_fits f s)
    (round_exact f s 0 c 0 0 p (pow_pos (prec f)) (pow_pos (low f + suc (emax f))) (rw (zero-mul, zero-mul)))
    (refl, zero-mul c)

pub less_itself : (f : Format) (s : Bool) (m : ℕ) (e : ℤ) → sub f (fin s m e) (fin s m e) ≡ zero_of false
unfolding sub add neg sum
less_itself f s m e = go s
  where
    left : round f false (m * up e * down e - m * up e * down e) (down e * down e) ≡ zero_of false
    left = rw (sub_self (m * up e * down e)) (round_nothing f false (down e * down e) (mul-pos (down_pos e) (down_pos e)))

    go : (s : Bool) → sub f (fin s m e) (fin s m e) ≡ zero_of false
    go true = rw (le-ltb (m * up e * down e) (m * up e * down e) (omega arith)) left
    go false = rw (le-ltb (m * up e * down e) (m * up e * down e) (omega arith)) left
