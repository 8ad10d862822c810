-- Which words IEEE 754 compares as at least 0: those from +0 up to the infinity, and -0. And which it compares as equal to 0: the zeros,
-- which are the words that count no units. Assumes nothing.
use Prim.Native.Nat.{ℕ, zero, suc, ◌+◌, ◌-◌, ◌*◌, ◌/◌, ◌^◌, ◌≤◌, ◌<◌}
use native.Mathlib.Nat.{zero-mul, mul-one, mul-pos, zero-lt-suc, mod-eq_of_lt, mod-eq-sub-mod, lt_of_lt_of_le, ne_of_lt, ne_of_gt, le_of_lt, le_of_eq, eq-or-lt_of_le, mul-div_cancel, div-lt_iff_lt-mul, div-add-mod', zero-div, zero-mod}
use native.Mathlib.Omega.{arith}
use mathlib.Core.Path.{◌≡◌, refl, sym, ap, ◌∙◌}
use mathlib.Core.Logic.{⊎_elim}
use mathlib.Core.Bool.{Bool, true, false, not, cond, ◌||◌}
use borrow.Author.Tests.{le-leb, lt-leb, leb-true, leb-false, eq-eqb, ne_eqb, lt-ltb, le-ltb, eqb-true, eqb-false}
use lib.IntN.{pos}
use lib.Dec.{leb, eqb, eqb-zero-suc, eqb-suc-zero, lit<}
use lib.Pow.{pow_pos}
use lib.Ieee.{Format, binary32, binary64, Float, nan, inf, fin, up, down, low, hid, ones, top, below, level, lt, eq, le, of_bits}
use lib.Ieee.Bits.{nan_bits_above}
use lib.Ieee.Exact.{HasValue}
use lib.Ieee.Fits.{down_pos}
use Rattle.format.specs.Fields.{negative, magnitude, exponent, fraction, inf_word}
use Rattle.format.specs.Value.{units_at, units}
use Rattle.format.specs.Classes.{is_zero}
use Rattle.format.specs.Estimates.{at_least_zero}
use Rattle.format.proofs.Fields.{hid_pos, low_of_magnitude}
use Rattle.format.proofs.Order.{either}
use Rattle.format.proofs.Nan.{nan_read, inf_read}
use Rattle.format.proofs.Value.{word_value}

abbrev positive_zero : Float
positive_zero = fin false 0 (pos 0)

zero_read : (f : Format) → of_bits f 0 ≡ positive_zero
unfolding of_bits
zero_read binary32 = refl
zero_read binary64 = refl

-- by the word
abbrev pub from_zero_up : Format → ℕ → Bool
from_zero_up f w = leb w (inf_word f) || eqb w (top f)

-- ---- as a number

pub same_test : (a b c d : ℕ) → (a ≡ b → c ≡ d) → (c ≡ d → a ≡ b) → eqb a b ≡ eqb c d
same_test a b c d to back = go (eqb c d) refl
  where
    go : (s : Bool) → eqb c d ≡ s → eqb a b ≡ s
    go true e = eq-eqb a b (back (eqb-true c d e))
    go false e = ne_eqb a b (λ p. eqb-false c d e (to p))

-- 0 against ±n
zero_against : (s : Bool) (n : ℕ) → (below false 0 s n || level false 0 s n) ≡ (not s || eqb n 0)
zero_against false zero = refl
zero_against false (suc n) = rw (lt-ltb 0 (suc n) (zero-lt-suc n))
zero_against true zero = refl
zero_against true (suc n) = rw (eqb-zero-suc n, eqb-suc-zero n)

no_factor : (n c : ℕ) → 0 < c → n * c ≡ 0 → n ≡ 0
no_factor zero c h e = refl
no_factor (suc n) c h e = omega (arith, mul-pos (zero-lt-suc n) h)

same_zero : (n a c d : ℕ) → 0 < c → 0 < d → n * c ≡ a * d → eqb n 0 ≡ eqb a 0
same_zero n a c d p q e = same_test n 0 a 0 (λ z. no_factor a d q (sym e ∙ rw (z, zero-mul c))) (λ z. no_factor n c p (e ∙ rw (z, zero-mul d)))

value_at_least : (x : Float) (s : Bool) (a c : ℕ) → 0 < c → HasValue x s a c → le positive_zero x ≡ (not s || eqb a 0)
unfolding le lt eq
value_at_least nan s a c p v = absurd v
value_at_least (inf t) s a c p v = absurd v
value_at_least (fin t m e) s a c p v =
    rw (zero-mul (down e), mul-one (m * up e))
    (zero_against t (m * up e) ∙ rw (v.0, same_zero (m * up e) a c (down e) p (down_pos e) v.1))

level_zero : (s : Bool) (n : ℕ) → level s n false 0 ≡ eqb n 0
level_zero true zero = refl
level_zero false zero = refl
level_zero s (suc n) = rw (eqb-suc-zero n)

value_equal : (x : Float) (s : Bool) (a c : ℕ) → 0 < c → HasValue x s a c → eq x positive_zero ≡ eqb a 0
unfolding eq
value_equal nan s a c p v = absurd v
value_equal (inf t) s a c p v = absurd v
value_equal (fin t m e) s a c p v = rw (zero-mul (down e), mul-one (m * up e)) (level_zero t (m * up e) ∙ same_zero (m * up e) a c (down e) p (down_pos e) v.1)

no_number : (x : Float) → eq nan x ≡ false
unfolding eq
no_number x = refl

inf_equal : (s : Bool) → eq (inf s) positive_zero ≡ false
unfolding eq
inf_equal s = refl

inf_at_least : (s : Bool) → le positive_zero (inf s) ≡ not s
unfolding le lt eq
inf_at_least true = refl
inf_at_least false = refl

nan_at_least : le positive_zero nan ≡ false
unfolding le lt eq
nan_at_least = refl

-- ---- as a word

pub inf_lt : (f : Format) → inf_word f < top f
inf_lt binary32 = lit< tt
inf_lt binary64 = lit< tt

or_false : (b : Bool) → (b || false) ≡ b
or_false true = refl
or_false false = refl

by_magnitude : (f : Format) (w : ℕ) → w < 2 * top f → (s : Bool) → negative f w ≡ s → from_zero_up f w ≡ cond s (eqb (magnitude f w) 0) (leb (magnitude f w) (inf_word f))
by_magnitude f w h false e =
    let l : w < top f = leb-false (top f) w e in
    rw (ne_eqb w (top f) (ne_of_lt l), mod-eq_of_lt l, or_false)
by_magnitude f w h true e =
    let l : top f ≤ w = leb-true (top f) w e in
    rw (lt-leb w (inf_word f) (lt_of_lt_of_le (inf_lt f) l), mod-eq-sub-mod l, mod-eq_of_lt {n = w - top f} {m = top f} (omega arith)) (same_test w (top f) (w - top f) 0 (λ p. omega arith) (λ p. omega arith))

nothing : (f : Format) (x t : ℕ) → units_at f x t ≡ 0 → (x ≡ 0) × (t ≡ 0)
nothing f zero t e = (refl, e)
nothing f (suc x) t e = absurd (let z : ⊥ = omega (arith, hid_pos f, no_factor (hid f + t) (2 ^ x) (pow_pos x) e) in z)

pub units_zero : (f : Format) (w : ℕ) → is_zero f w ≡ eqb (units f w) 0
units_zero f w = same_test (magnitude f w) 0 (units f w) 0 to back
  where
    to : magnitude f w ≡ 0 → units f w ≡ 0
    to e = rw (← low_of_magnitude f w, e, zero-div (hid f), zero-mod (hid f))

    back : units f w ≡ 0 → magnitude f w ≡ 0
    back e =
        let n = nothing f (exponent f w) (fraction f w) e in
        sym (div-add-mod' (magnitude f w) (hid f)) ∙ rw (n.0, low_of_magnitude f w, n.1, zero-mul (hid f))

-- ---- the two are the same

neither : (s : Bool) → cond s false false ≡ false
neither true = refl
neither false = refl

not_is : (s : Bool) → cond s false true ≡ not s
not_is true = refl
not_is false = refl

or_is : (s b : Bool) → cond s b true ≡ (not s || b)
or_is true b = refl
or_is false b = refl

pub inf_pos : (f : Format) → 0 < inf_word f
inf_pos binary32 = lit< tt
inf_pos binary64 = lit< tt

module _ (f : Format) (w : ℕ) where
  abbrev m : ℕ
  m = magnitude f w

  abbrev Agrees : Type 0
  Agrees = cond (negative f w) (eqb m 0) (leb m (inf_word f)) ≡ le positive_zero (of_bits f w)

  above_zero : inf_word f ≤ m → eqb m 0 ≡ false
  above_zero h = ne_eqb m 0 (ne_of_gt (lt_of_lt_of_le (inf_pos f) h))

  read_nan : inf_word f < m → of_bits f w ≡ nan
  read_nan h = nan_read f w (nan_bits_above f w ∙ lt-ltb (inf_word f) m h)

  read_inf : m ≡ inf_word f → of_bits f w ≡ inf (negative f w)
  read_inf e =
      let x : exponent f w ≡ ones f = ap (λ (k : ℕ). k / hid f) e ∙ mul-div_cancel (ones f) (hid_pos f) in
      inf_read f w x (nan_bits_above f w ∙ le-ltb (inf_word f) m (le_of_eq e))

  read_number : m < inf_word f → HasValue (of_bits f w) (negative f w) (units f w) (2 ^ low f)
  read_number h = word_value f w ((div-lt_iff_lt-mul (hid_pos f)).1 h)

  a_nan : inf_word f < m → Agrees
  a_nan h =
      rw (above_zero (le_of_lt h), lt-leb m (inf_word f) h)
      (neither (negative f w) ∙ sym (ap (le positive_zero) (read_nan h) ∙ nan_at_least))

  an_infinity : m ≡ inf_word f → Agrees
  an_infinity e =
      rw (above_zero (le_of_eq (sym e)), le-leb m (inf_word f) (le_of_eq e))
      (not_is (negative f w) ∙ sym (ap (le positive_zero) (read_inf e) ∙ inf_at_least (negative f w)))

  a_number : m < inf_word f → Agrees
  a_number h =
      rw (units_zero f w, le-leb m (inf_word f) (le_of_lt h))
      (or_is (negative f w) (eqb (units f w) 0) ∙ sym (value_at_least (of_bits f w) (negative f w) (units f w) (2 ^ low f) (pow_pos (low f)) (read_number h)))

  by_size : {P : Type 0} → (inf_word f < m → P) → (m ≡ inf_word f → P) → (m < inf_word f → P) → P
  by_size n i v = ⊎_elim (λ h. ⊎_elim i v (eq-or-lt_of_le h)) n (either m (inf_word f))

  equals : eq (of_bits f w) positive_zero ≡ is_zero f w
  equals = by_size
      (λ h. ap (λ (x : Float). eq x positive_zero) (read_nan h) ∙ no_number positive_zero ∙ sym (above_zero (le_of_lt h)))
      (λ e. ap (λ (x : Float). eq x positive_zero) (read_inf e) ∙ inf_equal (negative f w) ∙ sym (above_zero (le_of_eq (sym e))))
      (λ h. value_equal (of_bits f w) (negative f w) (units f w) (2 ^ low f) (pow_pos (low f)) (read_number h) ∙ sym (units_zero f w))

pub at_least_zero_is : (f : Format) (w : ℕ) → w < 2 * top f → at_least_zero f w ≡ from_zero_up f w
at_least_zero_is f w h =
    ap (λ (z : Float). le z (of_bits f w)) (zero_read f)
    ∙ sym (by_magnitude f w h (negative f w) refl ∙ by_size f w {P = Agrees f w} (a_nan f w) (an_infinity f w) (a_number f w))

-- the comparison by which powi tells a zero
pub equals_zero : (f : Format) (w : ℕ) → eq (of_bits f w) (of_bits f 0) ≡ is_zero f w
equals_zero f w = ap (eq (of_bits f w)) (zero_read f) ∙ equals f w

pub up_to_infinity : (f : Format) (w : ℕ) → w ≤ inf_word f → at_least_zero f w ≡ true
up_to_infinity f w h = at_least_zero_is f w (omega (arith, inf_lt f)) ∙ rw (le-leb w (inf_word f) h)
