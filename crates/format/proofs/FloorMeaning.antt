-- floor is the largest whole number not above its operand and ceil the smallest not below it, for |x| to 2 ^ 31 at binary32; a zero is +0
-- from floor and -0 from ceil. Assumes nothing.
use Prim.Native.Nat.{ℕ, zero, suc, ◌+◌, ◌-◌, ◌*◌, ◌/◌, ◌^◌, ◌<◌, ◌≤◌, min}
use native.Mathlib.Nat.{add_comm, one-mul, le_trans, mul-le-mul_left, eq_of_mul-eq-mul_right, le_antisymm, lt-suc_self, eq-or-lt_of_le, le-div_iff_mul-le, div-mul-le_self, mul-le-mul_right, le_of_lt, lt_of_lt_of_le, lt_of_mul-lt-mul_right, lt_irrefl, le_refl, zero-mul, mul-one, add-zero, zero-lt-suc, mul-mod_left, mul_assoc, mul-div_cancel, div-lt_iff_lt-mul, le-mul_of_pos_right, sub-le}
use native.Mathlib.Omega.{arith}
use mathlib.Core.Path.{◌≡◌, refl, sym, ap, subst, ◌∙◌}
use mathlib.Core.Logic.{◌⊎◌, inl, inr}
use mathlib.Core.Bool.{Bool, true, false, not}
use borrow.Author.Tests.{ltb-true, ltb-false, lt-ltb, le-ltb}
use native.Mathlib.Numerals.{add-one}
use lib.Dec.{ltb, lit<, lit≤}
use lib.Pow.{pow_pos, pow-add, pow_mono, shl_lt, shr_mono}
use lib.IntN.{pos, negsuc, neg_ℤ}
use lib.Ieee.{Format, binary32, Float, prec, emax, low, hid, ones, round, neg, add, sum, sub, lt, below, of_bits, to_bits, of_int, to_signed}
use lib.Ieee.Back.{round_whole}
use lib.Ieee.Exact.{HasValue, round_exact}
use lib.Ieee.Fits.{two}
use Rattle.format.specs.Fields.{negative, exponent, fraction, one_word}
use Rattle.format.specs.Value.{units_at, units, Finite}
use Rattle.format.specs.Sign.{turned_word}
use Rattle.format.specs.Whole.{through_int, floor_value, floor_word, ceil_word}
use Rattle.format.specs.Meaning.{NotAbove, IsFloor, IsCeil, To31}
use Rattle.format.proofs.Fields.{fraction_lt, two_fields}
use Rattle.format.proofs.Cast.{held, word_cast}
use Rattle.format.proofs.PartsMeaning.{full}
use Rattle.format.proofs.Sign.{turned_sign, turned_magnitude, turned_field, turned_units, turned_read, turned_written}
use Rattle.format.proofs.Value.{word_value, value_word, add_values, lt_values}
use Rattle.format.proofs.Whole.{floor_fits, floor_no_nan}

-- ---- over plain numbers: the largest multiple of d that is not above ±u

record Largest (d : ℕ) (s : Bool) (u : ℕ) (t : Bool) (m : ℕ) : Type 0 where
  below : NotAbove t (m * d) s u
  largest : (i : Bool) (n : ℕ) → NotAbove i (n * d) s u → NotAbove i (n * d) t (m * d)
  zero : m ≡ 0 → t ≡ false

-- of a number that is not negative, the quotient
of_positive : (d u : ℕ) → 0 < d → Largest d false u false (u / d)
of_positive d u h = record {
  below = div-mul-le_self u d;
  largest = λ i n. go i n;
  zero = λ e. refl;
}
  where
    go : (i : Bool) (n : ℕ) → NotAbove i (n * d) false u → NotAbove i (n * d) false (u / d * d)
    go true n k = tt
    go false n k = mul-le-mul_right d ((le-div_iff_mul-le h).1 k)

-- of a negative multiple, itself
of_multiple : (d m : ℕ) → 0 < m → Largest d true (m * d) true m
of_multiple d m h = record { below = le_refl (m * d); largest = λ i n k. k; zero = λ e. absurd (let z : ⊥ = omega arith in z) }

of_zero : (d : ℕ) → Largest d true 0 false 0
of_zero d = record { below = rw (zero-mul d); largest = λ i n. go i n; zero = λ e. refl }
  where
    go : (i : Bool) (n : ℕ) → NotAbove i (n * d) true 0 → NotAbove i (n * d) false (0 * d)
    go true n k = tt
    go false n k = omega (arith, zero-mul d)

-- of any other negative number, one further down than the quotient
of_negative : (d u n : ℕ) → n * d < u → u ≤ suc n * d → Largest d true u true (suc n)
of_negative d u n lo hi = record { below = hi; largest = λ i k. go i k; zero = λ e. absurd (let z : ⊥ = omega arith in z) }
  where
    go : (i : Bool) (k : ℕ) → NotAbove i (k * d) true u → NotAbove i (k * d) true (suc n * d)
    go true k h = mul-le-mul_right d (lt_of_mul-lt-mul_right d (lt_of_lt_of_le lo h))
    go false k h = absurd (let z : ⊥ = omega arith in z)

-- ---- a whole part is a value of the format

-- below 2 ^ prec
few : (f : Format) (x t : ℕ) → t < hid f → x < emax f + (prec f - 1) → units_at f x t < 2 ^ prec f * 2 ^ low f
few f zero t k l = lt_of_lt_of_le (lt_of_lt_of_le k (pow_mono (sub-le (prec f) 1))) (le-mul_of_pos_right (2 ^ prec f) (pow_pos (low f)))
few f (suc y) t k l =
    lt_of_lt_of_le (shl_lt (prec f) y (full f t k))
    (subst (λ (n : ℕ). 2 ^ (prec f + y) ≤ n) (pow-add 2 (prec f) (low f)) (pow_mono (let i : prec f + y ≤ prec f + low f = omega (arith, two f) in i)))

-- from there on no digit is below the point
whole_already : (f : Format) (x t : ℕ) → emax f + (prec f - 1) ≤ x → units_at f x t / 2 ^ low f * 2 ^ low f ≡ units_at f x t
whole_already f zero t l = absurd (let z : ⊥ = omega (arith, two f) in z)
whole_already f (suc y) t l =
    let q = hid f + t in
    let j = y - low f in
    let split : y ≡ j + low f = omega (arith, two f) in
    let whole : q * 2 ^ y ≡ q * 2 ^ j * 2 ^ low f = ap (λ (n : ℕ). q * 2 ^ n) split ∙ ap (λ (n : ℕ). q * n) (pow-add 2 j (low f)) ∙ sym (mul_assoc q (2 ^ j) (2 ^ low f)) in
    ap (λ (n : ℕ). n / 2 ^ low f * 2 ^ low f) whole ∙ ap (λ (n : ℕ). n * 2 ^ low f) (mul-div_cancel (q * 2 ^ j) (pow_pos (low f))) ∙ sym whole

many : (f : Format) (s : Bool) (x t : ℕ) → x < ones f → t < hid f → emax f + (prec f - 1) ≤ x → HasValue (round f s (units_at f x t / 2 ^ low f) 1) s (units_at f x t / 2 ^ low f) 1
many f s zero t a k l = absurd (let z : ⊥ = omega (arith, two f) in z)
many f s (suc y) t a k l =
    let q = hid f + t in
    round_exact f s (q * 2 ^ y / 2 ^ low f) 1 q y (lit< tt) (full f t k)
    (lt_of_lt_of_le (shl_lt (prec f) y (full f t k)) (pow_mono (let i : prec f + y ≤ low f + suc (emax f) = omega (arith, two f) in i)))
    (whole_already f (suc y) t l ∙ sym (mul-one (q * 2 ^ y)))

part_lt : (f : Format) (x t : ℕ) → t < hid f → x < emax f + (prec f - 1) → units_at f x t / 2 ^ low f < 2 ^ prec f
part_lt f x t k l = (div-lt_iff_lt-mul (pow_pos (low f))).1 (few f x t k l)

pub whole_exact : (f : Format) (x t : ℕ) → x < ones f → t < hid f → (s : Bool) → HasValue (round f s (units_at f x t / 2 ^ low f) 1) s (units_at f x t / 2 ^ low f) 1
whole_exact f x t h k s = go (ltb x (emax f + (prec f - 1))) refl
  where
    go : (b : Bool) → ltb x (emax f + (prec f - 1)) ≡ b → HasValue (round f s (units_at f x t / 2 ^ low f) 1) s (units_at f x t / 2 ^ low f) 1
    go true e = round_whole f s (units_at f x t / 2 ^ low f) (le_of_lt (part_lt f x t k (ltb-true _ _ e)))
    go false e = many f s x t h k (ltb-false _ _ e)

-- so where something is cut off, there is room for one more
room_for_one : (f : Format) (x t : ℕ) → t < hid f → units_at f x t / 2 ^ low f * 2 ^ low f < units_at f x t → suc (units_at f x t / 2 ^ low f) ≤ 2 ^ prec f
room_for_one f x t k cut = go (ltb x (emax f + (prec f - 1))) refl
  where
    go : (b : Bool) → ltb x (emax f + (prec f - 1)) ≡ b → suc (units_at f x t / 2 ^ low f) ≤ 2 ^ prec f
    go true e = part_lt f x t k (ltb-true _ _ e)
    go false e = absurd (lt_irrefl (units_at f x t) (subst (λ (n : ℕ). n < units_at f x t) (whole_already f x t (ltb-false _ _ e)) cut))

-- ---- through a 32-bit integer and back

-- a whole number that the format holds with either sign
abbrev pub Exact : ℕ → Type 0
Exact n = (s : Bool) → HasValue (round binary32 s n 1) s n 1

int_pos : (n : ℕ) → of_int binary32 (pos n) ≡ round binary32 false n 1
unfolding of_int
int_pos n = refl

int_neg : (n : ℕ) → of_int binary32 (negsuc n) ≡ round binary32 true (suc n) 1
unfolding of_int
int_neg n = refl

-- at the upper end the cast is one short, and rounding makes up for it
at_end : HasValue (of_int binary32 (pos (2 ^ 31 - 1))) false (2 ^ 31) 1
unfolding of_int round
at_end = (refl, refl)

pub through_positive : (n : ℕ) → n ≤ 2 ^ 31 → Exact n → HasValue (of_int binary32 (held 31 false n)) false n 1
through_positive n h x = go (eq-or-lt_of_le h)
  where
    go : (n ≡ 2 ^ 31) ⊎ (n < 2 ^ 31) → HasValue (of_int binary32 (held 31 false n)) false n 1
    go (inl e) = subst (λ (k : ℕ). HasValue (of_int binary32 (held 31 false k)) false k 1) (sym e) at_end
    go (inr l) =
        subst (λ (v : Float). HasValue v false n 1)
        (sym (ap (λ (k : ℕ). of_int binary32 (pos k)) (let e : min n (2 ^ 31 - 1) ≡ n = omega arith in e) ∙ int_pos n)) (x false)

pub through_negative : (n : ℕ) → suc n ≤ 2 ^ 31 → Exact (suc n) → HasValue (of_int binary32 (held 31 true (suc n))) true (suc n) 1
through_negative n h x =
    subst (λ (v : Float). HasValue v true (suc n) 1)
    (sym (ap (λ (k : ℕ). of_int binary32 (neg_ℤ (pos k))) (let e : min (suc n) (2 ^ 31) ≡ suc n = omega arith in e) ∙ int_neg n)) (x true)

pub nothing_through : HasValue (of_int binary32 (held 31 true 0)) false 0 1
unfolding of_int round
nothing_through = (refl, refl)

-- ---- the floor's value

one_down : HasValue (sub binary32 (of_int binary32 (held 31 true 0)) (of_bits binary32 (one_word binary32))) true 1 1
unfolding sub add sum neg round of_int of_bits
one_down = (refl, refl)

minus_one : HasValue (neg (of_bits binary32 (one_word binary32))) true 1 1
unfolding neg of_bits
minus_one = (refl, refl)

sub_is : (x y : Float) → sub binary32 x y ≡ add binary32 x (neg y)
unfolding sub
sub_is x y = refl

further_down : (v : Float) (n : ℕ) → HasValue v true n 1 → suc n ≤ 2 ^ 24 → HasValue (sub binary32 v (of_bits binary32 (one_word binary32))) true (suc n) 1
further_down v n h l =
    subst (λ (x : Float). HasValue x true (suc n) 1)
    (sym (sub_is v (of_bits binary32 (one_word binary32)) ∙ add_values binary32 v (neg (of_bits binary32 (one_word binary32))) true n 1 1 (lit< tt) h minus_one ∙ ap (λ (k : ℕ). round binary32 true k 1) (add-one n)))
    (round_whole binary32 true (suc n) l)

abbrev Floored : Float → ℕ → Bool → ℕ → Type 0
Floored x d s u = (t : Bool) × (m : ℕ) × HasValue (floor_value binary32 x) t m 1 × Largest d s u t m

-- by the test's outcome
taken : (x : Float) → lt x (through_int binary32 x) ≡ true → (t : Bool) (m : ℕ) → HasValue (sub binary32 (through_int binary32 x) (of_bits binary32 (one_word binary32))) t m 1 → HasValue (floor_value binary32 x) t m 1
taken x e t m v = rw e v

left_as_is : (x : Float) → lt x (through_int binary32 x) ≡ false → (t : Bool) (m : ℕ) → HasValue (through_int binary32 x) t m 1 → HasValue (floor_value binary32 x) t m 1
left_as_is x e t m v = rw e v

module _ (x : Float) (d u : ℕ) (d_pos : 0 < d) where
  -- the test, by what the cast there and back is
  test_of : (s t : Bool) (n : ℕ) → HasValue x s u d → HasValue (through_int binary32 x) t n 1 → lt x (through_int binary32 x) ≡ below s (u * 1) t (n * d)
  test_of s t n v h = lt_values x (through_int binary32 x) s t u d n 1 d_pos (lit< tt) v h

  floor_positive : HasValue x false u d → HasValue (through_int binary32 x) false (u / d) 1 → Floored x d false u
  floor_positive v h = (
    false,
    u / d,
    left_as_is x (test_of false false (u / d) v h ∙ le-ltb (u * 1) (u / d * d) (rw mul-one (div-mul-le_self u d))) false (u / d) h,
    of_positive d u d_pos,
  )

  floor_negative : (n : ℕ) → u / d ≡ suc n → HasValue x true u d → HasValue (through_int binary32 x) true (suc n) 1 → (suc n * d < u → suc (suc n) ≤ 2 ^ 24) → Floored x d true u
  floor_negative n e v h room = go (ltb (suc n * d) (u * 1)) refl
    where
      least : suc n * d ≤ u
      least = subst (λ (k : ℕ). k * d ≤ u) e (div-mul-le_self u d)

      most : u ≤ suc (suc n) * d
      most = le_of_lt ((div-lt_iff_lt-mul d_pos).0 (subst (λ (k : ℕ). k < suc (suc n)) (sym e) (lt-suc_self (suc n))))

      go : (b : Bool) → ltb (suc n * d) (u * 1) ≡ b → Floored x d true u
      go true b =
          let cut : suc n * d < u = subst (λ (k : ℕ). suc n * d < k) (mul-one u) (ltb-true (suc n * d) (u * 1) b) in (
            true,
            suc (suc n),
            taken x (test_of true true (suc n) v h ∙ b) true (suc (suc n)) (further_down (through_int binary32 x) (suc n) h (room cut)),
            of_negative d u (suc n) cut most,
          )
      go false b =
          let same : suc n * d ≡ u = le_antisymm least (subst (λ (k : ℕ). k ≤ suc n * d) (mul-one u) (ltb-false (suc n * d) (u * 1) b)) in (
            true,
            suc n,
            left_as_is x (test_of true true (suc n) v h ∙ b) true (suc n) h,
            subst (λ (k : ℕ). Largest d true k true (suc n)) same (of_multiple d (suc n) (zero-lt-suc n)),
          )

  floor_small : u / d ≡ 0 → HasValue x true u d → through_int binary32 x ≡ of_int binary32 (held 31 true 0) → Floored x d true u
  floor_small e v i = go u refl
    where
      h : HasValue (through_int binary32 x) false 0 1
      h = rw i nothing_through

      test : lt x (through_int binary32 x) ≡ ltb 0 u
      test = test_of true false 0 v h ∙ ap (ltb 0) (let e : u * 1 + 0 * d ≡ u = rw (mul-one u, zero-mul d) (add-zero u) in e)

      go : (k : ℕ) → u ≡ k → Floored x d true u
      go zero k = (false, 0, left_as_is x (test ∙ ap (ltb 0) k) false 0 h, rw k (of_zero d))
      go (suc k) j =
          let some : 0 < u = rw j (zero-lt-suc k) in
          let short : u < d = subst (λ (n : ℕ). u < n) (one-mul d) ((div-lt_iff_lt-mul d_pos).0 (rw e (zero-lt-suc 0))) in (
            true,
            1,
            taken x (test ∙ lt-ltb 0 u some) true 1 (rw i one_down),
            of_negative d u 0 (rw zero-mul some) (rw one-mul (le_of_lt short)),
          )

  floored : (s : Bool) → HasValue x s u d → to_signed 31 x ≡ held 31 s (u / d) → u / d ≤ 2 ^ 31 → Exact (u / d) → (u / d * d < u → suc (u / d) ≤ 2 ^ 24) → Floored x d s u
  floored false v c l h room = floor_positive v (rw c (through_positive (u / d) l h))
  floored true v c l h room = go (u / d) refl
    where
      go : (n : ℕ) → u / d ≡ n → Floored x d true u
      go zero e = floor_small e v (ap (of_int binary32) (c ∙ ap (held 31 true) e))
      go (suc n) e =
          floor_negative n e v (rw (c, e) (through_negative n (subst (λ (k : ℕ). k ≤ 2 ^ 31) e l) (subst Exact e h)))
          (λ cut. subst (λ (k : ℕ). suc k ≤ 2 ^ 24) e (room (subst (λ (k : ℕ). k * d < u) (sym e) cut)))

-- ---- the laws

-- the largest magnitude is 2 ^ 31 units of 1
at_most : (x t : ℕ) → t < 2 ^ 23 → x * 2 ^ 23 + t ≤ 0x4f00_0000 → units_at binary32 x t ≤ 2 ^ 31 * 2 ^ 149
at_most zero t k h = le_trans (le_of_lt k) (lit≤ tt)
at_most (suc y) t k h = go (ltb y 157) refl
  where
    go : (b : Bool) → ltb y 157 ≡ b → (2 ^ 23 + t) * 2 ^ y ≤ 2 ^ 31 * 2 ^ 149
    go true e =
        let y_le : y ≤ 156 = omega (arith, ltb-true y 157 e) in
        let s_le : 2 ^ 23 + t ≤ 2 ^ 24 = omega arith in
        le_trans (mul-le-mul_right (2 ^ y) s_le) (mul-le-mul_left (2 ^ 24) (pow_mono y_le))
    go false e =
        let y_le : y ≤ 157 = omega arith in
        let s_le : 2 ^ 23 + t ≤ 2 ^ 23 = omega (arith, ltb-false y 157 e) in
        le_trans (mul-le-mul_right (2 ^ y) s_le) (mul-le-mul_left (2 ^ 23) (pow_mono y_le))

to31_finite : (w : ℕ) → To31 w → Finite binary32 w
to31_finite w h = omega arith

floor_value_is : (w : ℕ) → To31 w → Floored (of_bits binary32 w) (2 ^ low binary32) (negative binary32 w) (units binary32 w)
floor_value_is w h =
    let x = exponent binary32 w in
    let t = fraction binary32 w in
    let t_lt : t < 2 ^ 23 = fraction_lt binary32 w in
    let p = to31_finite w h in
    floored (of_bits binary32 w) (2 ^ 149) (units binary32 w) (pow_pos 149) (negative binary32 w) (word_value binary32 w p) (word_cast binary32 31 w p)
    (subst (λ (n : ℕ). units binary32 w / 2 ^ 149 ≤ n) (mul-div_cancel (2 ^ 31) (pow_pos 149)) (shr_mono 149 (at_most x t t_lt (subst (λ (n : ℕ). n ≤ 0x4f00_0000) (sym (two_fields binary32 w)) h))))
    (whole_exact binary32 x t p t_lt)
    (room_for_one binary32 x t t_lt)

pub floor_is : (w : ℕ) → To31 w → IsFloor binary32 w (floor_word binary32 w)
floor_is w h =
    let g = floor_value_is w h in
    let t = g.0 in
    let m = g.1 in
    let r = floor_word binary32 w in
    let held_as = value_word binary32 (floor_value binary32 (of_bits binary32 w)) t m 1 (floor_fits binary32 (of_bits binary32 w)) g.2 in
    let size : units binary32 r ≡ m * 2 ^ 149 = sym (mul-one (units binary32 r)) ∙ held_as.amount in
    let l = g.3 in
    record {
      finite = held_as.finite;
      whole = rw size (mul-mod_left m (2 ^ 149));
      below = rw (held_as.sign, size) l.below;
      largest = λ i n k. rw (held_as.sign, size) (l.largest i n k);
      zero = λ e. held_as.sign ∙ l.zero (eq_of_mul-eq-mul_right (2 ^ 149) (pow_pos 149) m 0 (sym size ∙ e));
    }

-- ---- ceil is floor seen with the signs turned

not_not : (b : Bool) → not (not b) ≡ b
not_not true = refl
not_not false = refl

-- an order seen from the other side
turned_order : (s : Bool) (a : ℕ) (t : Bool) (b : ℕ) → NotAbove s a t b → NotAbove (not t) b (not s) a
turned_order false a false b h = h
turned_order false a true b h = add_comm b a ∙ h
turned_order true a false b h = tt
turned_order true a true b h = h

turned_back : (s : Bool) (a : ℕ) (t : Bool) (b : ℕ) → NotAbove (not t) b (not s) a → NotAbove s a t b
turned_back s a t b h = subst (λ (i : Bool). NotAbove i a t b) (not_not s) (subst (λ (j : Bool). NotAbove (not (not s)) a j b) (not_not t) (turned_order (not t) b (not s) a h))

floor_to_ceil : (f : Format) (w r : ℕ) → IsFloor f (turned_word f w) r → IsCeil f w (turned_word f r)
floor_to_ceil f w r c =
    let w_size = turned_units f w in
    let r_size = turned_units f r in
    let r_sign = turned_sign f r in
    let signs : negative f (turned_word f w) ≡ not (negative f w) = turned_sign f w in
    record {
      finite = subst (λ (x : ℕ). x < ones f) (sym (turned_field f r)) c.finite;
      whole = rw r_size c.whole;
      above = rw (r_sign, r_size) (turned_back (negative f w) (units f w) (not (negative f r)) (units f r) (rw (not_not (negative f r)) (rw (signs, w_size) at c.below)));
      smallest = λ i n h.
          rw (r_sign, r_size)
          (turned_back (not (negative f r)) (units f r) i (n * 2 ^ low f)
          (rw (not_not (negative f r)) (c.largest (not i) n (rw (signs, w_size) (turned_order (negative f w) (units f w) i (n * 2 ^ low f) h)))));
      zero = λ e. r_sign ∙ ap not (c.zero (sym r_size ∙ e));
    }

pub ceil_by_floor : (f : Format) (w : ℕ) → ceil_word f w ≡ turned_word f (floor_word f (turned_word f w))
ceil_by_floor f w =
    let x = neg (of_bits f w) in
    turned_written f (floor_value f x) (floor_fits f x) (floor_no_nan f x) ∙ ap (λ (y : Float). turned_word f (to_bits f (floor_value f y))) (sym (turned_read f w))

pub ceil_is : (w : ℕ) → To31 w → IsCeil binary32 w (ceil_word binary32 w)
ceil_is w h =
    rw (ceil_by_floor binary32 w)
    (floor_to_ceil binary32 w (floor_word binary32 (turned_word binary32 w)) (floor_is (turned_word binary32 w) (rw (turned_magnitude binary32 w) h)))
