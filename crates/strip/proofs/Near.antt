-- The floor of a number of at most 2 ^ 21 by sums: 3 * 2 ^ 22 added and taken away leaves a whole number next to it, and that is one too many where it
-- lies above. From 2 ^ 23 to 2 ^ 24 the numbers of binary32 are 1 apart, so the first sum is rounded to a whole number, and the others are exact.
-- Assumes nothing.
use Prim.Native.Nat.{ℕ, suc, ◌+◌, ◌-◌, ◌*◌, ◌/◌, ◌%◌, ◌^◌, ◌≤◌, ◌<◌, compare}
use native.Mathlib.Nat.{le_trans, le_of_eq, le_of_lt, le_antisymm, lt_of_lt_of_le, lt_of_le_of_lt, lt_of_not-le, lt_irrefl, lt-suc_self, le_of_suc-le-suc, add_comm, add-mul, suc-mul, mul-one, mul-pos, mul_assoc, mul_right_comm, mul-le-mul_right, mul-lt-mul_of_pos_right, lt_of_mul-lt-mul_right, eq_of_mul-eq-mul_right, mul-mod_left, le-div_iff_mul-le, div-lt_iff_lt-mul, div-mul-le_self}
use native.Mathlib.Omega.{arith}
use mathlib.Core.Path.{◌≡◌, refl, sym, ap, subst, ◌∙◌}
use mathlib.Core.Bool.{Bool, true, false, cond}
use borrow.Author.Tests.{ltb-true, ltb-false, lt-ltb, le-ltb}
use lib.Dec.{T, ltb, lit<, lit≤}
use lib.Pow.{pow_pos, pow_mono, shl_lt}
use lib.Ieee.{Float, nan, inf, fin, binary32, up, down, size, units as units_of, round, sum, add, sub, lt, below, fits, of_bits, to_bits}
use lib.Ieee.Back.{round_whole}
use lib.Ieee.Bits.{of_bits-to_bits, to_bits-lt}
use lib.Ieee.Digits.{size-lt, size-le}
use lib.Ieee.Exact.{HasValue, units_val}
use lib.Ieee.Fits.{core, round_is, cond-fits, sub-fits, nearest-le}
use lib.Ieee.Nearest.{closest, closest_same, nearest-ge}
use Rattle.format.specs.Fields.{negative, magnitude}
use Rattle.format.specs.Value.{units, Finite}
use Rattle.format.specs.Whole.{floor_word}
use Rattle.format.specs.Meaning.{NotAbove, IsFloor}
use Rattle.format.proofs.FloorMeaning.{floor_is}
use Rattle.format.proofs.Unique.{one_floor}
use Rattle.format.proofs.Value.{word_value, value_word, lt_values, add_signed, sub_signed}
use Rattle.format.proofs.Whole.{floor_fits}
use Rattle.format.proofs.Larger.{units_mono}
use Rattle.float.specs.Engine.{ieee, floor_of}
use Rattle.guard.proofs.Order.{same_test}

-- 3 * 2 ^ 22, as a whole number and as a value, and 1
abbrev far : ℕ
far = 12582912

abbrev shift : Float
shift = of_bits binary32 0x4b40_0000

abbrev one : Float
one = of_bits binary32 0x3f80_0000

abbrev near : Float → Float
near x = sub binary32 (add binary32 x shift) shift

abbrev pub near_below : Float → Float
near_below x = cond (lt x (near x)) (sub binary32 (near x) one) (near x)

shift_value : HasValue shift false far 1
unfolding of_bits
shift_value = (refl, refl)

one_value : HasValue one false 1 1
unfolding of_bits
one_value = (refl, refl)

-- a value over another denominator
over : (x : Float) (s : Bool) (a c b d : ℕ) → 0 < c → a * d ≡ b * c → HasValue x s a c → HasValue x s b d
over nan s a c b d p e v = absurd v
over (inf t) s a c b d p e v = absurd v
over (fin t m k) s a c b d p e v = (
  v.0,
  eq_of_mul-eq-mul_right c p (m * up k * d) (b * down k)
      (mul_right_comm (m * up k) d c ∙ ap (λ (n : ℕ). n * d) v.1 ∙ mul_right_comm a (down k) d ∙ ap (λ (n : ℕ). n * down k) e ∙ mul_right_comm b c (down k)),
)

-- ---- from 2 ^ 23 up to 2 ^ 24 a fraction is rounded to the nearest whole number

digits : (n d : ℕ) → 0 < d → 2 ^ 172 * d ≤ n → n < 2 ^ 173 * d → size (n / d) ≡ 173
digits n d D lo hi =
    le_antisymm (size-le (n / d) 173 ((div-lt_iff_lt-mul D).1 hi))
    (lt_of_not-le (λ (g : size (n / d) ≤ 172). lt_irrefl (n / d) (lt_of_lt_of_le (size-lt (n / d)) (le_trans (pow_mono g) ((le-div_iff_mul-le D).1 lo)))))

module _ (a d : ℕ) (D : 0 < d) where
  -- the nearest is the quotient or one more
  nearest_up : closest a d ≤ suc (a / d)
  nearest_up = nearest-le (a / d) (compare (a % d * 2) d)

  nearest_down : a / d ≤ closest a d
  nearest_down = nearest-ge (a / d) (compare (a % d * 2) d)

  module _ (lo : 2 ^ 23 * d ≤ a) (hi : a < 2 ^ 24 * d) where
    nearest_most : closest a d ≤ 2 ^ 24
    nearest_most = le_trans nearest_up ((div-lt_iff_lt-mul D).1 hi)

    rounded : round binary32 false a d ≡ units_of binary32 false (closest a d) 149
    rounded =
        let l = 2 ^ 149 in
        let whole : size (a * l / d) ≡ 173 =
        digits (a * l) d D
        (le_trans (le_of_eq (mul_right_comm (2 ^ 23) l d)) (mul-le-mul_right l lo))
        (lt_of_lt_of_le (mul-lt-mul_of_pos_right hi (pow_pos 149)) (le_of_eq (mul_right_comm (2 ^ 24) d l))) in
        round_is binary32 false a d ∙ ap (λ (z : ℕ). core binary32 false (a * l) d (z - 24)) whole
        ∙ ap (λ (n : ℕ). units_of binary32 false n 149) (closest_same (a * l) (d * l) a d (mul-pos D (pow_pos 149)) D (mul_right_comm a l d ∙ mul_assoc a d l))

    round_near : HasValue (round binary32 false a d) false (closest a d) 1
    round_near =
        let n = closest a d in
        over (round binary32 false a d) false (n * 2 ^ 149) (2 ^ 149) n 1 (pow_pos 149) (mul-one (n * 2 ^ 149))
        (subst (λ (x : Float). HasValue x false (n * 2 ^ 149) (2 ^ 149)) (sym rounded)
        (units_val binary32 false n 149 (shl_lt 128 149 (lt_of_le_of_lt nearest_most (lit< tt)))))

-- ---- whole numbers, counted from -far

-- n is the whole number of sign t and size v with far added, and that number is no -0
abbrev Off : Bool → ℕ → ℕ → Type 0
Off false v n = v + far ≡ n
Off true v n = (0 < v) × (v + n ≡ far)

plus_zero : (t : Bool) (v n : ℕ) → Off t v n → v ≡ 0 → t ≡ false
plus_zero false v n o e = refl
plus_zero true v n o e = absurd (let z : ⊥ = omega arith in z)

record Whole (y : Float) (n : ℕ) : Type 0 where
  sign : Bool
  amount : ℕ
  value : HasValue y sign amount 1
  off : Off sign amount n

taken_away : (y : Float) (n : ℕ) → HasValue y false n 1 → n ≤ 2 ^ 24 → Whole (sub binary32 y shift) n
unfolding sum
taken_away y n v l = rw (sub_signed binary32 y shift false false n far 1 (lit< tt) v shift_value) (go (ltb n far) refl)
  where
    go : (b : Bool) → ltb n far ≡ b → Whole (cond b (round binary32 true (far - n) 1) (round binary32 false (n - far) 1)) n
    go true e =
        let h = ltb-true n far e in
        record { sign = true; amount = far - n; value = round_whole binary32 true (far - n) (omega arith); off = (omega arith, omega arith) }
    go false e =
        let h = ltb-false n far e in
        record { sign = false; amount = n - far; value = round_whole binary32 false (n - far) (omega arith); off = omega arith }

one_less : (y : Float) (n : ℕ) → Whole y (suc n) → n ≤ 2 ^ 24 → Whole (sub binary32 y one) n
unfolding sum
one_less y n w l = rw (sub_signed binary32 y one w.sign false w.amount 1 1 (lit< tt) w.value one_value) (go w.sign w.amount w.off)
  where
    either : (v : ℕ) → v + far ≡ suc n → (b : Bool) → ltb v 1 ≡ b → Whole (cond b (round binary32 true (1 - v) 1) (round binary32 false (v - 1) 1)) n
    either v o true e =
        let h = ltb-true v 1 e in
        record { sign = true; amount = 1 - v; value = round_whole binary32 true (1 - v) (omega arith); off = (omega arith, omega arith) }
    either v o false e =
        let h = ltb-false v 1 e in
        record { sign = false; amount = v - 1; value = round_whole binary32 false (v - 1) (omega arith); off = omega arith }

    go : (t : Bool) (v : ℕ) → Off t v (suc n) → Whole (sum binary32 t v true 1 1) n
    go false v o = either v o (ltb v 1) refl
    go true v o = record { sign = true; amount = v + 1; value = round_whole binary32 true (v + 1) (omega arith); off = (omega arith, omega arith) }

-- ---- a number ±u / d of at most 2 ^ 21 in size

scaled : (v n m d : ℕ) → v + n ≡ m → v * d + n * d ≡ m * d
scaled v n m d e = sym (add-mul v n d) ∙ ap (λ (k : ℕ). k * d) e

-- the whole number of sign i and size n, with far added, is at most q
abbrev Reaches : Bool → ℕ → ℕ → Type 0
Reaches false n q = n + far ≤ q
Reaches true n q = far ≤ q + n

-- ±u / d with far added, over d
abbrev moved : ℕ → ℕ → Bool → ℕ
moved d u false = far * d + u
moved d u true = far * d - u

module _ (d u : ℕ) (D : 0 < d) (small : u ≤ 2 ^ 21 * d) where
  moved_sum : (s : Bool) → sum binary32 s u false (far * d) d ≡ round binary32 false (moved d u s) d
  unfolding sum
  moved_sum false = ap (λ (n : ℕ). round binary32 false n d) (add_comm u (far * d))
  moved_sum true = rw (lt-ltb u (far * d) (omega arith))

  least : (s : Bool) → 2 ^ 23 * d ≤ moved d u s
  least false = omega arith
  least true = omega arith

  most : (s : Bool) → moved d u s < 2 ^ 24 * d
  most false = omega arith
  most true = omega arith

  -- far added to both, the order stays
  order : (s t : Bool) (v n : ℕ) → Off t v n → below s (u * 1) t (v * d) ≡ ltb (moved d u s) (n * d)
  order false false v n o = let e = scaled v far n d o in same_test (u * 1) (v * d) (far * d + u) (n * d) (λ h. omega arith) (λ h. omega arith)
  order false true v n o = let e = scaled v n far d o.1 in sym (le-ltb (far * d + u) (n * d) (omega arith))
  order true false v n o = let e = scaled v far n d o in same_test 0 (u * 1 + v * d) (far * d - u) (n * d) (λ h. omega arith) (λ h. omega arith)
  order true true v n o = let e = scaled v n far d o.1 in same_test (v * d) (u * 1) (far * d - u) (n * d) (λ h. omega arith) (λ h. omega arith)

  not_above : (t s : Bool) (m q : ℕ) → Off t m q → q * d ≤ moved d u s → NotAbove t (m * d) s u
  not_above false false m q o h = omega (arith, scaled m far q d o)
  not_above false true m q o h = omega (arith, scaled m far q d o)
  not_above true false m q o h = tt
  not_above true true m q o h = omega (arith, scaled m q far d o.1)

  -- a whole number not above ±u / d, with far added, is at most the quotient
  reaches : (i s : Bool) (n q : ℕ) → moved d u s < suc q * d → NotAbove i (n * d) s u → Reaches i n q
  reaches false false n q h k = le_of_suc-le-suc (lt_of_mul-lt-mul_right d (lt_of_le_of_lt (let g : (n + far) * d ≤ far * d + u = omega (arith, add-mul n far d) in g) h))
  reaches false true n q h k = le_of_suc-le-suc (lt_of_mul-lt-mul_right d (lt_of_le_of_lt (let g : (n + far) * d ≤ far * d - u = omega (arith, add-mul n far d) in g) h))
  reaches true false n q h k = le_of_suc-le-suc (lt_of_mul-lt-mul_right d (let g : far * d < suc (q + n) * d = omega (arith, suc-mul (q + n) d, add-mul q n d, suc-mul q d) in g))
  reaches true true n q h k = le_of_suc-le-suc (lt_of_mul-lt-mul_right d (let g : far * d < suc (q + n) * d = omega (arith, suc-mul (q + n) d, add-mul q n d, suc-mul q d) in g))

  largest : (i t : Bool) (n m q : ℕ) → Off t m q → Reaches i n q → NotAbove i (n * d) t (m * d)
  largest false false n m q o h = mul-le-mul_right d (omega arith)
  largest false true n m q o h = absurd (let z : ⊥ = omega arith in z)
  largest true false n m q o h = tt
  largest true true n m q o h = mul-le-mul_right d (omega arith)

  module _ (x : Float) (s : Bool) (v : HasValue x s u d) where
    abbrev a : ℕ
    a = moved d u s

    near_whole : Whole (near x) (closest a d)
    near_whole =
        let far_over = over shift false far 1 (far * d) d (lit< tt) (sym (mul-one (far * d))) shift_value in
        let e = add_signed binary32 x shift s false u (far * d) d D v far_over ∙ moved_sum s in
        taken_away (add binary32 x shift) (closest a d) (rw e (round_near a d D (least s) (most s))) (nearest_most a d D (least s) (most s))

    test_is : lt x (near x) ≡ ltb a (closest a d * d)
    test_is =
        let w = near_whole in
        lt_values x (near x) s w.sign u d w.amount 1 D (lit< tt) v w.value ∙ order s w.sign w.amount (closest a d) w.off

    below_whole : Whole (near_below x) (a / d)
    below_whole = go (lt x (near x)) (sym test_is)
      where
        go : (b : Bool) → ltb a (closest a d * d) ≡ b → Whole (cond b (sub binary32 (near x) one) (near x)) (a / d)
        go true e =
            let more : suc (a / d) ≤ closest a d = (div-lt_iff_lt-mul D).1 (ltb-true a (closest a d * d) e) in
            one_less (near x) (a / d) (subst (Whole (near x)) (le_antisymm (nearest_up a d D) more) near_whole) (le_of_lt ((div-lt_iff_lt-mul D).1 (most s)))
        go false e =
            let less : closest a d ≤ a / d = (le-div_iff_mul-le D).1 (ltb-false a (closest a d * d) e) in
            subst (Whole (near x)) (le_antisymm less (nearest_down a d D)) near_whole

-- ---- the law

near_fits : (x : Float) → T (fits binary32 (near_below x))
near_fits x = cond-fits binary32 (lt x (near x)) _ _ (sub-fits binary32 (near x) one) (sub-fits binary32 (add binary32 x shift) shift)

finite_word : (w : ℕ) → magnitude binary32 w ≤ 0x4a00_0000 → Finite binary32 w
finite_word w h = omega arith

-- the word of what is left means the floor
near_is : (w : ℕ) → magnitude binary32 w ≤ 0x4a00_0000 → IsFloor binary32 w (to_bits binary32 (near_below (of_bits binary32 w)))
near_is w h =
    let x = of_bits binary32 w in
    let s = negative binary32 w in
    let u = units binary32 w in
    let d = 2 ^ 149 in
    let D = pow_pos 149 in
    let small = units_mono binary32 w 0x4a00_0000 h in
    let q = moved d u s / d in
    let b = below_whole d u D small x s (word_value binary32 w (finite_word w h)) in
    let r = to_bits binary32 (near_below x) in
    let held_as = value_word binary32 (near_below x) b.sign b.amount 1 (near_fits x) b.value in
    let size : units binary32 r ≡ b.amount * d = sym (mul-one (units binary32 r)) ∙ held_as.amount in
    record {
      finite = held_as.finite;
      whole = rw size (mul-mod_left b.amount d);
      below = rw (held_as.sign, size) (not_above d u D small b.sign s b.amount q b.off (div-mul-le_self (moved d u s) d));
      largest = λ i n k.
          rw (held_as.sign, size)
          (largest d u D small i b.sign n b.amount q b.off (reaches d u D small i s n q ((div-lt_iff_lt-mul D).0 (lt-suc_self q)) k));
      zero = λ e. held_as.sign ∙ plus_zero b.sign b.amount q b.off (eq_of_mul-eq-mul_right d D b.amount 0 (sym size ∙ e));
    }

pub near_floor : (x : Float) → T (fits binary32 x) → magnitude binary32 (to_bits binary32 x) ≤ 0x4a00_0000 → near_below x ≡ floor_of ieee x
near_floor x f h =
    let w = to_bits binary32 x in
    let y = of_bits binary32 w in
    let words : to_bits binary32 (near_below y) ≡ floor_word binary32 w =
    one_floor binary32 w (to_bits binary32 (near_below y)) (floor_word binary32 w) (to_bits-lt binary32 (near_below y) (near_fits y)) (to_bits-lt binary32 _ (floor_fits binary32 y))
    (near_is w h) (floor_is w (le_trans h (lit≤ tt))) in
    ap near_below (sym (of_bits-to_bits binary32 x f)) ∙ sym (of_bits-to_bits binary32 (near_below y) (near_fits y)) ∙ ap (of_bits binary32) words
