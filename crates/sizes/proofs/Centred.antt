-- A number of turns less a quarter and the whole turns is from -1/2 to 1/2, up to 2 ^ 22 turns: a quarter added to a number is exact where rounding it
-- could pass a whole number. Counted in units, a quarter is 2 ^ 147 and a turn 2 ^ 149. Assumes nothing.
use Prim.Native.Nat.{ℕ, zero, suc, ◌+◌, ◌-◌, ◌*◌, ◌^◌, ◌≤◌, ◌<◌, zero-le}
use native.Mathlib.Nat.{le_refl, le_trans, le_of_eq, le_of_lt, le_of_suc-le-suc, lt_of_le_of_lt, lt_of_lt_of_le, not-le_of_lt, eq-or-lt_of_le, mul-one, add-mul, suc-mul, add-le-add, add_comm, sub-add_cancel, sub-le, sub-pos_iff_lt, mul-le-mul_right, lt_of_mul-lt-mul_right, div-lt_iff_lt-mul}
use native.Mathlib.Omega.{arith}
use mathlib.Core.Path.{◌≡◌, refl, sym, ap, subst, ◌∙◌}
use mathlib.Core.Logic.{◌⊎◌, inl, inr}
use mathlib.Core.Bool.{Bool, true, false}
use borrow.Author.Tests.{lt-ltb, le-ltb}
use lib.Dec.{T, lit<, lit≤}
use lib.Pow.{pow_pos, pow-add, pow_mono, shl_lt}
use lib.Ieee.{Float, binary32, round, sum, add, sub, lt, fits, of_int, to_signed, of_bits, to_bits}
use lib.Ieee.Bits.{of_bits-to_bits, to_bits-lt}
use lib.Ieee.Exact.{HasValue}
use lib.Ieee.Fits.{round-fits}
use lib.Ieee.Positive.{first_pos}
use Rattle.format.specs.Fields.{negative, magnitude, exponent, fraction, sign_bit}
use Rattle.format.specs.Value.{units_at, units, Finite}
use Rattle.format.specs.Whole.{floor_word}
use Rattle.format.proofs.Fields.{hid_pos, fraction_lt, sign_and_magnitude}
use Rattle.format.proofs.Order.{either, sub_mul}
use Rattle.format.proofs.Larger.{units_mono}
use Rattle.format.proofs.FloorMeaning.{floor_is}
use Rattle.format.proofs.Same.{Counted}
use Rattle.format.proofs.Value.{word_value, add_signed, sub_signed, add_values}
use Rattle.float.specs.Engine.{ieee}
use Rattle.float.specs.Cos.{centred}
use Rattle.sizes.proofs.Size.{AtMost, round_at_most, units_apart}
use Rattle.sizes.proofs.Words.{at_most_word}
use Rattle.sizes.proofs.FloorUnits.{Down, Up, floor_up, rounded_down}
use Rattle.sizes.proofs.Kept.{not_over, not_under, kept, kept_word}

-- ---- over plain numbers: t and q are units, and a turn is 4 * q

turns_and_quarter : (v q : ℕ) → (4 * v + 1) * q ≡ v * (4 * q) + q
turns_and_quarter v q = omega arith

below_next : (v q : ℕ) → 0 < q → (4 * v + 1) * q < suc v * (4 * q)
below_next v q h = omega (arith, suc-mul v (4 * q))

turns_less_quarter : (n q : ℕ) → (4 * n - 1) * q ≡ n * (4 * q) - q
turns_less_quarter n q = sub_mul (4 * n) 1 q ∙ omega arith

above_quarter : (n q : ℕ) → 0 < q → 0 < n → q < n * (4 * q)
above_quarter n q h some = omega (arith, mul-le-mul_right (4 * q) some)

up_to_half : (t n q : ℕ) → t + q ≤ suc n * (4 * q) → t ≤ (4 * n + 1) * q + 2 * q
up_to_half t n q h = omega (arith, suc-mul n (4 * q))

down_to_half : (t n q : ℕ) → n * (4 * q) ≤ t + q → (4 * n + 1) * q ≤ t + 2 * q
down_to_half t n q h = omega arith

far_up : (t n q : ℕ) → 0 < n → t - q ≤ n * (4 * q) → t ≤ (4 * n - 1) * q + 2 * q
far_up t n q some h = rw (turns_less_quarter n q) (omega (arith, mul-le-mul_right (4 * q) some))

far_down : (t n q : ℕ) → q < t → n * (4 * q) < t - q + 4 * q → (4 * n - 1) * q ≤ t + 2 * q
far_down t n q l h = rw (turns_less_quarter n q) (omega arith)

-- ---- a quarter and the whole turns

abbrev quarter : Float
quarter = of_bits binary32 0x3e80_0000

quarter_value : HasValue quarter false (2 ^ 147) (2 ^ 149)
unfolding of_bits
quarter_value = (refl, refl)

-- of a number that is not negative
quarter_and : {a r : ℕ} (d : Down a r) → d.wholes < 2 ^ 22 → HasValue (add binary32 quarter (of_bits binary32 r)) false ((4 * d.wholes + 1) * 2 ^ 147) (2 ^ 149)
quarter_and {r = r} d few =
    let n = d.wholes in
    rw (add_values binary32 quarter (of_bits binary32 r) false (2 ^ 147) (n * 2 ^ 149) (2 ^ 149) (pow_pos 149) quarter_value (rw (d.sign, d.whole) at (word_value binary32 r d.finite)))
    (subst (λ (k : ℕ). HasValue (round binary32 false k (2 ^ 149)) false ((4 * n + 1) * 2 ^ 147) (2 ^ 149)) (turns_and_quarter n (2 ^ 147) ∙ add_comm (n * 2 ^ 149) (2 ^ 147))
    (kept false (4 * n + 1) 147 (omega (arith, few)) (lit≤ tt)))

-- and of one below 0
quarter_less_than : {a r : ℕ} (u : Up a r) → 0 < u.wholes → u.wholes ≤ 2 ^ 22 → HasValue (add binary32 quarter (of_bits binary32 r)) true ((4 * u.wholes - 1) * 2 ^ 147) (2 ^ 149)
unfolding sum
quarter_less_than {r = r} u some few =
    let n = u.wholes in
    rw (add_signed binary32 quarter (of_bits binary32 r) false true (2 ^ 147) (n * 2 ^ 149) (2 ^ 149) (pow_pos 149) quarter_value (rw (u.sign, u.whole) at (word_value binary32 r u.finite)), lt-ltb (2 ^ 147) (n * 2 ^ 149) (above_quarter n (2 ^ 147) (pow_pos 147) some))
    (subst (λ (k : ℕ). HasValue (round binary32 true k (2 ^ 149)) true ((4 * n - 1) * 2 ^ 147) (2 ^ 149)) (turns_less_quarter n (2 ^ 147))
    (kept true (4 * n - 1) 147 (omega (arith, few)) (lit≤ tt)))

-- ---- a word up to 4a7ffffe, next but one to 2 ^ 22, as its digits

record Digits (u : ℕ) : Type 0 where
  digits : ℕ
  place : ℕ
  amount : u ≡ digits * 2 ^ place
  few : digits < 2 ^ 24
  low : place ≤ 147

digits_at : (x t : ℕ) → t < 2 ^ 23 → x ≤ 148 → Digits (units_at binary32 x t)
digits_at zero t h k = record { digits = t; place = 0; amount = sym (mul-one t); few = omega arith; low = lit≤ tt }
digits_at (suc x) t h k = record { digits = 2 ^ 23 + t; place = x; amount = refl; few = omega arith; low = le_of_suc-le-suc k }

module _ (w : ℕ) (h : magnitude binary32 w ≤ 0x4a7f_fffe) where
  abbrev u : ℕ
  u = units binary32 w

  u_digits : Digits u
  u_digits = digits_at (exponent binary32 w) (fraction binary32 w) (fraction_lt binary32 w) (le_of_suc-le-suc ((div-lt_iff_lt-mul (hid_pos binary32)).1 (let l : magnitude binary32 w < 149 * 2 ^ 23 = omega arith in l)))

  abbrev m : ℕ
  m = u_digits.digits

  abbrev k : ℕ
  k = u_digits.place

  u_is : u ≡ m * 2 ^ k
  u_is = u_digits.amount

  u_most : u ≤ units binary32 0x4a7f_fffe
  u_most = units_mono binary32 w 0x4a7f_fffe h

  u_finite : Finite binary32 w
  u_finite = (div-lt_iff_lt-mul (hid_pos binary32)).1 (omega arith)

  -- a quarter in the number's last place
  quarter_is : 2 ^ 147 ≡ 2 ^ (147 - k) * 2 ^ k
  quarter_is = ap (λ (n : ℕ). 2 ^ n) (sym (sub-add_cancel u_digits.low)) ∙ pow-add 2 (147 - k) k

  quarter_more : u + 2 ^ 147 ≡ (m + 2 ^ (147 - k)) * 2 ^ k
  quarter_more = rw u_is (ap (λ (n : ℕ). m * 2 ^ k + n) quarter_is) ∙ sym (add-mul m (2 ^ (147 - k)) (2 ^ k))

  quarter_less : u - 2 ^ 147 ≡ (m - 2 ^ (147 - k)) * 2 ^ k
  quarter_less = rw u_is (ap (λ (n : ℕ). m * 2 ^ k - n) quarter_is) ∙ sym (sub_mul m (2 ^ (147 - k)) (2 ^ k))

  -- ---- not negative

  module _ (s : negative binary32 w ≡ false) where
    abbrev a : Float
    a = round binary32 false (u + 2 ^ 147) (2 ^ 149)

    a_is : add binary32 (of_bits binary32 w) quarter ≡ a
    a_is = add_values binary32 (of_bits binary32 w) quarter false u (2 ^ 147) (2 ^ 149) (pow_pos 149) (rw s at (word_value binary32 w u_finite)) quarter_value

    abbrev A : ℕ
    A = to_bits binary32 a

    sum_most : u + 2 ^ 147 ≤ units binary32 0x4a7f_ffff
    sum_most = add-le-add u_most (le_refl (2 ^ 147))

    a_most : AtMost binary32 0x4a7f_ffff a
    a_most = round_at_most binary32 0x4a7f_ffff false (u + 2 ^ 147) (2 ^ 149) (lit< tt) (pow_pos 149) (mul-le-mul_right (2 ^ 149) sum_most)

    a_floor : Down (units binary32 A) (floor_word binary32 A)
    a_floor = rounded_down (u + 2 ^ 147) 0x4a7f_ffff (lit< tt) (lit≤ tt) sum_most

    abbrev N : ℕ
    N = a_floor.wholes

    n_most : N < 2 ^ 22
    n_most = lt_of_mul-lt-mul_right (2 ^ 149) (lt_of_le_of_lt (le_trans a_floor.least (not_over false (u + 2 ^ 147) 0x4a7f_ffff (lit< tt) sum_most)) (lit< tt))

    -- were the sum above the next whole number, so would be what it is rounded to
    upper : u + 2 ^ 147 ≤ suc N * 2 ^ 149
    upper = elim (either (u + 2 ^ 147) (suc N * 2 ^ 149)) [
      | inl l ↦ l
      | inr l ↦
          let v = kept_word false (suc N) 149 (omega (arith, n_most)) (lit≤ tt) in
          absurd (not-le_of_lt a_floor.most (le_trans (le_of_eq (sym v.count)) (not_under false (u + 2 ^ 147) _ v.finite (rw v.count (le_of_lt l)) a_most.finite)))
    ]

    -- nor is it below the whole number: where it has few enough digits it is exact; else it is below 1, or it has passed a power of two, from which it is
    -- less than a quarter off
    lower : N * 2 ^ 149 ≤ u + 2 ^ 147
    lower = go (either (m + 2 ^ (147 - k)) (2 ^ 24)) (either k 124)
      where
        go : (m + 2 ^ (147 - k) ≤ 2 ^ 24) ⊎ (2 ^ 24 < m + 2 ^ (147 - k)) → (k ≤ 124) ⊎ (124 < k) → N * 2 ^ 149 ≤ u + 2 ^ 147
        go (inl l) i =
            let v = kept_word false (m + 2 ^ (147 - k)) k l (le_trans u_digits.low (lit≤ tt)) in
            le_trans a_floor.least (le_of_eq (rw (← quarter_more) at v.count))
        go (inr l) (inl i) =
            let small : u + 2 ^ 147 ≤ units binary32 0x3f40_0000 =
            add-le-add (le_trans (le_of_eq u_is) (le_trans (le_of_lt (shl_lt 24 k u_digits.few)) (pow_mono {i = 24 + k} {j = 148} (omega arith)))) (le_refl (2 ^ 147)) in
            let none : N < 1 = lt_of_mul-lt-mul_right (2 ^ 149) (lt_of_le_of_lt (le_trans a_floor.least (not_over false (u + 2 ^ 147) 0x3f40_0000 (lit< tt) small)) (lit< tt)) in
            le_trans (mul-le-mul_right (2 ^ 149) (le_of_suc-le-suc none)) zero-le
        go (inr l) (inr i) =
            let v = 2 ^ (k - 125) in
            let whole : v * 2 ^ 149 ≡ 2 ^ 24 * 2 ^ k = sym (pow-add 2 (k - 125) 149) ∙ ap (λ (n : ℕ). 2 ^ n) (omega arith) ∙ pow-add 2 24 k in
            let reached : v * 2 ^ 149 ≤ u + 2 ^ 147 = le_trans (le_of_eq whole) (le_trans (mul-le-mul_right (2 ^ k) (le_of_lt l)) (le_of_eq (sym quarter_more))) in
            let next : Counted binary32 false ((4 * v + 1) * 2 ^ 147) _ = kept_word false (4 * v + 1) 147 (most_turns (eq-or-lt_of_le u_digits.low)) (lit≤ tt) in
            let under : u + 2 ^ 147 ≤ (4 * v + 1) * 2 ^ 147 =
            le_trans (add-le-add (le_trans (le_of_eq u_is) (le_trans (mul-le-mul_right (2 ^ k) (le_of_lt u_digits.few)) (le_of_eq (sym whole)))) (le_refl (2 ^ 147)))
            (le_of_eq (sym (turns_and_quarter v (2 ^ 147)))) in
            let few_turns : N < suc v = lt_of_mul-lt-mul_right (2 ^ 149) (lt_of_le_of_lt (le_trans a_floor.least (le_trans (not_over false (u + 2 ^ 147) _ next.finite (rw next.count under)) (le_of_eq next.count))) (below_next v (2 ^ 147) (pow_pos 147))) in
            le_trans (mul-le-mul_right (2 ^ 149) (le_of_suc-le-suc few_turns)) reached
          where
            most_turns : (k ≡ 147) ⊎ (k < 147) → 4 * 2 ^ (k - 125) + 1 ≤ 2 ^ 24
            most_turns (inl e) = absurd (let z : ⊥ = omega (arith, u_digits.few, ap (λ (n : ℕ). 2 ^ (147 - n)) e) in z)
            most_turns (inr j) = omega (arith, pow_mono {i = k - 125} {j = 21} (omega arith))

    centred_plus : AtMost binary32 0x3f00_0000 (centred ieee (of_bits binary32 w))
    centred_plus =
        rw (a_is, sub_signed binary32 (of_bits binary32 w) _ false false u ((4 * N + 1) * 2 ^ 147) (2 ^ 149) (pow_pos 149) (rw s at (word_value binary32 w u_finite)) (quarter_and a_floor n_most))
        (units_apart binary32 0x3f00_0000 false u ((4 * N + 1) * 2 ^ 147) (lit< tt) (up_to_half u N (2 ^ 147) upper) (down_to_half u N (2 ^ 147) lower))

  -- ---- below 0

  module _ (s : negative binary32 w ≡ true) where
    t_value : HasValue (of_bits binary32 w) true u (2 ^ 149)
    t_value = rw s at (word_value binary32 w u_finite)

    added : add binary32 (of_bits binary32 w) quarter ≡ sum binary32 true u false (2 ^ 147) (2 ^ 149)
    added = add_signed binary32 (of_bits binary32 w) quarter true false u (2 ^ 147) (2 ^ 149) (pow_pos 149) t_value quarter_value

    -- by no more than a quarter: no whole turn is taken off
    module _ (near : u ≤ 2 ^ 147) where
      abbrev a₁ : Float
      a₁ = round binary32 false (2 ^ 147 - u) (2 ^ 149)

      a₁_is : add binary32 (of_bits binary32 w) quarter ≡ a₁
      unfolding sum
      a₁_is = added ∙ go (eq-or-lt_of_le near)
        where
          go : (u ≡ 2 ^ 147) ⊎ (u < 2 ^ 147) → sum binary32 true u false (2 ^ 147) (2 ^ 149) ≡ a₁
          go (inl e) = rw (e)
          go (inr l) = rw (lt-ltb u (2 ^ 147) l)

      a₁_floor : Down (units binary32 (to_bits binary32 a₁)) (floor_word binary32 (to_bits binary32 a₁))
      a₁_floor = rounded_down (2 ^ 147 - u) 0x3e80_0000 (lit< tt) (lit≤ tt) (sub-le (2 ^ 147) u)

      none : a₁_floor.wholes < 1
      none = lt_of_mul-lt-mul_right (2 ^ 149) (lt_of_le_of_lt (le_trans a₁_floor.least (not_over false (2 ^ 147 - u) 0x3e80_0000 (lit< tt) (sub-le (2 ^ 147) u))) (lit< tt))

      centred_near : AtMost binary32 0x3f00_0000 (centred ieee (of_bits binary32 w))
      unfolding sum
      centred_near =
          rw (a₁_is, sub_signed binary32 (of_bits binary32 w) _ true false u ((4 * a₁_floor.wholes + 1) * 2 ^ 147) (2 ^ 149) (pow_pos 149) t_value (quarter_and a₁_floor (lt_of_lt_of_le none (lit≤ tt))))
          (round_at_most binary32 0x3f00_0000 true _ (2 ^ 149) (lit< tt) (pow_pos 149)
          (mul-le-mul_right (2 ^ 149) (add-le-add near (mul-le-mul_right (2 ^ 147) (let l : 4 * a₁_floor.wholes + 1 ≤ 1 = omega (arith, none) in l)))))

    -- further: the quarter added is exact
    module _ (far : 2 ^ 147 < u) where
      abbrev a₂ : Float
      a₂ = round binary32 true (u - 2 ^ 147) (2 ^ 149)

      a₂_is : add binary32 (of_bits binary32 w) quarter ≡ a₂
      unfolding sum
      a₂_is = added ∙ rw (le-ltb u (2 ^ 147) (le_of_lt far), lt-ltb (2 ^ 147) u far)

      abbrev A₂ : ℕ
      A₂ = to_bits binary32 a₂

      A₂_is : Counted binary32 true (u - 2 ^ 147) A₂
      A₂_is = rw (← quarter_less) at (kept_word true (m - 2 ^ (147 - k)) k (omega (arith, u_digits.few)) (le_trans u_digits.low (lit≤ tt)))

      a₂_some : 0 < units binary32 A₂
      a₂_some = rw A₂_is.count (sub-pos_iff_lt.1 far)

      a₂_floor : Up (units binary32 A₂) (floor_word binary32 A₂)
      a₂_floor =
          floor_up A₂ (floor_word binary32 A₂)
          (floor_is A₂ (le_trans (at_most_word binary32 0x4a7f_fffe a₂ (round-fits binary32 true _ _) a₂_most) (lit≤ tt)))
          A₂_is.sign a₂_some
        where
          a₂_most : AtMost binary32 0x4a7f_fffe a₂
          a₂_most = round_at_most binary32 0x4a7f_fffe true (u - 2 ^ 147) (2 ^ 149) (lit< tt) (pow_pos 149) (mul-le-mul_right (2 ^ 149) (le_trans (sub-le u (2 ^ 147)) u_most))

      abbrev N₂ : ℕ
      N₂ = a₂_floor.wholes

      n₂_some : 0 < N₂
      n₂_some = first_pos N₂ (2 ^ 149) (lt_of_lt_of_le a₂_some a₂_floor.least)

      n₂_most : N₂ ≤ 2 ^ 22
      n₂_most =
          le_of_suc-le-suc (lt_of_mul-lt-mul_right (2 ^ 149)
          (lt_of_lt_of_le a₂_floor.most (le_trans (add-le-add (le_trans (le_of_eq A₂_is.count) (le_trans (sub-le u (2 ^ 147)) u_most)) (le_refl (2 ^ 149))) (lit≤ {n = suc (2 ^ 22) * 2 ^ 149} tt))))

      centred_far : AtMost binary32 0x3f00_0000 (centred ieee (of_bits binary32 w))
      centred_far =
          rw (a₂_is, sub_signed binary32 (of_bits binary32 w) _ true true u ((4 * N₂ - 1) * 2 ^ 147) (2 ^ 149) (pow_pos 149) t_value (quarter_less_than a₂_floor n₂_some n₂_most))
          (units_apart binary32 0x3f00_0000 true u ((4 * N₂ - 1) * 2 ^ 147) (lit< tt)
          (far_up u N₂ (2 ^ 147) n₂_some (le_trans (le_of_eq (sym A₂_is.count)) a₂_floor.least))
          (far_down u N₂ (2 ^ 147) far (lt_of_lt_of_le a₂_floor.most (le_of_eq (ap (λ (n : ℕ). n + 2 ^ 149) A₂_is.count)))))

  centred_inside : AtMost binary32 0x3f00_0000 (centred ieee (of_bits binary32 w))
  centred_inside = go (negative binary32 w) refl (either u (2 ^ 147))
    where
      go : (s : Bool) → negative binary32 w ≡ s → (u ≤ 2 ^ 147) ⊎ (2 ^ 147 < u) → AtMost binary32 0x3f00_0000 (centred ieee (of_bits binary32 w))
      go false s i = centred_plus s
      go true s (inl near) = centred_near s near
      go true s (inr far) = centred_far s far

-- ---- the last two words of either sign: of those above 0 a quarter is lost beside 2 ^ 22

last : (s : Bool) (m : ℕ) → (m ≡ 0x4a7f_ffff) ⊎ (m ≡ 0x4a80_0000) → AtMost binary32 0x3f00_0000 (centred ieee (of_bits binary32 (sign_bit binary32 s + m)))
unfolding add sub lt of_int to_signed of_bits to_bits
last true m (inl e) = rw e (record { finite = tt; small = lit≤ tt })
last true m (inr e) = rw e (record { finite = tt; small = lit≤ tt })
last false m (inl e) = rw e (record { finite = tt; small = lit≤ tt })
last false m (inr e) = rw e (record { finite = tt; small = lit≤ tt })

-- ---- the law, up to 2 ^ 22

pub centred_within : {t : Float} → T (fits binary32 t) → AtMost binary32 0x4a80_0000 t → AtMost binary32 0x3f00_0000 (centred ieee t)
centred_within {t} f h =
    let w = to_bits binary32 t in
    subst (λ (x : Float). AtMost binary32 0x3f00_0000 (centred ieee x)) (of_bits-to_bits binary32 t f)
    (go w (to_bits-lt binary32 t f) (either (magnitude binary32 w) 0x4a7f_fffe) (at_most_word binary32 0x4a80_0000 t f h))
  where
    which : (m : ℕ) → 0x4a7f_fffe < m → m ≤ 0x4a80_0000 → (m ≡ 0x4a7f_ffff) ⊎ (m ≡ 0x4a80_0000)
    which m l k = elim (eq-or-lt_of_le k) [ inl e ↦ inr e | inr j ↦ inl (omega arith) ]

    go : (w : ℕ) → w < 2 * 2 ^ 31 → (magnitude binary32 w ≤ 0x4a7f_fffe) ⊎ (0x4a7f_fffe < magnitude binary32 w) → magnitude binary32 w ≤ 0x4a80_0000
        → AtMost binary32 0x3f00_0000 (centred ieee (of_bits binary32 w))
    go w l (inl i) k = centred_inside w i
    go w l (inr i) k =
        subst (λ (x : ℕ). AtMost binary32 0x3f00_0000 (centred ieee (of_bits binary32 x))) (sign_and_magnitude binary32 w l)
        (last (negative binary32 w) (magnitude binary32 w) (which (magnitude binary32 w) i k))
