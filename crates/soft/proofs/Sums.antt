-- The digits that the code adds or takes away, against the exact sum and difference of two words. Assumes nothing.
use Prim.Native.Nat.{ℕ, suc, ◌+◌, ◌-◌, ◌*◌, ◌%◌, ◌^◌, ◌≤◌, ◌<◌, zero-le}
use native.Mathlib.Nat.{eq-or-lt_of_le, one-mul, pow-succ', mul-lt-mul_of_pos_left, le_trans, le_of_eq, lt_of_lt_of_le, mul_assoc, mul-one, mul-le-mul_right, le_of_mul-le-mul_right, mod-eq_of_lt, add-mul, sub-zero}
use native.Mathlib.Omega.{arith}
use mathlib.Core.Path.{◌≡◌, sym, ap, subst, ◌∙◌}
use mathlib.Core.Bool.{Bool, true, false, cond}
use lib.Dec.{lit<, lit≤}
use lib.Pow.{pow_pos, pow-add, pow_mono, shl_lt}
use lib.Ieee.{binary32, hid}
use lib.Ieee.Nearest.{div_mono}
use Rattle.format.specs.Fields.{magnitude, exponent}
use Rattle.format.specs.Value.{units}
use Rattle.format.proofs.Fields.{hid_pos}
use Rattle.soft.specs.Digits.{nearest_word, scaled_word, digits_of, places_of}
use Rattle.soft.proofs.Digits.{units_digits, small_digits, digits_ge}
use lib.Ieee.Nearest.{closest}
use lib.Ieee.Order.{drop, kept}
use Rattle.format.specs.Fields.{inf_word}
use Rattle.format.proofs.Order.{either, sub_mul}
use Rattle.format.proofs.Larger.{units_mono}
use mathlib.Core.Logic.{inl, inr}
use Rattle.soft.proofs.Nearest.{Near, closest_near, near_one}
use Rattle.soft.proofs.Scaled.{round_equal, round_inside, round_outside, size_is}

-- the larger word is moved up no less
places_mono : (a b : ℕ) → magnitude binary32 b ≤ magnitude binary32 a → places_of binary32 b ≤ places_of binary32 a
unfolding places_of
places_mono a b l = less (exponent binary32 b) (exponent binary32 a) (div_mono (magnitude binary32 b) (hid binary32) (magnitude binary32 a) (hid binary32) (hid_pos binary32) (hid_pos binary32) (mul-le-mul_right (hid binary32) l))
  where
    less : (x y : ℕ) → x ≤ y → x - 1 ≤ y - 1
    less x y h = omega arith

-- less than half a part away, it is nearest
near_up : (c u t : ℕ) → 2 * t < u → Near (c * u + t) u c
near_up c u t h = record { above = omega arith; below = omega arith; tie = λ e. absurd (let z : ⊥ = omega (arith, e) in z) }

near_down : (c u t : ℕ) → 2 * t < u → t ≤ c * u → Near (c * u - t) u c
near_down c u t h l = record { above = omega arith; below = omega arith; tie = λ e. absurd (let z : ⊥ = omega (arith, e) in z) }

module _ (a b x y p q : ℕ) (hx : x ≡ digits_of binary32 a) (hy : y ≡ digits_of binary32 b) (hp : p ≡ places_of binary32 a) (hq : q ≡ places_of binary32 b) (le : magnitude binary32 b ≤ magnitude binary32 a) where
  abbrev A : ℕ
  A = units binary32 a

  abbrev B : ℕ
  B = units binary32 b

  a_is : A ≡ x * 2 ^ p
  a_is = units_digits binary32 a ∙ ap (λ (z : ℕ). z * 2 ^ places_of binary32 a) (sym hx) ∙ ap (λ (z : ℕ). x * 2 ^ z) (sym hp)

  b_is : B ≡ y * 2 ^ q
  b_is = units_digits binary32 b ∙ ap (λ (z : ℕ). z * 2 ^ places_of binary32 b) (sym hy) ∙ ap (λ (z : ℕ). y * 2 ^ z) (sym hq)

  pub gap_le : q ≤ p
  gap_le = subst (λ (z : ℕ). q ≤ z) (sym hp) (subst (λ (z : ℕ). z ≤ places_of binary32 a) (sym hq) (places_mono a b le))

  order : B ≤ A
  order = units_mono binary32 b a le

  -- ---- close together: both at the lower places

  module _ (near : p - q ≤ 38) where
    up_lt : x * 2 ^ (p - q) < 2 ^ 62
    up_lt = lt_of_lt_of_le (shl_lt 24 (p - q) (small_digits a x hx)) (pow_mono (let z : 24 + (p - q) ≤ 62 = omega (arith, near) in z))

    pub up_exact : x * 2 ^ (p - q) % 2 ^ 64 ≡ x * 2 ^ (p - q)
    up_exact = mod-eq_of_lt (lt_of_lt_of_le up_lt (lit≤ tt))

    pub up_small : x * 2 ^ (p - q) % 2 ^ 64 < 2 ^ 62
    up_small = rw up_exact up_lt

    a_low : A ≡ x * 2 ^ (p - q) * 2 ^ q
    a_low =
        a_is
        ∙ ap (λ (z : ℕ). x * 2 ^ z) (let e : p ≡ p - q + q = omega (arith, gap_le) in e)
        ∙ ap (λ (z : ℕ). x * z) (pow-add 2 (p - q) q)
        ∙ sym (mul_assoc x (2 ^ (p - q)) (2 ^ q))

    pub less_le : y ≤ x * 2 ^ (p - q) % 2 ^ 64
    less_le = rw up_exact (le_of_mul-le-mul_right {k = 2 ^ q} (le_trans (le_of_eq (sym b_is)) (le_trans order (le_of_eq a_low))) (pow_pos q))

    at_low : (s : Bool) (m n : ℕ) → m * 2 ^ q ≡ n → scaled_word binary32 s m (q + 300) ≡ nearest_word binary32 s n 1
    unfolding scaled_word
    at_low s m n e =
        round_equal binary32 s (m * 2 ^ (q + 300)) (2 ^ 300) n 1 (pow_pos 300) (lit< tt)
        (mul-one (m * 2 ^ (q + 300)) ∙ ap (λ (z : ℕ). m * z) (pow-add 2 q 300) ∙ sym (mul_assoc m (2 ^ q) (2 ^ 300)) ∙ ap (λ (z : ℕ). z * 2 ^ 300) e)

    pub near_sum : (s : Bool) → scaled_word binary32 s (x * 2 ^ (p - q) % 2 ^ 64 + y) (q + 300) ≡ nearest_word binary32 s (A + B) 1
    near_sum s = at_low s (x * 2 ^ (p - q) % 2 ^ 64 + y) (A + B) (ap (λ (z : ℕ). (z + y) * 2 ^ q) up_exact ∙ add-mul (x * 2 ^ (p - q)) y (2 ^ q) ∙ sym (ap (λ (z : ℕ). z + B) a_low ∙ ap (λ (z : ℕ). x * 2 ^ (p - q) * 2 ^ q + z) b_is))

    pub near_part : (s : Bool) → scaled_word binary32 s (x * 2 ^ (p - q) % 2 ^ 64 - y) (q + 300) ≡ nearest_word binary32 s (A - B) 1
    near_part s = at_low s (x * 2 ^ (p - q) % 2 ^ 64 - y) (A - B) (ap (λ (z : ℕ). (z - y) * 2 ^ q) up_exact ∙ sub_mul (x * 2 ^ (p - q)) y (2 ^ q) ∙ sym (ap (λ (z : ℕ). z - B) a_low ∙ ap (λ (z : ℕ). x * 2 ^ (p - q) * 2 ^ q - z) b_is))

  -- ---- far apart: the smaller is below a quarter of the larger one's last place, and changes nothing

  pub alone : (s : Bool) → scaled_word binary32 s x (p + 300) ≡ nearest_word binary32 s A 1
  unfolding scaled_word
  alone s =
      round_equal binary32 s (x * 2 ^ (p + 300)) (2 ^ 300) A 1 (pow_pos 300) (lit< tt)
      (mul-one (x * 2 ^ (p + 300)) ∙ ap (λ (z : ℕ). x * z) (pow-add 2 p 300) ∙ sym (mul_assoc x (2 ^ p) (2 ^ 300)) ∙ ap (λ (z : ℕ). z * 2 ^ 300) (sym a_is))

  module _ (far : 38 < p - q) where
    lead : 2 ^ 23 ≤ x
    lead = subst (λ (z : ℕ). 2 ^ 23 ≤ z) (sym hx) (digits_ge binary32 a (subst (λ (z : ℕ). 0 < z) hp (let z : 0 < p = omega (arith, far) in z)))

    p_is : 2 ^ p ≡ 2 * 2 ^ (p - 1)
    p_is = ap (λ (z : ℕ). 2 ^ z) (let e : p ≡ suc (p - 1) = omega (arith, far) in e) ∙ pow-succ' 2 (p - 1)

    tiny : 4 * B < 2 ^ p
    tiny =
        let l : B < 2 ^ (24 + q) = subst (λ (z : ℕ). z < 2 ^ (24 + q)) (sym b_is) (shl_lt 24 q (small_digits b y hy)) in
        lt_of_lt_of_le (mul-lt-mul_of_pos_left l (lit< tt)) (le_trans (le_of_eq (sym (pow-add 2 2 (24 + q)))) (pow_mono (let z : 2 + (24 + q) ≤ p = omega (arith, far) in z)))

    -- the word of a count by how many digits it has and what is nearest to it
    word_of : (n z k c : ℕ) → n < 2 ^ z → 2 ^ (z - 1) ≤ n → z - 24 ≡ k → Near n (2 ^ k) c → drop 24 n 1 * hid binary32 + kept 24 n 1 ≡ k * hid binary32 + c
    word_of n z k c hi lo e near =
        let d : drop 24 n 1 ≡ k = ap (λ (z : ℕ). z - 24) (size_is n 1 z (lit< tt) (rw (mul-one (2 ^ z)) hi) (λ (Z : 0 < z). rw (mul-one (2 ^ (z - 1))) lo)) ∙ e in
        ap (λ (k : ℕ). k * hid binary32 + kept 24 n 1) d
        ∙ ap (λ (u : ℕ). k * hid binary32 + closest n u) (one-mul (2 ^ drop 24 n 1) ∙ ap (λ (z : ℕ). 2 ^ z) d)
        ∙ ap (λ (q : ℕ). k * hid binary32 + q) (near_one n (2 ^ k) (closest n (2 ^ k)) c (pow_pos k) (closest_near n (2 ^ k) (pow_pos k)) near)

    -- two counts with one word
    one_word : (s : Bool) (n m w : ℕ) → drop 24 n 1 * hid binary32 + kept 24 n 1 ≡ w → drop 24 m 1 * hid binary32 + kept 24 m 1 ≡ w → nearest_word binary32 s n 1 ≡ nearest_word binary32 s m 1
    one_word s n m w e i = elim (either (inf_word binary32) w) [
      | inl l ↦ round_outside binary32 s n 1 (lit< tt) w e l ∙ sym (round_outside binary32 s m 1 (lit< tt) w i l)
      | inr l ↦ round_inside binary32 s n 1 (lit< tt) w e l ∙ sym (round_inside binary32 s m 1 (lit< tt) w i l)
    ]

    next : 2 ^ (24 + p) ≡ 2 ^ 24 * 2 ^ p
    next = pow-add 2 24 p

    least : 2 ^ (23 + p) ≡ 2 ^ 23 * 2 ^ p
    least = pow-add 2 23 p

    same_digits : (n : ℕ) → n < (x + 1) * 2 ^ p → 2 ^ 23 * 2 ^ p ≤ n → Near n (2 ^ p) x → drop 24 n 1 * hid binary32 + kept 24 n 1 ≡ p * hid binary32 + x
    same_digits n hi lo near =
        word_of n (24 + p) p x (lt_of_lt_of_le hi (le_trans (mul-le-mul_right (2 ^ p) (let z : x + 1 ≤ 2 ^ 24 = omega (arith, small_digits a x hx) in z)) (le_of_eq (sym next))))
        (le_trans (le_of_eq (ap (λ (z : ℕ). 2 ^ z) (let e : 24 + p - 1 ≡ 23 + p = omega arith in e) ∙ least)) lo)
        (let e : 24 + p - 24 ≡ p = omega arith in e) near

    own : drop 24 A 1 * hid binary32 + kept 24 A 1 ≡ p * hid binary32 + x
    own =
        let P = pow_pos p in
        same_digits A (rw a_is (omega (arith, P))) (rw a_is (mul-le-mul_right (2 ^ p) lead)) (rw a_is (record { above = omega arith; below = omega arith; tie = λ e. absurd (let z : ⊥ = omega (arith, P, e) in z) }))

    pub far_sum : (s : Bool) → nearest_word binary32 s A 1 ≡ nearest_word binary32 s (A + B) 1
    far_sum s = one_word s A (A + B) (p * hid binary32 + x) own (same_digits (A + B) (rw a_is (omega (arith, tiny))) (le_trans (mul-le-mul_right (2 ^ p) lead) (rw a_is (omega arith))) (rw a_is (near_up x (2 ^ p) B (omega (arith, tiny)))))

    lower : A - B < (x + 1) * 2 ^ p
    lower = rw a_is (omega (arith, pow_pos p))

    pub far_part : (s : Bool) → nearest_word binary32 s A 1 ≡ nearest_word binary32 s (A - B) 1
    far_part s = elim (eq-or-lt_of_le lead) [ inl e ↦ elim (eq-or-lt_of_le (zero-le {n = B})) [ inl z ↦ ap (λ (n : ℕ). nearest_word binary32 s n 1) (sym (ap (λ (z : ℕ). A - z) (sym z) ∙ sub-zero A)) | inr o ↦ at_least (sym e) o ] | inr l ↦ above l ]
      where
        above : 2 ^ 23 < x → nearest_word binary32 s A 1 ≡ nearest_word binary32 s (A - B) 1
        above l =
            let m : (2 ^ 23 + 1) * 2 ^ p ≤ x * 2 ^ p = mul-le-mul_right (2 ^ p) (omega (arith, l)) in
            one_word s A (A - B) (p * hid binary32 + x) own (same_digits (A - B) lower (rw a_is (omega (arith, m, tiny))) (rw a_is (near_down x (2 ^ p) B (omega (arith, tiny)) (omega (arith, m, tiny)))))

        -- at a power of two the places below are half as wide
        at_least : x ≡ 2 ^ 23 → 0 < B → nearest_word binary32 s A 1 ≡ nearest_word binary32 s (A - B) 1
        at_least e o =
            let h : A ≡ 2 * x * 2 ^ (p - 1) = a_is ∙ ap (λ (z : ℕ). x * z) p_is ∙ (let z : x * (2 * 2 ^ (p - 1)) ≡ 2 * x * 2 ^ (p - 1) = omega arith in z) in
            let t : 2 * B < 2 ^ (p - 1) = omega (arith, tiny, p_is) in
            let full : A ≡ 2 ^ (23 + p) = a_is ∙ ap (λ (z : ℕ). z * 2 ^ p) e ∙ sym least in
            let half : 2 ^ (23 + p) ≡ 2 * 2 ^ (23 + p - 1) = ap (λ (z : ℕ). 2 ^ z) (let z : 23 + p ≡ suc (23 + p - 1) = omega arith in z) ∙ pow-succ' 2 (23 + p - 1) in
            let small : B ≤ 2 ^ (23 + p - 1) = le_trans (omega (arith, tiny)) (pow_mono (let z : p ≤ 23 + p - 1 = omega arith in z)) in
            let word : (p - 1) * hid binary32 + 2 * x ≡ p * hid binary32 + x = omega (arith, e, far) in
            one_word s A (A - B) (p * hid binary32 + x) own
            (word_of (A - B) (23 + p) (p - 1) (2 * x) (rw full (omega (arith, o, pow_pos (23 + p)))) (rw full (omega (arith, half, small))) (let z : 23 + p - 24 ≡ p - 1 = omega arith in z)
            (rw h (near_down (2 * x) (2 ^ (p - 1)) B t (omega (arith, h, full, half, small))))
            ∙ word)

    pub far_all : (less : Bool) (s : Bool) → nearest_word binary32 s A 1 ≡ nearest_word binary32 s (cond less (A - B) (A + B)) 1
    far_all true s = far_part s
    far_all false s = far_sum s
