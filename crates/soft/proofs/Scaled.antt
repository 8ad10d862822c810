-- The rounded word of n / d units by what is dropped and kept of n / d, and what stands in for n / d: an equal fraction, or an odd number that
-- n / d lies beside. Assumes nothing.
use Prim.Native.Nat.{ℕ, zero, suc, ◌+◌, ◌-◌, ◌*◌, ◌/◌, ◌^◌, ◌≤◌, ◌<◌}
use native.Mathlib.Nat.{one-mul, pow-succ', le_trans, le_of_eq, le_of_lt, lt_of_lt_of_le, lt_of_le_of_lt, lt_of_not-le, not-le_of_lt, mul_comm, mul_assoc, mul_right_comm, mul-pos, mul-lt-mul_of_pos_right, mul-le-mul_right, div-lt_iff_lt-mul, le-div_iff_mul-le, lt_of_mul-lt-mul_right, le_of_mul-le-mul_right, le_antisymm}
use native.Mathlib.Omega.{arith}
use mathlib.Core.Path.{◌≡◌, sym, ap, subst, ◌∙◌}
use mathlib.Core.Logic.{◌⊎◌, inl, inr}
use mathlib.Core.Bool.{Bool}
use lib.Pow.{pow_pos, pow-add, pow_mono}
use lib.Ieee.{Format, prec, low, hid, size, units, to_bits}
use lib.Ieee.Digits.{size-lt, size-le, size_reaches}
use lib.Ieee.Fits.{round_is}
use lib.Ieee.Nearest.{closest, closest_same, div_same}
use lib.Ieee.Order.{drop, kept}
use lib.Ieee.Scale.{round_same}
use Rattle.format.specs.Fields.{sign_bit, inf_word}
use Rattle.format.proofs.Order.{either}
use Rattle.soft.specs.Digits.{nearest_word}
use Rattle.soft.specs.Rounding.{apart}
use Rattle.soft.proofs.Nearest.{Near, closest_near, near_one}
use Rattle.soft.proofs.Past.{word_inside, word_outside}

-- ---- by n / d alone

module _ (p n d t : ℕ) (D : 0 < d) (P : 0 < t) where
  cross : n * t * d ≡ n * (d * t)
  cross = omega arith

  drop_scaled : drop p (n * t) (d * t) ≡ drop p n d
  drop_scaled = ap (λ (z : ℕ). size z - p) (div_same (n * t) (d * t) n d (mul-pos D P) D cross)

  kept_scaled : kept p (n * t) (d * t) ≡ kept p n d
  kept_scaled =
      let k = drop p n d in
      ap (λ (z : ℕ). closest (n * t) (d * t * 2 ^ z)) drop_scaled
      ∙ closest_same (n * t) (d * t * 2 ^ k) n (d * 2 ^ k) (mul-pos (mul-pos D P) (pow_pos k)) (mul-pos D (pow_pos k)) (let z : n * t * (d * 2 ^ k) ≡ n * (d * t * 2 ^ k) = omega arith in z)

module _ (f : Format) (s : Bool) (n d : ℕ) (D : 0 < d) where
  same : drop (prec f) (n * 2 ^ low f) (d * 2 ^ low f) * hid f + kept (prec f) (n * 2 ^ low f) (d * 2 ^ low f) ≡ drop (prec f) n d * hid f + kept (prec f) n d
  same =
      ap (λ (x : ℕ). drop (prec f) (n * 2 ^ low f) (d * 2 ^ low f) * hid f + x) (kept_scaled (prec f) n d (2 ^ low f) D (pow_pos (low f)))
      ∙ ap (λ (x : ℕ). x * hid f + kept (prec f) n d) (drop_scaled (prec f) n d (2 ^ low f) D (pow_pos (low f)))

  pub round_word_is : nearest_word f s n d ≡ to_bits f (units f s (kept (prec f) n d) (drop (prec f) n d))
  unfolding nearest_word
  round_word_is =
      ap (to_bits f) (round_is f s n (d * 2 ^ low f))
      ∙ ap (λ (x : ℕ). to_bits f (units f s x (drop (prec f) (n * 2 ^ low f) (d * 2 ^ low f)))) (kept_scaled (prec f) n d (2 ^ low f) D (pow_pos (low f)))
      ∙ ap (λ (x : ℕ). to_bits f (units f s (kept (prec f) n d) x)) (drop_scaled (prec f) n d (2 ^ low f) D (pow_pos (low f)))

  pub round_inside : (x : ℕ) → drop (prec f) n d * hid f + kept (prec f) n d ≡ x → x < inf_word f → nearest_word f s n d ≡ sign_bit f s + x
  unfolding nearest_word
  round_inside x e l = word_inside f s n (d * 2 ^ low f) (mul-pos D (pow_pos (low f))) x (same ∙ e) l

  pub round_outside : (x : ℕ) → drop (prec f) n d * hid f + kept (prec f) n d ≡ x → inf_word f ≤ x → nearest_word f s n d ≡ sign_bit f s + inf_word f
  unfolding nearest_word
  round_outside x e l = word_outside f s n (d * 2 ^ low f) (mul-pos D (pow_pos (low f))) x (same ∙ e) l

-- ---- a number of 63 digits at a power of two over another

size_gt : (n j : ℕ) → 2 ^ j ≤ n → j < size n
size_gt n j h = lt_of_not-le (λ (g : size n ≤ j). not-le_of_lt (lt_of_lt_of_le (size-lt n) (pow_mono g)) h)

-- how many digits the whole part has, by which powers of two the fraction reaches
pub size_is : (n d z : ℕ) → 0 < d → n < 2 ^ z * d → (0 < z → 2 ^ (z - 1) * d ≤ n) → size (n / d) ≡ z
size_is n d z D u l = le_antisymm (size-le (n / d) z ((div-lt_iff_lt-mul D).1 u)) (go z l)
  where
    go : (z : ℕ) → (0 < z → 2 ^ (z - 1) * d ≤ n) → z ≤ size (n / d)
    go zero l = omega arith
    go (suc z) l = let e : suc z - 1 ≡ z = omega arith in size_gt (n / d) z ((le-div_iff_mul-le D).1 (subst (λ (j : ℕ). 2 ^ j * d ≤ n) e (l (omega arith))))

module _ (p m b at o : ℕ) (H : m < 2 ^ b) (L : 2 ^ (b - 1) ≤ m) (B : 0 < b) where
  sized : size (m * 2 ^ at / 2 ^ o) ≡ b + at - o
  sized = size_is (m * 2 ^ at) (2 ^ o) (b + at - o) (pow_pos o) upper lower
    where
      upper : m * 2 ^ at < 2 ^ (b + at - o) * 2 ^ o
      upper = lt_of_lt_of_le (mul-lt-mul_of_pos_right H (pow_pos at)) (le_trans (le_of_eq (sym (pow-add 2 b at))) (le_trans (pow_mono (room b at o)) (le_of_eq (pow-add 2 (b + at - o) o))))
        where
          room : (b at o : ℕ) → b + at ≤ b + at - o + o
          room b at o = omega arith

      lower : 0 < b + at - o → 2 ^ (b + at - o - 1) * 2 ^ o ≤ m * 2 ^ at
      lower z = le_trans (le_of_eq (sym (pow-add 2 (b + at - o - 1) o) ∙ ap (λ (j : ℕ). 2 ^ j) (split b at o B z) ∙ pow-add 2 (b - 1) at)) (mul-le-mul_right (2 ^ at) L)
        where
          split : (b at o : ℕ) → 0 < b → 0 < b + at - o → b + at - o - 1 + o ≡ b - 1 + at
          split b at o B z = omega arith

  pub scaled_drop : (k : ℕ) → b + at - o - p ≡ k → drop p (m * 2 ^ at) (2 ^ o) ≡ k
  scaled_drop k e = ap (λ (z : ℕ). z - p) sized ∙ e

  pub scaled_kept : (k j : ℕ) → b + at - o - p ≡ k → j + at ≡ k + o → kept p (m * 2 ^ at) (2 ^ o) ≡ closest m (2 ^ j)
  scaled_kept k j e i =
      ap (λ (z : ℕ). closest (m * 2 ^ at) (2 ^ o * 2 ^ z)) (scaled_drop k e)
      ∙ closest_same (m * 2 ^ at) (2 ^ o * 2 ^ k) m (2 ^ j) (mul-pos (pow_pos o) (pow_pos k)) (pow_pos j)
      (mul_assoc m (2 ^ at) (2 ^ j) ∙ ap (λ (z : ℕ). m * z) (mul_comm (2 ^ at) (2 ^ j) ∙ sym (pow-add 2 j at) ∙ ap (λ (z : ℕ). 2 ^ z) i ∙ pow-add 2 k o ∙ mul_comm (2 ^ k) (2 ^ o)))

-- ---- in place of n / d

-- an equal fraction
pub round_equal : (f : Format) (s : Bool) (n d a c : ℕ) → 0 < d → 0 < c → n * c ≡ a * d → nearest_word f s n d ≡ nearest_word f s a c
unfolding nearest_word
round_equal f s n d a c D C e =
    ap (to_bits f) (round_same f s n (d * 2 ^ low f) a (c * 2 ^ low f) (mul-pos D (pow_pos (low f))) (mul-pos C (pow_pos (low f)))
    (sym (mul_assoc n c (2 ^ low f)) ∙ ap (λ (z : ℕ). z * 2 ^ low f) e ∙ mul_assoc a d (2 ^ low f)))

power_at : (at x : ℕ) → at < x → 2 ^ x ≡ 2 * 2 ^ (x - suc at) * 2 ^ at
power_at at x l =
    ap (λ (z : ℕ). 2 ^ z) (let e : x ≡ suc (x - suc at) + at = omega arith in e)
    ∙ pow-add 2 (suc (x - suc at)) at
    ∙ ap (λ (z : ℕ). z * 2 ^ at) (pow-succ' 2 (x - suc at))

-- no power of two lies beside an odd number of 2 ^ at, within one of it
over_odd : (j at x : ℕ) → (2 * j + 1) * 2 ^ at < 2 ^ x → (2 * j + 2) * 2 ^ at ≤ 2 ^ x
over_odd j at x h = go (either x at)
  where
    at_even : (i : ℕ) → (2 * j + 1) * 2 ^ at < 2 * 2 ^ i * 2 ^ at → (2 * j + 2) * 2 ^ at ≤ 2 * 2 ^ i * 2 ^ at
    at_even i h = mul-le-mul_right (2 ^ at) (let l : 2 * j + 1 < 2 * 2 ^ i = lt_of_mul-lt-mul_right (2 ^ at) h in omega arith)

    go : (x ≤ at) ⊎ (at < x) → (2 * j + 2) * 2 ^ at ≤ 2 ^ x
    go (inl l) = absurd (let z : ⊥ = omega (arith, pow_mono l, h) in z)
    go (inr l) = let e = power_at at x l in rw e (at_even (x - suc at) (subst (λ (z : ℕ). (2 * j + 1) * 2 ^ at < z) e h))

under_odd : (j at x : ℕ) → 0 < j → 2 ^ x ≤ (2 * j + 1) * 2 ^ at → 2 ^ x ≤ 2 * j * 2 ^ at
under_odd j at x J h = go (either x at)
  where
    at_even : (i : ℕ) → 2 * 2 ^ i * 2 ^ at ≤ (2 * j + 1) * 2 ^ at → 2 * 2 ^ i * 2 ^ at ≤ 2 * j * 2 ^ at
    at_even i h = mul-le-mul_right (2 ^ at) (let l : 2 * 2 ^ i ≤ 2 * j + 1 = le_of_mul-le-mul_right h (pow_pos at) in omega arith)

    go : (x ≤ at) ⊎ (at < x) → 2 ^ x ≤ 2 * j * 2 ^ at
    go (inl l) = le_trans (pow_mono l) (le_trans (le_of_eq (sym (one-mul (2 ^ at)))) (mul-le-mul_right (2 ^ at) (omega arith)))
    go (inr l) = let e = power_at at x l in rw e (at_even (x - suc at) (subst (λ (z : ℕ). z ≤ (2 * j + 1) * 2 ^ at) e h))

-- the whole numbers behind it: parts of four H's, an odd number 2 j + 1, and n (in parts of x) beside it
beside : (n d k o c j H g : ℕ) → 0 < g → 0 < d → k * o ≡ 4 * H * g → 2 * j * (d * g) < n * o → n * o < (2 * j + 2) * (d * g) → Near n (d * k) c → Near ((2 * j + 1) * g) (o * k) c
beside n d k o c j H g G D e lo hi near =
    let x = d * g in
    let a : 2 * (c * (d * k)) ≤ d * k + 2 * n = omega (arith, near.above) in
    let b : 2 * n ≤ 2 * (c * (d * k)) + d * k = omega (arith, near.below) in
    let a' : 2 * (c * (d * k)) * o ≤ (d * k + 2 * n) * o = mul-le-mul_right o a in
    let b' : 2 * n * o ≤ (2 * (c * (d * k)) + d * k) * o = mul-le-mul_right o b in
    let e1 : c * (d * k) * o ≡ 4 * (c * H * (d * g)) = regroup e in
    let e2 : d * k * o ≡ 4 * (H * (d * g)) = regroup2 e in
    let up : 2 * (c * H) * (d * g) < (j + 1 + H) * (d * g) = omega (arith, a', e1, e2, hi) in
    let dn : j * (d * g) < (2 * (c * H) + H) * (d * g) = omega (arith, b', e1, e2, lo) in
    finish (mul-pos D G) up dn
  where
    regroup : k * o ≡ 4 * H * g → c * (d * k) * o ≡ 4 * (c * H * (d * g))
    regroup e = (let z : c * (d * k) * o ≡ c * d * (k * o) = omega arith in z) ∙ rw e (omega arith)

    regroup2 : k * o ≡ 4 * H * g → d * k * o ≡ 4 * (H * (d * g))
    regroup2 e = mul_assoc d k o ∙ rw e (omega arith)

    finish : 0 < d * g → 2 * (c * H) * (d * g) < (j + 1 + H) * (d * g) → j * (d * g) < (2 * (c * H) + H) * (d * g) → Near ((2 * j + 1) * g) (o * k) c
    finish X up dn =
        let u : 2 * (c * H) < j + 1 + H = lt_of_mul-lt-mul_right (d * g) up in
        let v : j < 2 * (c * H) + H = lt_of_mul-lt-mul_right (d * g) dn in
        let u' : 2 * (c * H) * g ≤ (j + H) * g = mul-le-mul_right g (omega (arith, u)) in
        let v' : (j + 1) * g ≤ (2 * (c * H) + H) * g = mul-le-mul_right g (omega (arith, v)) in
        let b : o * k ≡ 4 * (H * g) = mul_comm o k ∙ e ∙ mul_assoc 4 H g in
        let cb : c * (o * k) ≡ 4 * (c * H * g) = rw b (omega arith) in
        record { above = rw (b) (omega (arith, u', G)); below = rw (b) (omega (arith, v', G)); tie = λ t. absurd (strict u' v' b cb t) }
      where
        strict : 2 * (c * H) * g ≤ (j + H) * g → (j + 1) * g ≤ (2 * (c * H) + H) * g → o * k ≡ 4 * (H * g) → c * (o * k) ≡ 4 * (c * H * g) → 2 * apart (c * (o * k)) ((2 * j + 1) * g) ≡ o * k → ⊥
        strict u v b cb t = numbers (c * H * g) (H * g) (j * g) g G (omega (arith, u)) (omega (arith, v)) (omega (arith, t, b, cb))
          where
            numbers : (x y z g : ℕ) → 0 < g → 2 * x ≤ z + y → z + g ≤ 2 * x + y → 2 * apart (4 * x) (2 * z + g) ≡ 4 * y → ⊥
            numbers x y z g G u v t = omega arith

-- An odd number 2 j + 1 of more than prec + 1 digits, at 2 ^ at over 2 ^ o, rounds as what lies beside it does, above 2 j and below 2 j + 2.
pub round_beside : (f : Format) (s : Bool) (n d j at o : ℕ) → 0 < d → 2 ^ suc (prec f) ≤ 2 * j → 2 * j * 2 ^ at * d < n * 2 ^ o → n * 2 ^ o < (2 * j + 2) * 2 ^ at * d
    → nearest_word f s ((2 * j + 1) * 2 ^ at) (2 ^ o) ≡ nearest_word f s n d
round_beside f s n d j at o D long lo hi =
    round_word_is f s (m * 2 ^ at) (2 ^ o) (pow_pos o)
    ∙ ap (λ (x : ℕ). to_bits f (units f s x (drop p (m * 2 ^ at) (2 ^ o)))) kept_alike
    ∙ ap (λ (x : ℕ). to_bits f (units f s (kept p n d) x)) drop_alike
    ∙ sym (round_word_is f s n d D)
  where
    p : ℕ
    p = prec f

    m : ℕ
    m = 2 * j + 1

    z : ℕ
    z = size (m * 2 ^ at / 2 ^ o)

    J : 0 < j
    J = omega (arith, pow_pos (suc (prec f)))

    upper : m * 2 ^ at < 2 ^ (z + o)
    upper = subst (λ (x : ℕ). m * 2 ^ at < x) (sym (pow-add 2 z o)) ((div-lt_iff_lt-mul (pow_pos o)).0 (size-lt (m * 2 ^ at / 2 ^ o)))

    sizes : size (n / d) ≡ z
    sizes = size_is n d z D below above
      where
        below : n < 2 ^ z * d
        below =
            let a : (2 * j + 2) * 2 ^ at * d ≤ 2 ^ (z + o) * d = mul-le-mul_right d (over_odd j at (z + o) upper) in
            lt_of_mul-lt-mul_right (2 ^ o) (lt_of_lt_of_le hi (le_trans a (le_of_eq (ap (λ (x : ℕ). x * d) (pow-add 2 z o) ∙ mul_right_comm (2 ^ z) (2 ^ o) d))))

        above : 0 < z → 2 ^ (z - 1) * d ≤ n
        above Z =
            let r : 2 ^ (z - 1) * 2 ^ o ≤ m * 2 ^ at = (le-div_iff_mul-le (pow_pos o)).0 (size_reaches (m * 2 ^ at / 2 ^ o) (z - 1) (omega (arith, Z))) in
            let a : 2 ^ (z - 1 + o) * d ≤ 2 * j * 2 ^ at * d = mul-le-mul_right d (under_odd j at (z - 1 + o) J (le_trans (le_of_eq (pow-add 2 (z - 1) o)) r)) in
            le_of_mul-le-mul_right (le_trans (le_of_eq (mul_right_comm (2 ^ (z - 1)) d (2 ^ o) ∙ ap (λ (x : ℕ). x * d) (sym (pow-add 2 (z - 1) o)))) (le_trans a (le_of_lt lo))) (pow_pos o)

    drop_alike : drop p (m * 2 ^ at) (2 ^ o) ≡ drop p n d
    drop_alike = ap (λ (x : ℕ). x - p) (sym sizes)

    k : ℕ
    k = drop p n d

    -- at + 2 ≤ k + o
    room : at + 2 ≤ k + o
    room =
        let a : 2 ^ (suc p + at) ≤ m * 2 ^ at = le_trans (le_of_eq (pow-add 2 (suc p) at)) (mul-le-mul_right (2 ^ at) (omega (arith, long))) in
        let b : suc p + at < z + o = lt_of_not-le (λ (g : z + o ≤ suc p + at). not-le_of_lt (lt_of_le_of_lt a upper) (pow_mono g)) in
        far z p at o (size (n / d)) sizes b
      where
        far : (z p at o y : ℕ) → y ≡ z → suc p + at < z + o → at + 2 ≤ y - p + o
        far z p at o y e b = omega arith

    parts : 2 ^ k * 2 ^ o ≡ 4 * 2 ^ (k + o - (at + 2)) * 2 ^ at
    parts =
        sym (pow-add 2 k o)
        ∙ ap (λ (x : ℕ). 2 ^ x) (let e : k + o ≡ 2 + (k + o - (at + 2)) + at = omega (arith, room) in e)
        ∙ pow-add 2 (2 + (k + o - (at + 2))) at
        ∙ ap (λ (x : ℕ). x * 2 ^ at) (pow-add 2 2 (k + o - (at + 2)))

    swap : (x : ℕ) → x * (d * 2 ^ at) ≡ x * 2 ^ at * d
    swap x = omega arith

    kept_alike : kept p (m * 2 ^ at) (2 ^ o) ≡ kept p n d
    kept_alike =
        ap (λ (x : ℕ). closest (m * 2 ^ at) (2 ^ o * 2 ^ x)) drop_alike
        ∙ near_one (m * 2 ^ at) (2 ^ o * 2 ^ k) _ _ (mul-pos (pow_pos o) (pow_pos k))
        (closest_near (m * 2 ^ at) (2 ^ o * 2 ^ k) (mul-pos (pow_pos o) (pow_pos k)))
        (beside n d (2 ^ k) (2 ^ o) (kept p n d) j (2 ^ (k + o - (at + 2))) (2 ^ at) (pow_pos at) D parts (rw (swap (2 * j)) lo) (rw (swap (2 * j + 2)) hi) (closest_near n (d * 2 ^ k) (mul-pos D (pow_pos k))))
