-- round is the nearest whole number, halves away from 0, for |x| under 2 ^ 23 at binary32 but for the magnitude 3effffff, where the sum
-- with a half rounds up to 1; a zero is +0. Assumes nothing.
use Prim.Native.Nat.{ℕ, zero, suc, ◌+◌, ◌-◌, ◌*◌, ◌/◌, ◌^◌, ◌<◌, ◌≤◌, suc-le-suc, compare}
use native.Mathlib.Numerals.{add-one}
use native.Mathlib.Nat.{pow-succ', le-add_right, le-add_left, div-eq_of_lt, div-le_self, mod-one, div-one, mul_assoc, mul_comm, mul-one, one-mul, add-mul, suc-mul, mul-pos, mul-div_cancel, mul-mod_left, div-mul-le_self, div-lt_iff_lt-mul, div-eq_of_lt-le, le-div_iff_mul-le, eq_of_mul-eq-mul_right, mul-le-mul_left, mul-le-mul_right, mul-lt-mul_of_pos_right, le_antisymm, le_trans, le_of_lt, lt_irrefl, lt_of_not-le, lt_of_lt_of_le, lt_of_le_of_lt, lt-suc_self, zero-lt-suc, le_of_eq}
use native.Mathlib.Omega.{arith}
use mathlib.Core.Path.{◌≡◌, refl, sym, ap, subst, ◌∙◌}
use mathlib.Core.Bool.{Bool, true, false}
use borrow.Author.Tests.{ltb-true, ltb-false}
use lib.Dec.{ltb, lit<, lit≤}
use lib.Pow.{pow_pos, pow-add, pow_mono, shl_lt}
use lib.Ieee.{Format, binary32, Float, prec, emax, low, size, nearest, units as units_of, round, add, of_bits, to_signed}
use lib.Ieee.Digits.{size-lt, size-le}
use lib.Ieee.Exact.{HasValue, units_val}
use lib.Ieee.Fits.{core, round_is, of_int-fits}
use lib.Ieee.Nearest.{closest, closest_mono, closest_same, div_same}
use lib.Ieee.Back.{round_whole}
use Rattle.format.specs.Fields.{negative, exponent, fraction}
use Rattle.format.specs.Sign.{copysign_word}
use Rattle.format.specs.Value.{units_at, units}
use Rattle.format.specs.Whole.{half_word, through_int, round_word}
use Rattle.format.specs.Meaning.{IsRound, Under23}
use Rattle.format.proofs.Cast.{held, value_cast}
use Rattle.format.proofs.Fields.{fraction_lt, two_fields}
use Rattle.format.proofs.FloorMeaning.{through_positive, through_negative, nothing_through}
use Rattle.format.proofs.PartsMeaning.{full}
use Rattle.format.proofs.Sign.{copysign_is}
use Rattle.format.proofs.Value.{word_value, value_word, add_values}

-- ---- rounding that crosses no whole number

-- a number between two powers of two has as many digits as the upper one's exponent
size_is : (a n : ℕ) → 2 ^ a ≤ n → n < 2 ^ suc a → size n ≡ suc a
size_is a n lo hi =
    le_antisymm (size-le n (suc a) hi)
    (lt_of_not-le (λ (g : size n ≤ a). lt_irrefl n (lt_of_lt_of_le (size-lt n) (le_trans (pow_mono g) lo))))

-- a multiple is its own nearest
of_multiple : (c b : ℕ) → 0 < b → closest (c * b) b ≡ c
of_multiple c b h = closest_same (c * b) b c 1 h (lit< tt) (mul-one (c * b)) ∙ whole
  where
    whole : closest c 1 ≡ c
    whole = ap (λ (r : ℕ). nearest (c / 1) (compare (r * 2) 1)) (mod-one c) ∙ div-one c

-- n units, rounded where k of its digits are dropped, still has n's whole part if n is at least 2 ^ k short of the next whole number
pub round_part : (f : Format) (s : Bool) (n k : ℕ) → size n ≡ prec f + k → k ≤ low f → n + 2 ^ k ≤ suc (n / 2 ^ low f) * 2 ^ low f → suc (n / 2 ^ low f) ≤ 2 ^ suc (emax f)
    → (v : ℕ) × HasValue (round f s n (2 ^ low f)) s v (2 ^ low f) × (v / 2 ^ low f ≡ n / 2 ^ low f)
round_part f s n k z k_le short fine =
    let d = 2 ^ low f in
    let m = n / d in
    let g = 2 ^ (low f - k) in
    let d_is : d ≡ g * 2 ^ k = ap (λ (x : ℕ). 2 ^ x) (let e : low f ≡ low f - k + k = omega arith in e) ∙ pow-add 2 (low f - k) k in
    let q = closest n (2 ^ k) in
    let v = q * 2 ^ k in
    let scaled : (c : ℕ) → c * d ≡ c * g * 2 ^ k = λ c. ap (λ (x : ℕ). c * x) d_is ∙ sym (mul_assoc c g (2 ^ k)) in
    let least : m * d ≤ v =
    subst (λ (x : ℕ). x ≤ v) (sym (scaled m))
    (mul-le-mul_right (2 ^ k)
    (subst (λ (x : ℕ). x ≤ q) (of_multiple (m * g) (2 ^ k) (pow_pos k)) (closest_mono (m * g * 2 ^ k) (2 ^ k) n (2 ^ k) (pow_pos k) (pow_pos k) (mul-le-mul_right (2 ^ k) (subst (λ (x : ℕ). x ≤ n) (scaled m) (div-mul-le_self n d)))))) in
    let c = suc m * g - 1 in
    let c_is : suc c ≡ suc m * g = after (suc m * g) (mul-pos (zero-lt-suc m) (pow_pos (low f - k))) in
    let n_le : n ≤ c * 2 ^ k = dropped n (2 ^ k) (c * 2 ^ k) (subst (λ (x : ℕ). n + 2 ^ k ≤ x) (scaled (suc m) ∙ ap (λ (x : ℕ). x * 2 ^ k) (sym c_is) ∙ suc-mul c (2 ^ k)) short) in
    let q_le : q ≤ c = subst (λ (x : ℕ). q ≤ x) (of_multiple c (2 ^ k) (pow_pos k)) (closest_mono n (2 ^ k) (c * 2 ^ k) (2 ^ k) (pow_pos k) (pow_pos k) (mul-le-mul_right (2 ^ k) n_le)) in
    let most : v < suc m * d =
    subst (λ (x : ℕ). v < x) (sym (scaled (suc m)))
    (mul-lt-mul_of_pos_right (subst (λ (x : ℕ). q < x) c_is (lt_of_le_of_lt q_le (lt-suc_self c))) (pow_pos k)) in
    let under : v < 2 ^ (low f + suc (emax f)) =
    lt_of_lt_of_le most (le_trans (mul-le-mul_right d fine) (le_of_eq (mul_comm (2 ^ suc (emax f)) d ∙ sym (pow-add 2 (low f) (suc (emax f)))))) in
    let kept : n * d / d ≡ n = mul-div_cancel n (pow_pos (low f)) in
    let k_is : size (n * d / d) - prec f ≡ k = ap (λ (x : ℕ). size x - prec f) kept ∙ ap (λ (x : ℕ). x - prec f) z ∙ omega arith in
    let is : round f s n d ≡ units_of f s q k =
    round_is f s n d ∙ ap (core f s (n * d) d) k_is
    ∙ ap (λ (x : ℕ). units_of f s x k) (closest_same (n * d) (d * 2 ^ k) n (2 ^ k) (mul-pos (pow_pos (low f)) (pow_pos k)) (pow_pos k) (mul_assoc n d (2 ^ k))) in
    (v, subst (λ (x : Float). HasValue x s v d) (sym is) (units_val f s q k under), div-eq_of_lt-le d least (subst (λ (x : ℕ). v < x * d) (sym (add-one m)) most))
  where
    after : (x : ℕ) → 0 < x → suc (x - 1) ≡ x
    after x h = omega arith

    dropped : (a b c : ℕ) → a + b ≤ c + b → a ≤ c
    dropped a b c h = omega arith

-- ---- a half added, by the exponent

-- both counted in units of the significand's last place, of which a whole has b
module _ (a b y : ℕ) (b_pos : 0 < b) (one : 2 ^ low binary32 ≡ b * 2 ^ y) where
  same_part : a * 2 ^ y / 2 ^ low binary32 ≡ a / b
  same_part =
      div_same (a * 2 ^ y) (2 ^ low binary32) a b (pow_pos (low binary32)) b_pos
      (mul_assoc a (2 ^ y) b ∙ ap (λ (n : ℕ). a * n) (mul_comm (2 ^ y) b ∙ sym one))

  short_by : (e : ℕ) → a + e ≤ suc (a / b) * b → a * 2 ^ y + e * 2 ^ y ≤ suc (a * 2 ^ y / 2 ^ low binary32) * 2 ^ low binary32
  short_by e h =
      subst (λ (n : ℕ). a * 2 ^ y + e * 2 ^ y ≤ n) (mul_assoc (suc (a / b)) b (2 ^ y) ∙ rw (← one) (ap (λ (m : ℕ). suc m * 2 ^ low binary32) (sym same_part)))
      (subst (λ (n : ℕ). n ≤ suc (a / b) * b * 2 ^ y) (add-mul a e (2 ^ y)) (mul-le-mul_right (2 ^ y) h))

  few_parts : a < 2 ^ 25 → suc (a * 2 ^ y / 2 ^ low binary32) ≤ 2 ^ suc (emax binary32)
  few_parts h = le_trans (lt_of_le_of_lt (subst (λ (n : ℕ). n ≤ a) (sym same_part) (div-le_self a b)) h) (lit≤ tt)

abbrev Rounded : Bool → ℕ → Type 0
Rounded s n = (v : ℕ) × HasValue (round binary32 s n (2 ^ low binary32)) s v (2 ^ low binary32) × (v / 2 ^ low binary32 ≡ n / 2 ^ low binary32)

-- the sum has as many digits as the format keeps, so nothing is lost
kept_whole : (s : Bool) (a b y : ℕ) → 0 < b → 2 ^ low binary32 ≡ b * 2 ^ y → y ≤ 148 → 2 ^ 23 ≤ a → a < 2 ^ 24 → Rounded s (a * 2 ^ y)
kept_whole s a b y b_pos one y_le lo hi =
    round_part binary32 s (a * 2 ^ y) y
    (size_is (23 + y) (a * 2 ^ y) (subst (λ (n : ℕ). n ≤ a * 2 ^ y) (sym (pow-add 2 23 y)) (mul-le-mul_right (2 ^ y) lo))
    (subst (λ (k : ℕ). a * 2 ^ y < 2 ^ k) (let e : 24 + y ≡ suc (23 + y) = omega arith in e) (shl_lt 24 y hi)) ∙ (let e : suc (23 + y) ≡ 24 + y = omega arith in e))
    (le_trans y_le (lit≤ tt))
    (subst (λ (n : ℕ). a * 2 ^ y + n ≤ suc (a * 2 ^ y / 2 ^ low binary32) * 2 ^ low binary32) (one-mul (2 ^ y))
    (short_by a b y b_pos one 1 (subst (λ (n : ℕ). n ≤ suc (a / b) * b) (sym (add-one a)) ((div-lt_iff_lt-mul b_pos).0 (lt-suc_self (a / b))))))
    (few_parts a b y b_pos one (omega arith))

-- the sum has one digit more; h is a half, and g whole numbers make 2 ^ 24 places
one_dropped : (s : Bool) (t h g y : ℕ) → 0 < h → 2 ^ low binary32 ≡ 2 * h * 2 ^ y → y ≤ 148 → 2 ^ 24 ≡ g * (2 * h) → t < 2 ^ 24 → 2 ^ 24 ≤ t + h → t + h < 2 ^ 25 → Rounded s ((t + h) * 2 ^ y)
one_dropped s t h g y h_pos one y_le parts t_lt lo hi =
    let a = t + h in
    let b = 2 * h in
    let b_pos : 0 < b = omega arith in
    let at_least : g ≤ a / b = (le-div_iff_mul-le b_pos).1 (subst (λ (n : ℕ). n ≤ a) parts lo) in
    let room : a + 2 ≤ suc (a / b) * b = le_trans (subst (λ (n : ℕ). a + 2 ≤ n) (ap (λ (n : ℕ). n + b) parts ∙ sym (suc-mul g b)) (omega arith)) (mul-le-mul_right b (suc-le-suc at_least)) in
    round_part binary32 s (a * 2 ^ y) (suc y)
    (size_is (24 + y) (a * 2 ^ y) (subst (λ (n : ℕ). n ≤ a * 2 ^ y) (sym (pow-add 2 24 y)) (mul-le-mul_right (2 ^ y) lo))
    (subst (λ (k : ℕ). a * 2 ^ y < 2 ^ k) (let e : 25 + y ≡ suc (24 + y) = omega arith in e) (shl_lt 25 y hi)) ∙ (let e : suc (24 + y) ≡ 24 + suc y = omega arith in e))
    (suc-le-suc y_le)
    (subst (λ (n : ℕ). a * 2 ^ y + n ≤ suc (a * 2 ^ y / 2 ^ low binary32) * 2 ^ low binary32) (sym (pow-succ' 2 y)) (short_by a b y b_pos one 2 room))
    (few_parts a b y b_pos one hi)

-- from a half on: y is from 125 to 148
from_half : (s : Bool) (t y : ℕ) → 125 ≤ y → y ≤ 148 → 2 ^ 23 ≤ t → t < 2 ^ 24 → Rounded s (t * 2 ^ y + 2 ^ 148)
from_half s t y lo hi t_lo t_hi =
    let h = 2 ^ (148 - y) in
    let half_is : h * 2 ^ y ≡ 2 ^ 148 = sym (pow-add 2 (148 - y) y) ∙ ap (λ (k : ℕ). 2 ^ k) (let e : 148 - y + y ≡ 148 = omega arith in e) in
    let one : 2 ^ low binary32 ≡ 2 * h * 2 ^ y = sym (mul_assoc 2 h (2 ^ y) ∙ ap (λ (n : ℕ). 2 * n) half_is) in
    let h_pos : 0 < h = pow_pos (148 - y) in
    let h_le : h ≤ 2 ^ 23 = pow_mono (let e : 148 - y ≤ 23 = omega arith in e) in
    let sum_is : (t + h) * 2 ^ y ≡ t * 2 ^ y + 2 ^ 148 = add-mul t h (2 ^ y) ∙ ap (λ (n : ℕ). t * 2 ^ y + n) half_is in
    subst (Rounded s) sum_is (go h h_pos h_le one (pow_parts y lo hi) (ltb (t + h) (2 ^ 24)) refl)
  where
    pow_parts : (y : ℕ) → 125 ≤ y → y ≤ 148 → 2 ^ 24 ≡ 2 ^ (y - 125) * (2 * 2 ^ (148 - y))
    pow_parts y lo hi =
        ap (λ (k : ℕ). 2 ^ k) (let e : 24 ≡ y - 125 + (1 + (148 - y)) = omega arith in e)
        ∙ pow-add 2 (y - 125) (1 + (148 - y)) ∙ ap (λ (n : ℕ). 2 ^ (y - 125) * n) (pow-add 2 1 (148 - y))

    twice : (h : ℕ) → 0 < h → 0 < 2 * h
    twice h p = omega arith

    add_up : (h : ℕ) → t < 2 ^ 24 → h ≤ 2 ^ 23 → t + h < 2 ^ 25
    add_up h a b = omega arith

    go : (h : ℕ) → 0 < h → h ≤ 2 ^ 23 → 2 ^ low binary32 ≡ 2 * h * 2 ^ y → 2 ^ 24 ≡ 2 ^ (y - 125) * (2 * h) → (b : Bool) → ltb (t + h) (2 ^ 24) ≡ b → Rounded s ((t + h) * 2 ^ y)
    go h h_pos h_le one parts true e = kept_whole s (t + h) (2 * h) y (twice h h_pos) one hi (le_trans t_lo (le-add_right t h)) (ltb-true _ _ e)
    go h h_pos h_le one parts false e = one_dropped s t h (2 ^ (y - 125)) y h_pos one hi parts t_hi (ltb-false _ _ e) (add_up h t_hi h_le)

add_le_add_right : {a b : ℕ} → a ≤ b → (c : ℕ) → a + c ≤ b + c
add_le_add_right h c = omega arith

add_lt_add_right : {a b : ℕ} → a < b → (c : ℕ) → a + c < b + c
add_lt_add_right h c = omega arith

-- below a half, and short of the next number to it
short_of_one : (u a b : ℕ) → u + b ≤ a → 0 < b → (u + a < 2 * a) × (u + a + b ≤ 1 * (2 * a))
short_of_one u a b h p = omega arith

under_half : (s : Bool) (u : ℕ) → u + 2 ^ 125 ≤ 2 ^ 148 → Rounded s (u + 2 ^ 148)
under_half s u h =
    let short = short_of_one u (2 ^ 148) (2 ^ 125) h (pow_pos 125) in
    let none : (u + 2 ^ 148) / 2 ^ 149 ≡ 0 = div-eq_of_lt short.0 in
    round_part binary32 s (u + 2 ^ 148) 125 (size_is 148 (u + 2 ^ 148) (le-add_left (2 ^ 148) u) short.0) (lit≤ tt)
    (subst (λ (m : ℕ). u + 2 ^ 148 + 2 ^ 125 ≤ suc m * 2 ^ 149) (sym none) short.1)
    (subst (λ (m : ℕ). suc m ≤ 2 ^ 128) (sym none) (lit≤ tt))

-- only 3effffff is nearer to a half than that
clear_of_half : (x t : ℕ) → x ≤ 125 → t < 2 ^ 23 → (x * 2 ^ 23 + t ≡ 0x3eff_ffff → ⊥) → units_at binary32 x t + 2 ^ 125 ≤ 2 ^ 148
clear_of_half zero t h k n = le_trans (add_le_add_right (le_of_lt k) (2 ^ 125)) (lit≤ tt)
clear_of_half (suc y) t h k n = go (ltb y 124) refl
  where
    go : (b : Bool) → ltb y 124 ≡ b → (2 ^ 23 + t) * 2 ^ y + 2 ^ 125 ≤ 2 ^ 148
    go true e =
        let y_le : y ≤ 123 = omega (arith, ltb-true y 124 e) in
        let s_le : 2 ^ 23 + t ≤ 2 ^ 24 = omega arith in
        le_trans (add_le_add_right (le_trans (mul-le-mul_right (2 ^ y) s_le) (mul-le-mul_left (2 ^ 24) (pow_mono y_le))) (2 ^ 125)) (lit≤ tt)
    go false e =
        let y_is : y ≡ 124 = omega (arith, ltb-false y 124 e) in
        let s_le : 2 ^ 23 + t ≤ 2 ^ 24 - 2 = omega arith in
        le_trans (add_le_add_right (subst (λ (k : ℕ). (2 ^ 23 + t) * 2 ^ k ≤ (2 ^ 24 - 2) * 2 ^ 124) (sym y_is) (mul-le-mul_right (2 ^ 124) s_le)) (2 ^ 125)) (lit≤ tt)

sum_rounded : (s : Bool) (x t : ℕ) → x ≤ 149 → t < 2 ^ 23 → (x * 2 ^ 23 + t ≡ 0x3eff_ffff → ⊥) → Rounded s (units_at binary32 x t + 2 ^ 148)
sum_rounded s x t h k n = go (ltb x 126) refl
  where
    from_126 : (x : ℕ) → x ≤ 149 → 126 ≤ x → Rounded s (units_at binary32 x t + 2 ^ 148)
    from_126 zero h l = absurd (let z : ⊥ = omega arith in z)
    from_126 (suc y) h l = from_half s (2 ^ 23 + t) y (omega arith) (omega arith) (le-add_right (2 ^ 23) t) (omega arith)

    go : (b : Bool) → ltb x 126 ≡ b → Rounded s (units_at binary32 x t + 2 ^ 148)
    go true e = under_half s (units_at binary32 x t) (clear_of_half x t (omega (arith, ltb-true x 126 e)) k n)
    go false e = from_126 x h (ltb-false x 126 e)

-- the sum's whole part is one that the format holds
few_wholes : (x t : ℕ) → x ≤ 149 → t < 2 ^ 23 → (units_at binary32 x t + 2 ^ 148) / 2 ^ 149 < 2 ^ 24
few_wholes x t h k = (div-lt_iff_lt-mul (pow_pos 149)).1 (lt_of_lt_of_le (add_lt_add_right (under x h) (2 ^ 148)) (lit≤ tt))
  where
    under : (x : ℕ) → x ≤ 149 → units_at binary32 x t < 2 ^ 172
    under zero h = lt_of_lt_of_le k (lit≤ tt)
    under (suc y) h = lt_of_lt_of_le (shl_lt 24 y (full binary32 t k)) (pow_mono (let e : 24 + y ≤ 172 = omega arith in e))

-- ---- the law

field_le : (w : ℕ) → Under23 w → exponent binary32 w ≤ 149
field_le w g = omega (arith, g.under)

-- what the cast there and back makes of a sign and a whole number
record Back (x : Float) (s : Bool) (m : ℕ) : Type 0 where
  sign : Bool
  value : HasValue (through_int binary32 x) sign m 1
  same : (m ≡ 0 → ⊥) → sign ≡ s
  zero : m ≡ 0 → sign ≡ false

there_and_back : (x : Float) (s : Bool) (m : ℕ) → to_signed 31 x ≡ held 31 s m → m < 2 ^ 24 → Back x s m
there_and_back x false m c l =
    record { sign = false; value = rw c (through_positive m (le_trans (le_of_lt l) (lit≤ tt)) (λ s. round_whole binary32 s m (le_of_lt l))); same = λ n. refl; zero = λ e. refl }
there_and_back x true zero c l = record { sign = false; value = rw c nothing_through; same = λ n. absurd (n refl); zero = λ e. refl }
there_and_back x true (suc m) c l =
    record { sign = true; value = rw c (through_negative m (le_trans (le_of_lt l) (lit≤ tt)) (λ s. round_whole binary32 s (suc m) (le_of_lt l))); same = λ n. refl; zero = λ e. absurd (let z : ⊥ = omega arith in z) }

-- the sum as the kernel forms it
abbrev summed : ℕ → Float
summed w = add binary32 (of_bits binary32 w) (of_bits binary32 (copysign_word binary32 (half_word binary32) w))

half_value : (w : ℕ) → HasValue (of_bits binary32 (copysign_word binary32 (half_word binary32) w)) (negative binary32 w) (2 ^ 148) (2 ^ 149)
half_value w =
    let h = copysign_word binary32 (half_word binary32) w in
    let z = copysign_is binary32 (half_word binary32) w in
    let v : HasValue (of_bits binary32 h) (negative binary32 h) (units binary32 h) (2 ^ 149) = word_value binary32 h (subst (λ (x : ℕ). x < 255) (sym z.field) (lit< tt)) in
    subst (λ (s : Bool). HasValue (of_bits binary32 h) s (2 ^ 148) (2 ^ 149)) z.sign
    (subst (λ (n : ℕ). HasValue (of_bits binary32 h) (negative binary32 h) n (2 ^ 149)) (rw (z.field, z.digits) refl) v)

near : (u d h m : ℕ) → d ≡ 2 * h → 0 < h → m * d ≤ u + h → u + h < m * d + d → (2 * (m * d - u) ≤ d) × (2 * (u - m * d) + 1 ≤ d)
near u d h m e p lo hi = omega arith

pub round_is_nearest : (w : ℕ) → Under23 w → IsRound binary32 w (round_word binary32 w)
round_is_nearest w g =
    let x = exponent binary32 w in
    let t = fraction binary32 w in
    let s = negative binary32 w in
    let u = units binary32 w in
    let d = 2 ^ 149 in
    let t_lt : t < 2 ^ 23 = fraction_lt binary32 w in
    let x_le = field_le w g in
    let m = (u + 2 ^ 148) / d in
    let rounded = sum_rounded s x t x_le t_lt (λ e. g.clear (sym (two_fields binary32 w) ∙ e)) in
    let sum_is : summed w ≡ round binary32 s (u + 2 ^ 148) d = add_values binary32 (of_bits binary32 w) _ s u (2 ^ 148) d (pow_pos 149) (word_value binary32 w (lt_of_le_of_lt x_le (lit< tt))) (half_value w) in
    let cast : to_signed 31 (summed w) ≡ held 31 s m = ap (to_signed 31) sum_is ∙ value_cast 31 (round binary32 s (u + 2 ^ 148) d) s rounded.0 d (pow_pos 149) rounded.1 ∙ ap (held 31 s) rounded.2 in
    let b = there_and_back (summed w) s m cast (few_wholes x t x_le t_lt) in
    let r = round_word binary32 w in
    let is = value_word binary32 (through_int binary32 (summed w)) b.sign m 1 (of_int-fits binary32 (to_signed 31 (summed w))) b.value in
    let size_of : units binary32 r ≡ m * d = sym (mul-one (units binary32 r)) ∙ is.amount in
    let close = near u d (2 ^ 148) m refl (pow_pos 148) (div-mul-le_self (u + 2 ^ 148) d) (subst (λ (n : ℕ). u + 2 ^ 148 < n) (suc-mul m d) ((div-lt_iff_lt-mul (pow_pos 149)).0 (lt-suc_self m))) in
    let nothing : units binary32 r ≡ 0 → m ≡ 0 = λ e. eq_of_mul-eq-mul_right d (pow_pos 149) m 0 (sym size_of ∙ e) in
    record {
      finite = is.finite;
      whole = rw size_of (mul-mod_left m d);
      sign = λ n. is.sign ∙ b.same (λ e. n (size_of ∙ rw e refl));
      near_above = rw size_of close.0;
      near_below = rw size_of close.1;
      zero = λ e. is.sign ∙ b.zero (nothing e);
    }
