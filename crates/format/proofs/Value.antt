-- A finite word's count of units is the very number that `lib.Ieee` reads from its bits, with the word's sign, and the other way round; and
-- a comparison, a sum or a difference of two values is that of their signs and sizes. Assumes nothing.
use Prim.Native.Nat.{ℕ, zero, suc, ◌+◌, ◌-◌, ◌*◌, ◌/◌, ◌^◌, ◌<◌}
use native.Mathlib.Nat.{lt_irrefl, le_of_suc-le-suc, eq-or-lt_of_le, mul-one, zero-mul, mul-pos, mul_comm, mul_assoc, mul_right_comm, mul-mul-mul_comm, add-mul, eq_of_mul-eq-mul_right, lt_of_mul-lt-mul_right, le_of_mul-le-mul_right, mul-le-mul_right, mul-lt-mul_of_pos_right}
use mathlib.Core.Path.{◌≡◌, refl, sym, ap, subst, ◌∙◌}
use mathlib.Core.Logic.{◌⊎◌, inl, inr}
use mathlib.Core.Bool.{Bool, true, false, not, cond, ◌&&◌}
use borrow.Author.Tests.{ne_eqb, ltb-true, ltb-false, lt-ltb, le-ltb}
use lib.IntN.{ℤ}
use lib.Dec.{T, eqb, ltb}
use lib.Ieee.{Format, Float, nan, inf, fin, up, down, prec, low, hid, ones, odd, round, add, neg, sum, sub, lt, below, fits, of_fields, of_bits, to_bits, nan_bits}
use lib.Ieee.Bits.{of_bits-to_bits}
use lib.Ieee.Exact.{HasValue, odd_sign}
use lib.Ieee.Fits.{down_pos}
use lib.Ieee.Nearest.{div_same}
use lib.Ieee.Scale.{round_same}
use Rattle.format.specs.Fields.{negative, exponent, fraction}
use Rattle.format.specs.Value.{units_at, units, Finite}
use Rattle.format.proofs.Fields.{exponent_lt}
use Rattle.format.proofs.Nan.{nan_read, inf_read}
use Rattle.format.proofs.Order.{sub_mul}

fields_value : (f : Format) (s : Bool) (x t : ℕ) → x < ones f → HasValue (of_fields f s x t) s (units_at f x t) (2 ^ low f)
unfolding of_fields
fields_value f s zero t h = subst (λ (a : ℕ). HasValue (odd (prec f) s t 0 (low f)) s a (2 ^ low f)) (mul-one t) (odd_sign (prec f) s t 0 (low f))
fields_value f s (suc x) t h =
    subst (λ (b : Bool). HasValue (cond b (cond (eqb t 0) (inf s) nan) (odd (prec f) s (hid f + t) x (low f))) s ((hid f + t) * 2 ^ x) (2 ^ low f))
    (sym (ne_eqb (suc x) (ones f) (λ e. lt_irrefl (ones f) (subst (λ (a : ℕ). a < ones f) e h))))
    (odd_sign (prec f) s (hid f + t) x (low f))

pub word_value : (f : Format) (w : ℕ) → Finite f w → HasValue (of_bits f w) (negative f w) (units f w) (2 ^ low f)
unfolding of_bits
word_value f w h = fields_value f (negative f w) (exponent f w) (fraction f w) h

-- the whole part of a value that is a / c
pub whole_part : (m : ℕ) (e : ℤ) (a c : ℕ) → 0 < c → m * up e * c ≡ a * down e → m * up e / down e ≡ a / c
whole_part m e a c h v = div_same (m * up e) (down e) a c (down_pos e) h v

-- ---- from a value back to its word

pub record Held (f : Format) (s : Bool) (a c r : ℕ) : Type 0 where
  pub finite : Finite f r
  pub sign : negative f r ≡ s
  pub amount : units f r * c ≡ a * 2 ^ low f

finite_word : (f : Format) (w : ℕ) (s : Bool) (a c : ℕ) → HasValue (of_bits f w) s a c → Finite f w
finite_word f w s a c v = go (eq-or-lt_of_le (le_of_suc-le-suc (exponent_lt f w)))
  where
    nan_or_inf : (b : Bool) → nan_bits f w ≡ b → exponent f w ≡ ones f → ⊥
    nan_or_inf true n e = rw (nan_read f w n) at v
    nan_or_inf false n e = rw (inf_read f w e n) at v

    go : (exponent f w ≡ ones f) ⊎ (exponent f w < ones f) → Finite f w
    go (inl e) = absurd (nan_or_inf (nan_bits f w) refl e)
    go (inr l) = l

same_amount : (x : Float) (s t : Bool) (a c b d : ℕ) → HasValue x s a c → HasValue x t b d → (t ≡ s) × (b * c ≡ a * d)
same_amount nan s t a c b d v u = absurd v
same_amount (inf i) s t a c b d v u = absurd v
same_amount (fin i m e) s t a c b d v u = (
  sym u.0 ∙ v.0,
  eq_of_mul-eq-mul_right (down e) (down_pos e) (b * c) (a * d)
      (mul_right_comm b c (down e)
      ∙ ap (λ (n : ℕ). n * c) (sym u.1)
      ∙ mul_right_comm (m * up e) d c
      ∙ ap (λ (n : ℕ). n * d) v.1
      ∙ mul_right_comm a (down e) d),
)

-- a value that the format holds has a word with that sign and that many units
pub value_word : (f : Format) (x : Float) (s : Bool) (a c : ℕ) → T (fits f x) → HasValue x s a c → Held f s a c (to_bits f x)
value_word f x s a c h v =
    let r = to_bits f x in
    let e : of_bits f r ≡ x = of_bits-to_bits f x h in
    let v' : HasValue (of_bits f r) s a c = rw e v in
    let p : Finite f r = finite_word f r s a c v' in
    let both = same_amount (of_bits f r) s (negative f r) a c (units f r) (2 ^ low f) v' (word_value f r p) in
    record { finite = p; sign = both.0; amount = both.1 }

-- ---- a comparison, a sum and a difference, by the values

same_ltb : (a b p q k j : ℕ) → 0 < k → 0 < j → a * k ≡ p * j → b * k ≡ q * j → ltb a b ≡ ltb p q
same_ltb a b p q k j kp jp e d = go (ltb p q) refl
  where
    go : (t : Bool) → ltb p q ≡ t → ltb a b ≡ t
    go true h = lt-ltb a b (lt_of_mul-lt-mul_right k (rw (e, d) (mul-lt-mul_of_pos_right (ltb-true p q h) jp)))
    go false h = le-ltb a b (le_of_mul-le-mul_right (rw (d, e) (mul-le-mul_right j (ltb-false p q h))) kp)

-- each side over the product of the two denominators
cross : (m e c a g d : ℕ) → m * c ≡ a * e → m * g * (c * d) ≡ a * d * (e * g)
cross m e c a g d v =
    mul-mul-mul_comm m g c d ∙ ap (λ (n : ℕ). n * (g * d)) v ∙ ap (λ (n : ℕ). a * e * n) (mul_comm g d) ∙ mul-mul-mul_comm a e d g

pub lt_values : (x y : Float) (s t : Bool) (a c b d : ℕ) → 0 < c → 0 < d → HasValue x s a c → HasValue y t b d → lt x y ≡ below s (a * d) t (b * c)
unfolding lt
lt_values nan y s t a c b d cp dp v u = absurd v
lt_values (inf i) y s t a c b d cp dp v u = absurd v
lt_values (fin i m e) nan s t a c b d cp dp v u = absurd u
lt_values (fin i m e) (inf j) s t a c b d cp dp v u = absurd u
lt_values (fin i m e) (fin j n k) s t a c b d cp dp v u = go i j v.0 u.0
  where
    kp : 0 < c * d
    kp = mul-pos cp dp

    jp : 0 < down e * down k
    jp = mul-pos (down_pos e) (down_pos k)

    p : m * up e * down k * (c * d) ≡ a * d * (down e * down k)
    p = cross (m * up e) (down e) c a (down k) d v.1

    q : n * up k * down e * (c * d) ≡ b * c * (down e * down k)
    q = ap (λ (z : ℕ). n * up k * down e * z) (mul_comm c d) ∙ cross (n * up k) (down k) d b (down e) c u.1 ∙ ap (λ (z : ℕ). b * c * z) (mul_comm (down k) (down e))

    both : 0 * (c * d) ≡ 0 * (down e * down k)
    both = zero-mul (c * d) ∙ sym (zero-mul (down e * down k))

    sum : (m * up e * down k + n * up k * down e) * (c * d) ≡ (a * d + b * c) * (down e * down k)
    sum = add-mul (m * up e * down k) (n * up k * down e) (c * d) ∙ rw (p, q) (sym (add-mul (a * d) (b * c) (down e * down k)))

    at : (s t : Bool) → below s (m * up e * down k) t (n * up k * down e) ≡ below s (a * d) t (b * c)
    at false false = same_ltb (m * up e * down k) (n * up k * down e) (a * d) (b * c) (c * d) (down e * down k) kp jp p q
    at false true = refl
    at true false = same_ltb 0 (m * up e * down k + n * up k * down e) 0 (a * d + b * c) (c * d) (down e * down k) kp jp both sum
    at true true = same_ltb (n * up k * down e) (m * up e * down k) (b * c) (a * d) (c * d) (down e * down k) kp jp q p

    go : (i j : Bool) → i ≡ s → j ≡ t → below i (m * up e * down k) j (n * up k * down e) ≡ below s (a * d) t (b * c)
    go i j x y = rw (x, y) (at s t)

-- ±a / c + ±b / c is the same over another denominator
same_sum : (f : Format) (s t : Bool) (m n d a b c : ℕ) → 0 < d → 0 < c → m * c ≡ a * d → n * c ≡ b * d → sum f s m t n d ≡ sum f s a t b c
unfolding sum
same_sum f s t m n d a b c dp cp p q =
    rw (same_ltb m n a b c d cp dp p q, same_ltb n m b a c d cp dp q p, same s (m + n) (a + b) total, same t (n - m) (b - a) (less n m b a q p), same (s && ltb b a) (m - n) (a - b) (less m n a b p q))
  where
    same : (i : Bool) (k x : ℕ) → k * c ≡ x * d → round f i k d ≡ round f i x c
    same i k x e = round_same f i k d x c dp cp e

    total : (m + n) * c ≡ (a + b) * d
    total = add-mul m n c ∙ rw (p, q) (sym (add-mul a b d))

    less : (k l x y : ℕ) → k * c ≡ x * d → l * c ≡ y * d → (k - l) * c ≡ (x - y) * d
    less k l x y e h = sub_mul k l c ∙ rw (e, h) (sym (sub_mul x y d))

-- a sum of two values over one denominator, and a difference, whatever their signs
pub add_signed : (f : Format) (x y : Float) (s t : Bool) (a b c : ℕ) → 0 < c → HasValue x s a c → HasValue y t b c → add f x y ≡ sum f s a t b c
unfolding add
add_signed f nan y s t a b c cp v u = absurd v
add_signed f (inf i) y s t a b c cp v u = absurd v
add_signed f (fin i m e) nan s t a b c cp v u = absurd u
add_signed f (fin i m e) (inf j) s t a b c cp v u = absurd u
add_signed f (fin i m e) (fin j n k) s t a b c cp v u =
    rw (v.0, u.0) (same_sum f s t (m * up e * down k) (n * up k * down e) (down e * down k) a b c (mul-pos (down_pos e) (down_pos k)) cp
    (mul_right_comm (m * up e) (down k) c ∙ ap (λ (z : ℕ). z * down k) v.1 ∙ mul_assoc a (down e) (down k))
    (mul_right_comm (n * up k) (down e) c ∙ ap (λ (z : ℕ). z * down e) u.1 ∙ mul_assoc b (down k) (down e) ∙ ap (λ (z : ℕ). b * z) (mul_comm (down k) (down e))))

pub sub_signed : (f : Format) (x y : Float) (s t : Bool) (a b c : ℕ) → 0 < c → HasValue x s a c → HasValue y t b c → sub f x y ≡ sum f s a (not t) b c
unfolding sub neg
sub_signed f x y s t a b c cp v u = add_signed f x (neg y) s (not t) a b c cp v (turned y u)
  where
    turned : (y : Float) → HasValue y t b c → HasValue (neg y) (not t) b c
    turned nan h = absurd h
    turned (inf j) h = absurd h
    turned (fin j n k) h = (ap not h.0, h.1)

-- a sum of two values of one sign
pub add_values : (f : Format) (x y : Float) (s : Bool) (a b c : ℕ) → 0 < c → HasValue x s a c → HasValue y s b c → add f x y ≡ round f s (a + b) c
unfolding sum
add_values f x y s a b c cp v u = add_signed f x y s s a b c cp v u ∙ go s
  where
    go : (s : Bool) → sum f s a s b c ≡ round f s (a + b) c
    go true = refl
    go false = refl
