-- trunc is the whole part and fract the rest, each with the operand's sign bit, wherever the exponent is below the word's width:
-- for |x| under 2 ^ 32 at binary32 and 2 ^ 64 at binary64. Both are exact, and their sum is x. Assumes nothing.
use Prim.Native.Nat.{ℕ, zero, suc, ◌+◌, ◌-◌, ◌*◌, ◌/◌, ◌%◌, ◌^◌, ◌<◌, ◌≤◌}
use native.Mathlib.Nat.{add_comm, add-mul-mod_self_right, mod-eq_of_lt, mod-le, div-eq_of_lt, mul_assoc, zero-mul, add-zero, div-add-mod', div-lt_iff_lt-mul, lt_of_lt_of_le, lt_of_le_of_lt, lt_trans, sub-le}
use native.Mathlib.Omega.{arith}
use mathlib.Core.Path.{◌≡◌, refl, sym, ap, subst, ◌∙◌}
use mathlib.Core.Bool.{Bool, true, false, cond}
use borrow.Author.Tests.{ltb-true, ltb-false}
use lib.Dec.{ltb, lit<, lit≤}
use lib.Pow.{pow-add, pow_mono, mod-mod-pow, shl_lt}
use lib.Ieee.{Format, binary32, binary64, prec, emax, low, hid, ones, top}
use lib.Ieee.Fits.{two}
use Rattle.format.specs.Fields.{width, negative, magnitude, exponent, fraction, sign_bit}
use Rattle.format.specs.Exponent.{places}
use Rattle.format.specs.Value.{units_at, units, Finite}
use Rattle.format.specs.Parts.{below_point, trunc_word, fract_word, written}
use Rattle.format.specs.Meaning.{IsTrunc, IsFract, UnderWidth, Under32}
use Rattle.format.proofs.Fields.{hid_pos, Made, made, three_fields, exponent_lt, fraction_lt}
use Rattle.format.proofs.Order.{sub_mul}
use Rattle.format.proofs.Parts.{moved_up, below_lt, fraction_word}

-- the sum of the two parts is the number
pub parts_sum : (f : Format) (w t r : ℕ) → IsTrunc f w t → IsFract f w r → units f t + units f r ≡ units f w
parts_sum f w t r p q = rw (p.whole, q.rest) (div-add-mod' (units f w) (2 ^ low f))

-- ---- a number below 1

-- 2 ^ prec f is what a significand is below
pub full : (f : Format) (t : ℕ) → t < hid f → hid f + t < 2 ^ prec f
full binary32 t h = omega arith
full binary64 t h = omega arith

one_weighs : (f : Format) (y : ℕ) → suc y < emax f → prec f + y ≤ low f
one_weighs f y h = omega (arith, two f)

smaller : (f : Format) → hid f ≤ 2 ^ low f
smaller f = pow_mono (let h : prec f - 1 ≤ low f = low_enough f in h)
  where
    low_enough : (f : Format) → prec f - 1 ≤ low f
    low_enough binary32 = lit≤ tt
    low_enough binary64 = lit≤ tt

pub under_one : (f : Format) (x t : ℕ) → x < emax f → t < hid f → units_at f x t < 2 ^ low f
under_one f zero t h k = lt_of_lt_of_le k (smaller f)
under_one f (suc y) t h k = lt_of_lt_of_le (shl_lt (prec f) y (full f t k)) (pow_mono (one_weighs f y h))

-- ---- a number from 1 on: c places above the point, of p

-- the weight of a significand's last place, and of the point
weights : (f : Format) (x : ℕ) → emax f ≤ suc x → low f - x ≡ prec f - 1 - (suc x - emax f)
weights f x h = omega (arith, two f)

module _ (a y l q : ℕ) (d : l - y ≡ q) where
  rest_of : a * 2 ^ y % 2 ^ l ≡ a % 2 ^ q * 2 ^ y
  rest_of = moved_up a y l ∙ ap (λ (k : ℕ). a % 2 ^ k * 2 ^ y) d

  whole_of : a * 2 ^ y / 2 ^ l * 2 ^ l ≡ (a - a % 2 ^ q) * 2 ^ y
  whole_of = left (div-add-mod' (a * 2 ^ y) (2 ^ l)) rest_of (sub_mul a (a % 2 ^ q) (2 ^ y))
    where
      left : {u r n m k : ℕ} → u + r ≡ n → r ≡ m → k ≡ n - m → u ≡ k
      left h i j = omega arith

-- the leading digit has no share in what is below its own place
lead_off : (p q t : ℕ) → q ≤ p → (2 ^ p + t) % 2 ^ q ≡ t % 2 ^ q
lead_off p q t h =
    ap (λ (k : ℕ). (2 ^ k + t) % 2 ^ q) (let e : p ≡ p - q + q = omega arith in e)
    ∙ ap (λ (n : ℕ). (n + t) % 2 ^ q) (pow-add 2 (p - q) q)
    ∙ ap (λ (n : ℕ). n % 2 ^ q) (add_comm (2 ^ (p - q) * 2 ^ q) t)
    ∙ add-mul-mod_self_right t (2 ^ (p - q)) (2 ^ q)

-- what the word has below the point, its fraction has
below_of : (f : Format) (w q : ℕ) → q ≤ prec f - 1 → w % 2 ^ q ≡ fraction f w % 2 ^ q
below_of f w q h =
    sym (ap (λ (k : ℕ). w % 2 ^ k % 2 ^ q) (let e : prec f - 1 ≡ prec f - 1 - q + q = omega arith in e) ∙ mod-mod-pow w (prec f - 1 - q) q)

-- ---- the units of the two parts, by the fields

abbrev left : Format → ℕ → ℕ
left f x = prec f - 1 - (x - emax f)

never : (f : Format) → emax f ≤ 0 → ⊥
never binary32 h = omega arith
never binary64 h = omega arith

past_whole : (f : Format) (x t : ℕ) → emax f ≤ x → units_at f x (t - t % 2 ^ left f x) ≡ units_at f x t / 2 ^ low f * 2 ^ low f
past_whole f zero t h = absurd (never f h)
past_whole f (suc y) t h =
    let q = left f (suc y) in
    let off : (hid f + t) % 2 ^ q ≡ t % 2 ^ q = lead_off (prec f - 1) q t (sub-le (prec f - 1) (suc y - emax f)) in
    let cut : hid f + (t - t % 2 ^ q) ≡ hid f + t - t % 2 ^ q = omega (arith, mod-le t (2 ^ q)) in
    ap (λ (n : ℕ). n * 2 ^ y) (cut ∙ ap (λ (n : ℕ). hid f + t - n) (sym off))
    ∙ sym (whole_of (hid f + t) y (low f) q (weights f y h))

past_rest : (f : Format) (x t : ℕ) → emax f ≤ x → units_at f x t % 2 ^ low f ≡ t % 2 ^ left f x * 2 ^ (x - emax f) * 2 ^ (emax f - 1)
past_rest f zero t h = absurd (never f h)
past_rest f (suc y) t h =
    let q = left f (suc y) in
    let c = suc y - emax f in
    let split : y ≡ c + (emax f - 1) = joined (emax f) h (emax_pos f) in
    rest_of (hid f + t) y (low f) q (weights f y h)
    ∙ ap (λ (n : ℕ). n * 2 ^ y) (lead_off (prec f - 1) q t (sub-le (prec f - 1) c))
    ∙ ap (λ (k : ℕ). t % 2 ^ q * 2 ^ k) split
    ∙ ap (λ (n : ℕ). t % 2 ^ q * n) (pow-add 2 c (emax f - 1))
    ∙ sym (mul_assoc (t % 2 ^ q) (2 ^ c) (2 ^ (emax f - 1)))
  where
    emax_pos : (f : Format) → 0 < emax f
    emax_pos binary32 = lit< tt
    emax_pos binary64 = lit< tt

    joined : (e : ℕ) → e ≤ suc y → 0 < e → y ≡ suc y - e + (e - 1)
    joined e a b = omega arith

units_of : (f : Format) (s : Bool) (x t r : ℕ) → Made f s x t r → units f r ≡ units_at f x t
units_of f s x t r m = rw (m.field, m.digits)

-- ---- the two laws

-- where a count of places is not taken down by the word's width
abbrev pub InWidth : Format → ℕ → Type 0
InWidth f w = exponent f w < emax f + width f

width_below : (f : Format) → emax f + width f < ones f
width_below binary32 = lit< tt
width_below binary64 = lit< tt

width_finite : (f : Format) (w : ℕ) → InWidth f w → Finite f w
width_finite f w h = lt_trans h (width_below f)

place_is : (f : Format) (w : ℕ) → InWidth f w → places f w ≡ exponent f w - emax f
place_is f w h = mod-eq_of_lt (omega (arith, width_pos f))
  where
    width_pos : (f : Format) → 0 < width f
    width_pos binary32 = lit< tt
    width_pos binary64 = lit< tt

below_is : (f : Format) (w : ℕ) → InWidth f w → below_point f w ≡ fraction f w % 2 ^ left f (exponent f w)
below_is f w h =
    ap (λ (c : ℕ). w % 2 ^ (prec f - 1 - c)) (place_is f w h)
    ∙ below_of f w (left f (exponent f w)) (sub-le (prec f - 1) (exponent f w - emax f))

pub small_units : (f : Format) (w : ℕ) → exponent f w < emax f → units f w < 2 ^ low f
small_units f w h = under_one f (exponent f w) (fraction f w) h (fraction_lt f w)

pub trunc_is : (f : Format) (w : ℕ) → w < 2 * top f → InWidth f w → IsTrunc f w (trunc_word f w)
trunc_is f w l h = go (ltb (exponent f w) (emax f)) refl
  where
    go : (b : Bool) → ltb (exponent f w) (emax f) ≡ b → IsTrunc f w (cond b (sign_bit f (negative f w)) (w - below_point f w))
    go true e =
        let s = negative f w in
        let z : Made f s 0 0 (sign_bit f s) = subst (Made f s 0 0) (rw (zero-mul (hid f), add-zero 0) (add-zero (sign_bit f s))) (made f s 0 0 (omega arith) (hid_pos f)) in
        record {
          finite = subst (λ (x : ℕ). x < ones f) (sym z.field) (omega arith);
          sign = z.sign;
          whole = units_of f s 0 0 (sign_bit f s) z ∙ sym (ap (λ (n : ℕ). n * 2 ^ low f) (div-eq_of_lt (small_units f w (ltb-true _ _ e))) ∙ zero-mul (2 ^ low f));
        }
    go false e =
        let s = negative f w in
        let x = exponent f w in
        let t = fraction f w in
        let b = t % 2 ^ left f x in
        let made_of : w - below_point f w ≡ sign_bit f s + (x * hid f + (t - b)) =
        ap (λ (n : ℕ). w - n) (below_is f w h) ∙ dropped (sign_bit f s) (x * hid f) t b (three_fields f w l) (mod-le t (2 ^ left f x)) in
        let m : Made f s x (t - b) (w - below_point f w) =
        subst (Made f s x (t - b)) (sym made_of) (made f s x (t - b) (exponent_lt f w) (lt_of_le_of_lt (sub-le t b) (fraction_lt f w))) in
        record {
          finite = subst (λ (y : ℕ). y < ones f) (sym m.field) (width_finite f w h);
          sign = m.sign;
          whole = units_of f s x (t - b) (w - below_point f w) m ∙ past_whole f x t (ltb-false _ _ e);
        }
      where
        dropped : (B M t b : ℕ) {w : ℕ} → B + (M + t) ≡ w → b ≤ t → w - b ≡ B + (M + (t - b))
        dropped B M t b i j = omega arith

pub fract_is : (f : Format) (w : ℕ) → InWidth f w → IsFract f w (fract_word f w)
fract_is f w h = go (ltb (exponent f w) (emax f)) refl
  where
    go : (b : Bool) → ltb (exponent f w) (emax f) ≡ b
        → IsFract f w (cond b w (sign_bit f (negative f w) + written f (below_point f w * 2 ^ places f w * 2 ^ (emax f - 1))))
    go true e = record { finite = width_finite f w h; sign = refl; rest = sym (mod-eq_of_lt (small_units f w (ltb-true _ _ e))) }
    go false e =
        let x = exponent f w in
        let t = fraction f w in
        let b = below_point f w * 2 ^ places f w in
        let z = fraction_word f (negative f w) b (below_lt f w) in
        record {
          finite = z.finite;
          sign = z.sign;
          rest = z.count ∙ ap (λ (n : ℕ). n * 2 ^ (emax f - 1)) (ap (λ (n : ℕ). n * 2 ^ places f w) (below_is f w h) ∙ ap (λ (c : ℕ). t % 2 ^ left f x * 2 ^ c) (place_is f w h)) ∙ sym (past_rest f x t (ltb-false _ _ e));
        }

-- by the magnitude: |x| under 2 ^ 32, or 2 ^ 64
in_width : (f : Format) (w : ℕ) → UnderWidth f w → InWidth f w
in_width f w h = (div-lt_iff_lt-mul (hid_pos f)).1 h

pub trunc_under : (f : Format) (w : ℕ) → w < 2 * top f → UnderWidth f w → IsTrunc f w (trunc_word f w)
trunc_under f w l h = trunc_is f w l (in_width f w h)

pub fract_under : (f : Format) (w : ℕ) → UnderWidth f w → IsFract f w (fract_word f w)
fract_under f w h = fract_is f w (in_width f w h)

-- in the gates' own words
pub under32_is : (w : ℕ) → (Under32 w → UnderWidth binary32 w) × (UnderWidth binary32 w → Under32 w)
under32_is w = ((λ h. h), (λ h. h))

pub under64_is : (w : ℕ) → (magnitude binary64 w < 0x43f0_0000_0000_0000 → UnderWidth binary64 w) × (UnderWidth binary64 w → magnitude binary64 w < 0x43f0_0000_0000_0000)
under64_is w = ((λ h. h), (λ h. h))
