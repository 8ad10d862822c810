-- IEEE 754's comparison as an order of words: of two words whose sign is clear and that are no NaN the lower one is the smaller number, and a word
-- whose magnitude is no more than b is a number from -b to b. Assumes nothing.
use Prim.Native.Nat.{ℕ, zero, suc, ◌+◌, ◌*◌, ◌^◌, ◌≤◌, ◌<◌}
use native.Mathlib.Nat.{le_trans, le_of_eq, le_of_lt, lt_of_le_of_lt, eq-or-lt_of_le, mod-eq_of_lt, mul-le-mul_right, div-lt_iff_lt-mul}
use native.Mathlib.Omega.{arith}
use mathlib.Core.Path.{◌≡◌, refl, sym, ap, ◌∙◌}
use mathlib.Core.Logic.{◌⊎◌, inl, inr}
use mathlib.Core.Bool.{Bool, true, false, not, ◌&&◌, ◌||◌, true≢false, false≢true}
use borrow.Author.Tests.{ltb-false, leb-false, lt-ltb, le-ltb, le-leb, lt-leb, eq-eqb, ne_eqb}
use lib.Dec.{leb, ltb, eqb, eqb-zero-suc, eqb-suc-zero, lit<, lit≤}
use lib.Pow.{pow_pos}
use lib.Ieee.{Format, binary32, binary64, Float, nan, inf, fin, up, down, low, top, below, level, lt, eq, le, is_nan, of_bits, nan_bits}
use lib.Ieee.Bits.{nan_bits_is, nan_bits_above}
use lib.Ieee.Exact.{HasValue}
use Rattle.format.specs.Fields.{negative, magnitude, inf_word}
use Rattle.format.specs.Sign.{turned_word}
use Rattle.format.specs.Value.{units, Finite}
use Rattle.format.specs.Ordered.{Unsigned, NoLarger, Within}
use Rattle.format.proofs.Fields.{hid_pos}
use Rattle.format.proofs.Order.{either, leb_is}
use Rattle.format.proofs.Larger.{units_mono, units_test}
use Rattle.format.proofs.Nan.{finite_number}
use Rattle.format.proofs.AtLeastZero.{inf_lt, same_test}
use Rattle.format.proofs.Normal.{below_top, finite_below}
use Rattle.format.proofs.Sign.{turned_sign, turned_field, turned_units}
use Rattle.format.proofs.Value.{word_value, lt_values}

-- ---- no NaN on either side: x <= y just where y < x does not hold

module _ (a b : ℕ) where
  same_sign : (ltb a b || (eqb a b && true)) ≡ not (ltb b a)
  same_sign = go (either a b)
    where
      level_or : (a ≡ b) ⊎ (a < b) → (ltb a b || (eqb a b && true)) ≡ true
      level_or (inl e) = rw (le-ltb a b (le_of_eq (sym e)), eq-eqb a b e)
      level_or (inr l) = rw (lt-ltb a b l)

      go : (a ≤ b) ⊎ (b < a) → (ltb a b || (eqb a b && true)) ≡ not (ltb b a)
      go (inl h) = level_or (eq-or-lt_of_le h) ∙ sym (ap not (le-ltb b a h))
      go (inr h) = rw (le-ltb a b (le_of_lt h), ne_eqb a b (λ e. omega arith), lt-ltb b a h)

below_or_level : (s t : Bool) (a b : ℕ) → (below s a t b || level s a t b) ≡ not (below t b s a)
below_or_level false false a b = same_sign a b
below_or_level true true a b = ap (λ (e : Bool). ltb b a || (e && true)) (same_test a b b a sym sym) ∙ same_sign b a
below_or_level false true zero zero = refl
below_or_level false true zero (suc b) = rw (eqb-zero-suc b, lt-ltb 0 (suc b + 0) (omega arith))
below_or_level false true (suc a) b = rw (eqb-suc-zero a, lt-ltb 0 (b + suc a) (omega arith)) (go (eqb (suc a) b))
  where
    go : (e : Bool) → (e && false) ≡ false
    go true = refl
    go false = refl
below_or_level true false zero zero = refl
below_or_level true false zero (suc b) = rw (lt-ltb 0 (0 + suc b) (omega arith))
below_or_level true false (suc a) b = rw (lt-ltb 0 (suc a + b) (omega arith))

pub not_below : (x y : Float) → is_nan x ≡ false → is_nan y ≡ false → le x y ≡ not (lt y x)
unfolding le lt eq is_nan
not_below nan y p q = absurd (true≢false p)
not_below (inf s) nan p q = absurd (true≢false q)
not_below (fin s m e) nan p q = absurd (true≢false q)
not_below (inf true) (inf true) p q = refl
not_below (inf true) (inf false) p q = refl
not_below (inf false) (inf true) p q = refl
not_below (inf false) (inf false) p q = refl
not_below (inf true) (fin t n d) p q = refl
not_below (inf false) (fin t n d) p q = refl
not_below (fin s m e) (inf true) p q = refl
not_below (fin s m e) (inf false) p q = refl
not_below (fin s m e) (fin t n d) p q = below_or_level s t (m * up e * down d) (n * up d * down e)

read_number : (f : Format) (w : ℕ) → Finite f w → is_nan (of_bits f w) ≡ false
read_number f w h = sym (nan_bits_is f w) ∙ finite_number f w h

-- two finite words, by their signs and units
pub compared_finite : (f : Format) (w v : ℕ) → Finite f w → Finite f v
    → le (of_bits f w) (of_bits f v) ≡ not (below (negative f v) (units f v * 2 ^ low f) (negative f w) (units f w * 2 ^ low f))
compared_finite f w v h k =
    let c = pow_pos (low f) in
    not_below (of_bits f w) (of_bits f v) (read_number f w h) (read_number f v k)
    ∙ ap not (lt_values (of_bits f v) (of_bits f w) (negative f v) (negative f w) (units f v) (2 ^ low f) (units f w) (2 ^ low f) c c (word_value f v k) (word_value f w h))

-- ---- the sign clear, and no NaN

pub to_infinity : (f : Format) (w : ℕ) → Unsigned f w → w ≤ inf_word f
to_infinity f w u =
    let l : w < top f = leb-false (top f) w u.sign in
    rw (mod-eq_of_lt l) at (ltb-false (inf_word f) (magnitude f w) (sym (nan_bits_above f w) ∙ u.number))

pub from_infinity : (f : Format) (w : ℕ) → w ≤ inf_word f → Unsigned f w
from_infinity f w h =
    let l : w < top f = lt_of_le_of_lt h (inf_lt f) in
    record {
      sign = lt-leb (top f) w l;
      number = nan_bits_above f w ∙ le-ltb (inf_word f) (magnitude f w) (rw (mod-eq_of_lt l) h);
    }

infinity_read : (f : Format) → of_bits f (inf_word f) ≡ inf false
unfolding of_bits
infinity_read binary32 = refl
infinity_read binary64 = refl

module _ (f : Format) (w v : ℕ) (w_below : w < inf_word f) (v_below : v < inf_word f) where
  signs : le (of_bits f w) (of_bits f v) ≡ not (ltb (units f v * 2 ^ low f) (units f w * 2 ^ low f))
  signs =
      rw (lt-leb (top f) v (below_top f v v_below), lt-leb (top f) w (below_top f w w_below)) at (compared_finite f w v (finite_below f w w_below) (finite_below f v v_below))

  numbers : le (of_bits f w) (of_bits f v) ≡ leb w v
  numbers =
      signs ∙ ap not (units_test f v w (2 ^ low f) (pow_pos (low f)))
      ∙ rw (mod-eq_of_lt (below_top f v v_below), mod-eq_of_lt (below_top f w w_below)) (sym (leb_is w v))

below_infinity : (x : Float) → is_nan x ≡ false → le x (inf false) ≡ true
unfolding le lt eq is_nan
below_infinity nan n = absurd (true≢false n)
below_infinity (inf true) n = refl
below_infinity (inf false) n = refl
below_infinity (fin s m e) n = refl

above_finite : (x : Float) (s : Bool) (a c : ℕ) → HasValue x s a c → le (inf false) x ≡ false
unfolding le lt eq
above_finite nan s a c v = absurd v
above_finite (inf t) s a c v = absurd v
above_finite (fin t m e) s a c v = refl

-- IEEE 754 compares two such words as they stand in order
pub order_of_words : (f : Format) (w v : ℕ) → Unsigned f w → Unsigned f v → le (of_bits f w) (of_bits f v) ≡ leb w v
order_of_words f w v p q = go (eq-or-lt_of_le (to_infinity f w p)) (eq-or-lt_of_le (to_infinity f v q))
  where
    go : (w ≡ inf_word f) ⊎ (w < inf_word f) → (v ≡ inf_word f) ⊎ (v < inf_word f) → le (of_bits f w) (of_bits f v) ≡ leb w v
    go w_is (inl e) =
        ap (le (of_bits f w)) (ap (of_bits f) e ∙ infinity_read f) ∙ below_infinity (of_bits f w) (sym (nan_bits_is f w) ∙ p.number)
        ∙ sym (le-leb w v (rw e (to_infinity f w p)))
    go (inl d) (inr l) =
        ap (λ (x : Float). le x (of_bits f v)) (ap (of_bits f) d ∙ infinity_read f) ∙ above_finite (of_bits f v) _ _ _ (word_value f v (finite_below f v l))
        ∙ sym (lt-leb w v (rw d l))
    go (inr k) (inr l) = numbers f w v k l

pub no_larger : (f : Format) (r s : ℕ) → r ≤ s → s ≤ inf_word f → NoLarger f r s
no_larger f r s h k =
    let i : r ≤ inf_word f = le_trans h k in
    let size : (x : ℕ) → x ≤ inf_word f → magnitude f x ≡ x = λ x l. mod-eq_of_lt (lt_of_le_of_lt l (inf_lt f)) in
    record {
      words = h;
      amounts = units_mono f r s (rw (size r i, size s k) h);
      compared = order_of_words f r s (from_infinity f r i) (from_infinity f s k) ∙ le-leb r s h;
    }

-- ---- from -b to b

pub within : (f : Format) (b r : ℕ) → b < inf_word f → magnitude f r ≤ b → Within f b r
within f b r h k =
    let c = 2 ^ low f in
    let own : magnitude f b ≡ b = mod-eq_of_lt (below_top f b h) in
    let amount : units f r ≤ units f b = units_mono f r b (rw own k) in
    let b_finite = finite_below f b h in
    let r_finite : Finite f r = (div-lt_iff_lt-mul (hid_pos f)).1 (lt_of_le_of_lt k h) in
    let turned_finite : Finite f (turned_word f b) = rw (turned_field f b) b_finite in
    let clear : negative f b ≡ false = lt-leb (top f) b (below_top f b h) in
    record {
      size = k;
      amount = amount;
      least = compared_finite f (turned_word f b) r turned_finite r_finite
          ∙ rw (turned_units f b, turned_sign f b, clear) (not_under (negative f r) (units f r * c) (units f b * c) (mul-le-mul_right c amount));
      most = compared_finite f r b r_finite b_finite ∙ rw clear (not_over (negative f r) (units f r * c) (units f b * c) (mul-le-mul_right c amount));
    }
  where
    not_under : (s : Bool) (x y : ℕ) → x ≤ y → not (below s x true y) ≡ true
    not_under true x y l = ap not (le-ltb y x l)
    not_under false x y l = refl

    not_over : (s : Bool) (x y : ℕ) → x ≤ y → not (below false y s x) ≡ true
    not_over true x y l = refl
    not_over false x y l = ap not (le-ltb y x l)

-- ---- known words

-- both ends of what is unsigned, and the words next to them: a NaN, -0 and the last word of all
pub unsigned_ends : Unsigned binary32 0x0000_0000 × Unsigned binary32 0x7f80_0000
    × (Unsigned binary32 0x7f80_0001 → ⊥) × (Unsigned binary32 0x8000_0000 → ⊥) × (Unsigned binary32 0xffff_ffff → ⊥)
unfolding nan_bits
unsigned_ends = (record { sign = refl; number = refl }, record { sign = refl; number = refl }, λ u. true≢false u.number, λ u. true≢false u.sign, λ u. true≢false u.sign)

-- 1 is no larger than itself; the next number is larger than 1, and a NaN is neither
pub larger_than_one : NoLarger binary32 0x3f80_0000 0x3f80_0000 × (NoLarger binary32 0x3f80_0001 0x3f80_0000 → ⊥) × (NoLarger binary32 0x3f80_0000 0x7fc0_0000 → ⊥)
unfolding le lt eq of_bits
larger_than_one = (no_larger binary32 0x3f80_0000 0x3f80_0000 (lit≤ tt) (lit≤ tt), λ n. false≢true n.compared, λ n. false≢true n.compared)

-- from -1 to 1: both ends, and the words next to them; a NaN is not
pub ends_of_one : Within binary32 0x3f80_0000 0x3f80_0000 × Within binary32 0x3f80_0000 0xbf80_0000
    × (Within binary32 0x3f80_0000 0x3f80_0001 → ⊥) × (Within binary32 0x3f80_0000 0xbf80_0001 → ⊥) × (Within binary32 0x3f80_0000 0x7fc0_0000 → ⊥)
unfolding le lt eq of_bits
ends_of_one = (
  within binary32 0x3f80_0000 0x3f80_0000 (lit< tt) (lit≤ tt),
  within binary32 0x3f80_0000 0xbf80_0000 (lit< tt) (lit≤ tt),
  λ i. false≢true i.most,
  λ i. false≢true i.least,
  λ i. false≢true i.most,
)
