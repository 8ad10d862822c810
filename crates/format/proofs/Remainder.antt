-- What is left of a finite word by another that is no zero is the word with the first's sign whose units are what is left of the first's
-- units by the second's; and a word below the infinity by its place and its digits, where the digits of a word in place 0 may be few.
-- Assumes nothing.
use Rattle.std.proofs.Common.{zero-le}
use Prim.Native.Nat.{ℕ, zero, suc, ◌+◌, ◌-◌, ◌*◌, ◌/◌, ◌%◌, ◌^◌, ◌<◌, ◌≤◌}
use native.Mathlib.Nat.{lt_irrefl, zero-lt-suc, zero-div, lt_of_le_of_lt, div-lt_iff_lt-mul, mul-pos, mul_comm, mul_assoc, mul_right_comm, mul-one, zero-mul, add-mul, mul-lt-mul_of_pos_right, mod-lt, div-eq_of_lt, mod-eq_of_lt, div-add-mod', add-sub_of_le}
use native.Mathlib.Omega.{arith}
use mathlib.Core.Path.{◌≡◌, refl, sym, ap, subst, ◌∙◌}
use mathlib.Core.Logic.{◌⊎◌, inl, inr}
use mathlib.Core.Bool.{Bool, true, false}
use borrow.Author.Tests.{ne_eqb}
use lib.Arith.{digits_mod}
use lib.Pow.{pow_pos}
use lib.Ieee.{Format, Float, nan, inf, fin, up, down, low, hid, top, ones, rem, of_bits, nan_bits}
use lib.Ieee.Exact.{HasValue}
use lib.Ieee.Fits.{up_pos, down_pos}
use Rattle.format.specs.Fields.{negative, magnitude, exponent, sign_bit, inf_word}
use Rattle.format.specs.Sign.{copysign_word}
use Rattle.format.specs.Value.{units, Finite}
use Rattle.format.proofs.Exact.{round_word}
use Rattle.format.proofs.Fields.{hid_pos, top_pos, magnitude_lt, low_of_magnitude, sign_of, exponent_of, fraction_of}
use Rattle.format.proofs.Larger.{units_strict}
use Rattle.format.proofs.Nan.{nan_read, inf_read}
use Rattle.format.proofs.Value.{word_value}
use Rattle.format.proofs.Normal.{units_of, below_top, finite_below}
use Rattle.format.proofs.Order.{either}

-- what is left keeps its share of both
pub scaled : (a b c : ℕ) → 0 < b → 0 < c → a % b * c ≡ a * c % (b * c)
scaled a b c p q = sym (ap (λ (z : ℕ). z % (b * c)) split ∙ digits_mod (a / b) (mul-lt-mul_of_pos_right (mod-lt a p) q))
  where
    split : a * c ≡ a / b * (b * c) + a % b * c
    split = ap (λ (z : ℕ). z * c) (sym (div-add-mod' a b)) ∙ add-mul (a / b * b) (a % b) c ∙ ap (λ (z : ℕ). z + a % b * c) (mul_assoc (a / b) b c)

part_pos : (x y z : ℕ) → 0 < z → x * y ≡ z → 0 < x
part_pos zero y z p e = subst (λ (w : ℕ). 0 < w) (sym e ∙ zero-mul y) p
part_pos (suc x) y z p e = omega arith

pub remainder_is : (f : Format) (x y : Float) (t : Bool) (a b r : ℕ) → HasValue x (negative f r) a (2 ^ low f) → HasValue y t b (2 ^ low f) → 0 < b → Finite f r → units f r ≡ a % b
    → rem f x y ≡ of_bits f r
unfolding rem
remainder_is f nan y t a b r v u p h e = absurd v
remainder_is f (inf i) y t a b r v u p h e = absurd v
remainder_is f (fin i m d) nan t a b r v u p h e = absurd u
remainder_is f (fin i m d) (inf j) t a b r v u p h e = absurd u
remainder_is f (fin i m d) (fin j n k) t a b r v u p h e =
    rw (v.0, ne_eqb n 0 (λ z. no_zero z))
    (round_word f r (m * up d * down k % (n * up k * down d)) (down d * down k) h both (scaled (m * up d * down k) (n * up k * down d) (2 ^ low f) some (pow_pos (low f))
    ∙ ap_2 first second ∙ sym (scaled a b (down d * down k) p both) ∙ ap (λ (z : ℕ). z * (down d * down k)) (sym e)))
  where
    both : 0 < down d * down k
    both = mul-pos (down_pos d) (down_pos k)

    counted : 0 < n * up k
    counted = part_pos (n * up k) (2 ^ low f) (b * down k) (mul-pos p (down_pos k)) u.1

    no_zero : n ≡ 0 → ⊥
    no_zero z = lt_irrefl 0 (subst (λ (x : ℕ). 0 < x) (ap (λ (x : ℕ). x * up k) z ∙ zero-mul (up k)) counted)

    some : 0 < n * up k * down d
    some = mul-pos counted (down_pos d)

    first : m * up d * down k * 2 ^ low f ≡ a * (down d * down k)
    first = mul_right_comm (m * up d) (down k) (2 ^ low f) ∙ ap (λ (z : ℕ). z * down k) v.1 ∙ mul_assoc a (down d) (down k)

    second : n * up k * down d * 2 ^ low f ≡ b * (down d * down k)
    second = mul_right_comm (n * up k) (down d) (2 ^ low f) ∙ ap (λ (z : ℕ). z * down d) u.1 ∙ mul_assoc b (down k) (down d) ∙ ap (λ (z : ℕ). b * z) (mul_comm (down k) (down d))

    ap_2 : {x y z w : ℕ} → x ≡ y → z ≡ w → x % z ≡ y % w
    ap_2 g h = rw (g, h)

pub units_by_place : (f : Format) (w p d : ℕ) → w < inf_word f → w ≡ p * hid f + d → d < 2 * hid f → (0 < p → hid f ≤ d) → units f w ≡ d * 2 ^ p
units_by_place f w p d h e l n = go p (either (hid f) d) e n
  where
    go : (p : ℕ) → (hid f ≤ d) ⊎ (d < hid f) → w ≡ p * hid f + d → (0 < p → hid f ≤ d) → units f w ≡ d * 2 ^ p
    go p (inl q) e n = units_of f w p (d - hid f) h (omega arith) (omega arith) ∙ ap (λ (z : ℕ). z * 2 ^ p) (add-sub_of_le q)
    go zero (inr q) e n = let z : w ≡ d = omega arith in rw (mod-eq_of_lt (below_top f w h), z, div-eq_of_lt q, mod-eq_of_lt q) (sym (mul-one d))
    go (suc p) (inr q) e n = absurd (let z : hid f ≤ d = n (omega arith) in omega arith)

-- ---- by words

-- a word without its sign is as many units
units_unsigned : (f : Format) (w : ℕ) → units f (magnitude f w) ≡ units f w
units_unsigned f w = rw (mod-eq_of_lt (magnitude_lt f w), low_of_magnitude f w)

-- and with one
units_signed : (f : Format) (s : Bool) (m : ℕ) → m < top f → units f (sign_bit f s + m) ≡ units f m
units_signed f s m h = rw (exponent_of f m h s, fraction_of f m h s, mod-eq_of_lt h)

pub finite_magnitude : (f : Format) (w : ℕ) → Finite f w → magnitude f w < inf_word f
finite_magnitude f w h = (div-lt_iff_lt-mul (hid_pos f)).0 h

some_units : (f : Format) (w : ℕ) → 0 < magnitude f w → 0 < units f w
some_units f w h = lt_of_le_of_lt zero-le (units_strict f 0 w (subst (λ (z : ℕ). z < magnitude f w) (sym (mod-eq_of_lt (top_pos f))) h))

pub remainder_word : (f : Format) (w v r : ℕ) → Finite f w → Finite f v → 0 < magnitude f v → r < inf_word f → units f r ≡ units f (magnitude f w) % units f (magnitude f v)
    → rem f (of_bits f w) (of_bits f v) ≡ of_bits f (copysign_word f r w)
remainder_word f w v r h k p l e =
    let s = negative f w in
    let m = magnitude f r in
    let b : m < top f = magnitude_lt f r in
    remainder_is f (of_bits f w) (of_bits f v) (negative f v) (units f w) (units f v) (copysign_word f r w)
    (subst (λ (t : Bool). HasValue (of_bits f w) t (units f w) (2 ^ low f)) (sym (sign_of f m b s)) (word_value f w h))
    (word_value f v k) (some_units f v p)
    (subst (λ (x : ℕ). x < ones f) (sym (exponent_of f m b s)) (finite_below f r l))
    (units_signed f s m b ∙ units_unsigned f r ∙ e ∙ ap (λ (z : ℕ). z % units f (magnitude f v)) (units_unsigned f w) ∙ ap (λ (z : ℕ). units f w % z) (units_unsigned f v))

pub remainder_of_endless : (f : Format) (w : ℕ) (y : Float) → exponent f w ≡ ones f → rem f (of_bits f w) y ≡ nan
unfolding rem
remainder_of_endless f w y e = go (nan_bits f w) refl
  where
    go : (b : Bool) → nan_bits f w ≡ b → rem f (of_bits f w) y ≡ nan
    go true n = rw (nan_read f w n)
    go false n = rw (inf_read f w e n)

pub remainder_by_nan : (f : Format) (x : Float) (v : ℕ) → nan_bits f v ≡ true → rem f x (of_bits f v) ≡ nan
unfolding rem
remainder_by_nan f nan v n = refl
remainder_by_nan f (inf s) v n = refl
remainder_by_nan f (fin s m e) v n = rw (nan_read f v n)

pub remainder_by_endless : (f : Format) (w v : ℕ) → Finite f w → exponent f v ≡ ones f → nan_bits f v ≡ false → rem f (of_bits f w) (of_bits f v) ≡ of_bits f w
unfolding rem
remainder_by_endless f w v h e n = rw (inf_read f v e n) (go (of_bits f w) (word_value f w h))
  where
    go : (x : Float) → HasValue x (negative f w) (units f w) (2 ^ low f) → rem f x (inf (negative f v)) ≡ x
    go nan u = absurd u
    go (inf s) u = absurd u
    go (fin s m e) u = refl

by_nothing : (f : Format) (x y : Float) (s t : Bool) (a : ℕ) → HasValue x s a (2 ^ low f) → HasValue y t 0 (2 ^ low f) → rem f x y ≡ nan
unfolding rem
by_nothing f nan y s t a v u = refl
by_nothing f (inf i) y s t a v u = refl
by_nothing f (fin i m d) nan s t a v u = absurd u
by_nothing f (fin i m d) (inf j) s t a v u = absurd u
by_nothing f (fin i m d) (fin j zero k) s t a v u = refl
by_nothing f (fin i m d) (fin j (suc n) k) s t a v u = absurd (lt_irrefl 0 (subst (λ (z : ℕ). 0 < z) (u.1 ∙ zero-mul (down k)) (mul-pos (mul-pos (zero-lt-suc n) (up_pos k)) (pow_pos (low f)))))

pub remainder_by_zero : (f : Format) (w v : ℕ) → Finite f w → magnitude f v ≡ 0 → rem f (of_bits f w) (of_bits f v) ≡ nan
remainder_by_zero f w v h z = by_nothing f (of_bits f w) (of_bits f v) (negative f w) (negative f v) (units f w) (word_value f w h)
    (subst (λ (n : ℕ). HasValue (of_bits f v) (negative f v) n (2 ^ low f)) none (word_value f v finite))
  where
    finite : exponent f v < ones f
    finite = rw (z, zero-div (hid f)) (omega arith)

    none : units f v ≡ 0
    none = sym (units_unsigned f v) ∙ rw (z, mod-eq_of_lt (top_pos f), zero-div (hid f), mod-eq_of_lt (hid_pos f))
