-- A word's cast to an integer, by its units: the whole part with the word's sign, held within the range; and the two
-- ranges of a 32-bit word's exponent field that its cast to a 32-bit integer goes by. Assumes nothing.
use Prim.Native.Nat.{ℕ, zero, suc, ◌+◌, ◌-◌, ◌*◌, ◌/◌, ◌^◌, ◌<◌, ◌≤◌, min}
use native.Mathlib.Nat.{mul_assoc, mod-lt, div-eq_of_lt, lt_of_lt_of_le, le_trans, mul-le-mul_left, mul-le-mul_right, div-lt_iff_lt-mul, eq-or-lt_of_le}
use native.Mathlib.Omega.{arith}
use mathlib.Core.Path.{◌≡◌, refl, sym, ap, subst, ◌∙◌}
use mathlib.Core.Logic.{◌⊎◌, inl, inr}
use mathlib.Core.Bool.{Bool, true, false, cond}
use lib.IntN.{ℤ, pos, negsuc, neg_ℤ}
use borrow.Author.Tests.{ltb-true, ltb-false}
use lib.Dec.{ltb, lit<, lit≤}
use lib.Pow.{pow_pos, pow-add, pow_mono}
use lib.Ieee.{Format, binary32, Float, nan, inf, fin, low, of_bits, nan_bits, to_signed}
use lib.Ieee.Exact.{HasValue}
use lib.Ieee.Nearest.{div_same, div_mono}
use Rattle.format.specs.Fields.{negative, exponent, fraction}
use Rattle.format.specs.Value.{units_at, units, Finite}
use Rattle.format.proofs.Nan.{nan_read, inf_read}
use Rattle.format.proofs.Value.{word_value, whole_part}

-- the integer of a sign and a whole magnitude, with h bits beside the sign
abbrev pub held : ℕ → Bool → ℕ → ℤ
held h s n = cond s (neg_ℤ (pos (min n (2 ^ h)))) (pos (min n (2 ^ h - 1)))

pub value_cast : (h : ℕ) (x : Float) (s : Bool) (a c : ℕ) → 0 < c → HasValue x s a c → to_signed h x ≡ held h s (a / c)
unfolding to_signed
value_cast h nan s a c p v = absurd v
value_cast h (inf t) s a c p v = absurd v
value_cast h (fin t m e) s a c p v = ap (λ (n : ℕ). held h t n) (whole_part m e a c p v.1) ∙ ap (λ (b : Bool). held h b (a / c)) v.0

pub word_cast : (f : Format) (h w : ℕ) → Finite f w → to_signed h (of_bits f w) ≡ held h (negative f w) (units f w / 2 ^ low f)
word_cast f h w p = value_cast h (of_bits f w) (negative f w) (units f w) (2 ^ low f) (pow_pos (low f)) (word_value f w p)

-- ---- binary32 to a 32-bit integer

pub nan_cast : (h : ℕ) (x : Float) → x ≡ nan → to_signed h x ≡ pos 0
unfolding to_signed
nan_cast h x e = rw e

-- up to 2 ^ 31 the significand, moved to the top of a word, comes down by 158 less the field
same_weight : (a x : ℕ) → x ≤ 157 → a * 2 ^ 8 * 2 ^ 149 ≡ a * 2 ^ x * 2 ^ (157 - x)
same_weight a x h =
    mul_assoc a (2 ^ 8) (2 ^ 149)
    ∙ ap (λ (k : ℕ). a * 2 ^ k) (let e : 157 ≡ x + (157 - x) = omega arith in e)
    ∙ ap (λ (k : ℕ). a * k) (pow-add 2 x (157 - x))
    ∙ sym (mul_assoc a (2 ^ x) (2 ^ (157 - x)))

-- a word moved down by as much as its width is nothing
all_gone : (n k : ℕ) → n < 2 ^ 32 → 32 ≤ k → n / 2 ^ k ≡ 0
all_gone n k h l = div-eq_of_lt (lt_of_lt_of_le h (pow_mono l))

abbrev topped : ℕ → ℕ
topped t = (2 ^ 23 + t) * 2 ^ 8

topped_lt : (t : ℕ) → t < 2 ^ 23 → topped t < 2 ^ 32
topped_lt t h = omega arith

in_range : (x t : ℕ) → x ≤ 157 → t < 2 ^ 23 → topped t / 2 ^ (158 - x) ≡ units_at binary32 x t / 2 ^ 149
in_range zero t h k = all_gone (topped t) 158 (topped_lt t k) (lit≤ tt) ∙ sym (div-eq_of_lt (lt_of_lt_of_le k (lit≤ tt)))
in_range (suc x) t h k =
    ap (λ (c : ℕ). topped t / 2 ^ c) (let e : 158 - suc x ≡ 157 - x = omega arith in e)
    ∙ div_same (topped t) (2 ^ (157 - x)) ((2 ^ 23 + t) * 2 ^ x) (2 ^ 149) (pow_pos (157 - x)) (lit< tt) (same_weight (2 ^ 23 + t) x (omega arith))

pub past_range : (x t : ℕ) → 158 ≤ x → 2 ^ 31 ≤ units_at binary32 x t / 2 ^ 149
past_range zero t h = absurd (let z : ⊥ = omega arith in z)
past_range (suc x) t h = div_mono (2 ^ 180) (2 ^ 149) ((2 ^ 23 + t) * 2 ^ x) (2 ^ 149) (lit< tt) (lit< tt) (mul-le-mul_right (2 ^ 149) (le_trans (mul-le-mul_left (2 ^ 23) (pow_mono {i = 157} {j = x} (omega arith))) (mul-le-mul_right (2 ^ x) (omega arith))))

-- ---- what the cast is in each range

abbrev pub Casts : ℕ → ℤ → Type 0
Casts w z = to_signed 31 (of_bits binary32 w) ≡ z

pub nan_casts : (w : ℕ) → nan_bits binary32 w ≡ true → Casts w (pos 0)
nan_casts w e = nan_cast 31 (of_bits binary32 w) (nan_read binary32 w e)

finite_casts : (w n : ℕ) → exponent binary32 w < 255 → units binary32 w / 2 ^ 149 ≡ n → Casts w (held 31 (negative binary32 w) n)
finite_casts w n h e = word_cast binary32 31 w h ∙ ap (held 31 (negative binary32 w)) e

-- the whole part as the code forms it: the shift is held below the width of two words
abbrev pub shifted : ℕ → ℕ
shifted w = topped (fraction binary32 w) / 2 ^ min (158 - exponent binary32 w) 63

shifted_is : (w : ℕ) → shifted w ≡ topped (fraction binary32 w) / 2 ^ (158 - exponent binary32 w)
shifted_is w = go (ltb k 63) refl
  where
    k : ℕ
    k = 158 - exponent binary32 w

    t_lt : fraction binary32 w < 2 ^ 23
    t_lt = mod-lt w (lit< tt)

    go : (b : Bool) → ltb k 63 ≡ b → topped (fraction binary32 w) / 2 ^ min k 63 ≡ topped (fraction binary32 w) / 2 ^ k
    go true e = ap (λ (n : ℕ). topped (fraction binary32 w) / 2 ^ n) (let i : min k 63 ≡ k = omega (arith, ltb-true k 63 e) in i)
    go false e =
        let i : min k 63 ≡ 63 = omega (arith, ltb-false k 63 e) in
        let l : 32 ≤ k = omega (arith, ltb-false k 63 e) in
        ap (λ (n : ℕ). topped (fraction binary32 w) / 2 ^ n) i ∙ all_gone _ 63 (topped_lt _ t_lt) (lit≤ tt) ∙ sym (all_gone _ k (topped_lt _ t_lt) l)

pub shifted_lt : (w : ℕ) → exponent binary32 w ≤ 157 → shifted w < 2 ^ 31
shifted_lt w h =
    let k = 158 - exponent binary32 w in
    let step : 1 ≤ k = omega arith in
    subst (λ (n : ℕ). n < 2 ^ 31) (sym (shifted_is w))
    ((div-lt_iff_lt-mul (pow_pos k)).1 (lt_of_lt_of_le {m = 2 ^ 31 * 2 ^ 1} (topped_lt _ (mod-lt w (lit< tt))) (mul-le-mul_left (2 ^ 31) (pow_mono step))))

held_within : (s : Bool) (n : ℕ) → n < 2 ^ 31 → held 31 s n ≡ cond s (neg_ℤ (pos n)) (pos n)
held_within true n h = ap (λ (k : ℕ). neg_ℤ (pos k)) (let e : min n (2 ^ 31) ≡ n = omega arith in e)
held_within false n h = ap pos (let e : min n (2 ^ 31 - 1) ≡ n = omega arith in e)

pub range_casts : (w : ℕ) → exponent binary32 w ≤ 157 → Casts w (cond (negative binary32 w) (neg_ℤ (pos (shifted w))) (pos (shifted w)))
range_casts w h =
    finite_casts w (shifted w) (omega arith) (sym (shifted_is w ∙ in_range (exponent binary32 w) (fraction binary32 w) h (mod-lt w (lit< tt))))
    ∙ held_within (negative binary32 w) (shifted w) (shifted_lt w h)

-- an end of the range, by the sign
abbrev pub clipped : Bool → ℤ
clipped s = cond s (negsuc (2 ^ 31 - 1)) (pos (2 ^ 31 - 1))

held_past : (s : Bool) (n : ℕ) → 2 ^ 31 ≤ n → held 31 s n ≡ clipped s
held_past true n h = ap (λ (k : ℕ). neg_ℤ (pos k)) (let e : min n (2 ^ 31) ≡ 2 ^ 31 = omega arith in e)
held_past false n h = ap pos (let e : min n (2 ^ 31 - 1) ≡ 2 ^ 31 - 1 = omega arith in e)

inf_cast : (s : Bool) → to_signed 31 (inf s) ≡ clipped s
unfolding to_signed
inf_cast true = refl
inf_cast false = refl

pub past_casts : (w : ℕ) → nan_bits binary32 w ≡ false → 158 ≤ exponent binary32 w → Casts w (clipped (negative binary32 w))
past_casts w n h = go (eq-or-lt_of_le (field_le w))
  where
    field_le : (w : ℕ) → exponent binary32 w ≤ 255
    field_le w = omega arith

    go : (exponent binary32 w ≡ 255) ⊎ (exponent binary32 w < 255) → Casts w (clipped (negative binary32 w))
    go (inl e) = ap (to_signed 31) (inf_read binary32 w e n) ∙ inf_cast (negative binary32 w)
    go (inr l) = finite_casts w (units binary32 w / 2 ^ 149) l refl ∙ held_past (negative binary32 w) (units binary32 w / 2 ^ 149) (past_range (exponent binary32 w) (fraction binary32 w) h)
