-- What a cast to an integer did to a number: within the range the integer is its whole part, past it the last integer on its side, and of a
-- NaN 0; and what the integer is to the number tells which. The tests by a word's fields, and at the words beside each. Assumes nothing.
use Prim.Native.Nat.{ℕ, zero, suc, ◌+◌, ◌-◌, ◌*◌, ◌/◌, ◌%◌, ◌^◌, ◌<◌, ◌≤◌, min}
use native.Mathlib.Nat.{zero-mul, zero-mod, mul-pos, zero-lt-suc, mod-eq_of_lt, mul-mod_left, mul-div_cancel, div-add-mod', le_trans, lt_of_lt_of_le, le_of_lt, ne_of_lt, ne_of_gt, mul-le-mul_right, mul-le-mul_left, le-div_iff_mul-le, div-lt_iff_lt-mul, add-zero}
use native.Mathlib.Omega.{arith}
use mathlib.Core.Path.{◌≡◌, refl, sym, ap, subst, ◌∙◌}
use mathlib.Core.Bool.{Bool, true, false, ◌&&◌, ◌||◌, or-true, or-false, true≢false}
use mathlib.Core.List.{List, [], ◌∷◌, map}
use borrow.Author.Tests.{leb-true, leb-false, ltb-true, ltb-false, lt-ltb, le-ltb, eqb-true, eqb-false, ne_eqb, eq-eqb}
use lib.Dec.{leb, ltb, eqb, lit<, lit≤}
use lib.IntN.{ℤ, nat_abs}
use lib.Pow.{pow_pos, pow-add, pow_mono, shl_lt}
use lib.Ieee.{Format, binary32, binary64, inf, prec, emax, low, hid, ones, of_bits, nan_bits, to_signed}
use lib.Ieee.Fits.{two}
use Rattle.format.specs.Fields.{negative, magnitude, exponent, fraction}
use Rattle.format.specs.Exponent.{places, is_integer_word}
use Rattle.format.specs.Value.{units_at, units, Finite}
use Rattle.format.specs.Classes.{is_endless, is_zero}
use Rattle.format.specs.Parts.{below_point}
use Rattle.format.specs.Cast.{is_whole, last_size, is_past, signed, IsKept, IsCut, IsClipped, IsNothing}
use Rattle.format.proofs.Fields.{fraction_lt, two_fields}
use Rattle.format.proofs.Nan.{nan_read, inf_read, finite_number}
use Rattle.format.proofs.AtLeastZero.{units_zero}
use Rattle.format.proofs.Classes.{finite_of}
use Rattle.format.proofs.Cast.{held, nan_cast, word_cast, past_range}
use Rattle.format.proofs.Parts.{moved_up, below_lt, fraction_word}
use Rattle.format.proofs.PartsMeaning.{InWidth, full, small_units, fract_is}

-- ---- whole or not

no_units_more : (b k : ℕ) → eqb (b * 2 ^ k) 0 ≡ eqb b 0
no_units_more zero k = rw (zero-mul (2 ^ k))
no_units_more (suc b) k = ne_eqb (suc b * 2 ^ k) 0 (λ e. omega (arith, mul-pos (zero-lt-suc b) (pow_pos k))) ∙ sym (ne_eqb (suc b) 0 (λ e. omega arith))

-- below 1 a zero alone is whole
pub whole_below_one : (f : Format) (w : ℕ) → exponent f w < emax f → is_whole f w ≡ is_zero f w
whole_below_one f w h =
    ap (λ (n : ℕ). eqb n 0) (mod-eq_of_lt (small_units f w h)) ∙ sym (units_zero f w)

-- what is below the point, by the word's bits
rest_is : (f : Format) (w : ℕ) → emax f ≤ exponent f w → InWidth f w → units f w % 2 ^ low f ≡ below_point f w * 2 ^ places f w * 2 ^ (emax f - 1)
rest_is f w e h =
    sym (fract_is f w h).rest
    ∙ ap (units f) (rw (le-ltb (exponent f w) (emax f) e))
    ∙ (fraction_word f (negative f w) (below_point f w * 2 ^ places f w) (below_lt f w)).count

-- from 1 on a number is whole where micromath's test says so, as long as a count of places is not taken down by the word's width
pub whole_from_one : (f : Format) (w : ℕ) → emax f ≤ exponent f w → InWidth f w → is_whole f w ≡ is_integer_word f w
whole_from_one f w e h =
    ap (λ (n : ℕ). eqb n 0) (rest_is f w e h)
    ∙ no_units_more (below_point f w * 2 ^ places f w) (emax f - 1)
    ∙ ap (λ (n : ℕ). eqb n 0) (sym (moved_up w (places f w) (prec f - 1)))

pub whole_is : (f : Format) (w : ℕ) → InWidth f w → is_whole f w ≡ ((leb (emax f) (exponent f w) && is_integer_word f w) || is_zero f w)
whole_is f w h = go (leb (emax f) (exponent f w)) (is_zero f w) refl refl
  where
    go : (b z : Bool) → leb (emax f) (exponent f w) ≡ b → is_zero f w ≡ z → is_whole f w ≡ ((b && is_integer_word f w) || z)
    go true true e z = eq-eqb (units f w % 2 ^ low f) 0 (rw (eqb-true (units f w) 0 (sym (units_zero f w) ∙ z)) (zero-mod (2 ^ low f))) ∙ sym (or-true (is_integer_word f w))
    go true false e z = whole_from_one f w (leb-true _ _ e) h ∙ sym (or-false (is_integer_word f w))
    go false z e k = whole_below_one f w (leb-false _ _ e) ∙ k

-- ---- within the range or past it, by the exponent field

part_within : (f : Format) (h x t : ℕ) → t < hid f → x < emax f + h → units_at f x t / 2 ^ low f < 2 ^ h
part_within f h x t k l = (div-lt_iff_lt-mul (pow_pos (low f))).1 (go x l)
  where
    go : (x : ℕ) → x < emax f + h → units_at f x t < 2 ^ h * 2 ^ low f
    go zero l = lt_of_lt_of_le k (subst (λ (n : ℕ). hid f ≤ n) (pow-add 2 h (low f)) (pow_mono (omega (arith, two f))))
    go (suc y) l = lt_of_lt_of_le (shl_lt (prec f) y (full f t k)) (subst (λ (n : ℕ). 2 ^ (prec f + y) ≤ n) (pow-add 2 h (low f)) (pow_mono (omega (arith, two f))))

not_endless : (f : Format) (w : ℕ) → Finite f w → is_endless f w ≡ false
not_endless f w p = ne_eqb (exponent f w) (ones f) (λ e. omega arith)

pub within_range : (w : ℕ) → exponent binary32 w ≤ 157 → is_past binary32 31 w ≡ false
within_range w h =
    let n_lt : units binary32 w / 2 ^ 149 < 2 ^ 31 = part_within binary32 31 (exponent binary32 w) (fraction binary32 w) (fraction_lt binary32 w) (omega arith) in
    rw (not_endless binary32 w (omega arith)) (under (negative binary32 w) (units binary32 w / 2 ^ 149) n_lt)
  where
    under : (s : Bool) (n : ℕ) → n < 2 ^ 31 → ltb (last_size 31 s) n ≡ false
    under true n k = le-ltb (2 ^ 31) n (le_of_lt k)
    under false n k = le-ltb (2 ^ 31 - 1) n (omega arith)

-- from the field of 2 ^ 31 on every size is past 2 ^ 31, but for that itself
part_past : (x t : ℕ) → 158 ≤ x → (x * 2 ^ 23 + t ≡ 0x4f00_0000 → ⊥) → 2 ^ 31 < units_at binary32 x t / 2 ^ 149
part_past zero t h n = absurd (let z : ⊥ = omega arith in z)
part_past (suc y) t h n =
    (le-div_iff_mul-le (lit< tt)).1 (go (ltb y 158) refl)
  where
    go : (b : Bool) → ltb y 158 ≡ b → suc (2 ^ 31) * 2 ^ 149 ≤ (2 ^ 23 + t) * 2 ^ y
    go true e = le_trans {m = (2 ^ 23 + 1) * 2 ^ 157} (lit≤ tt) (le_trans (mul-le-mul_left (2 ^ 23 + 1) (pow_mono {i = 157} {j = y} (omega arith))) (mul-le-mul_right (2 ^ y) (omega (arith, ltb-true y 158 e))))
    go false e = le_trans {m = 2 ^ 23 * 2 ^ 158} (lit≤ tt) (le_trans (mul-le-mul_left (2 ^ 23) (pow_mono (ltb-false y 158 e))) (mul-le-mul_right (2 ^ y) (omega arith)))

pub past_high : (w : ℕ) → 158 ≤ exponent binary32 w → negative binary32 w ≡ false → is_past binary32 31 w ≡ true
past_high w h s = rw (s, lt-ltb (2 ^ 31 - 1) _ (past_range (exponent binary32 w) (fraction binary32 w) h)) (or-true (is_endless binary32 w))

pub past_low : (w : ℕ) → 158 ≤ exponent binary32 w → negative binary32 w ≡ true → (magnitude binary32 w ≡ 0x4f00_0000 → ⊥) → is_past binary32 31 w ≡ true
past_low w h s n =
    rw (s, lt-ltb (2 ^ 31) _ (part_past (exponent binary32 w) (fraction binary32 w) h (λ m. n (sym (two_fields binary32 w) ∙ m)))) (or-true (is_endless binary32 w))

-- ---- the integer

inf_casts : (f : Format) (h w : ℕ) → is_endless f w ≡ true → nan_bits f w ≡ false → to_signed h (of_bits f w) ≡ signed (negative f w) (last_size h (negative f w))
unfolding to_signed
inf_casts f h w e n = rw (inf_read f w (eqb-true _ _ e) n) (go (negative f w))
  where
    go : (s : Bool) → to_signed h (inf s) ≡ signed s (last_size h s)
    go true = refl
    go false = refl

held_is : (h : ℕ) (s : Bool) (n : ℕ) → held h s n ≡ signed s (min n (last_size h s))
held_is h true n = refl
held_is h false n = refl

size_is : (s : Bool) (n : ℕ) → nat_abs (signed s n) ≡ n
size_is false n = refl
size_is true zero = refl
size_is true (suc n) = refl

pub nothing_told : (f : Format) (h w : ℕ) → nan_bits f w ≡ true → IsNothing f w (to_signed h (of_bits f w))
nothing_told f h w e = record { nan = e; zero = nan_cast h (of_bits f w) (nan_read f w e) }

module _ (f : Format) (h w : ℕ) where
  pub clipped_told : nan_bits f w ≡ false → is_past f h w ≡ true → IsClipped f h (negative f w) w (to_signed h (of_bits f w))
  clipped_told n p = go (is_endless f w) refl
    where
      s : Bool
      s = negative f w

      go : (b : Bool) → is_endless f w ≡ b → IsClipped f h s w (to_signed h (of_bits f w))
      go true e = record { number = n; side = refl; past = λ k. absurd (let z : ⊥ = omega (arith, eqb-true (exponent f w) (ones f) e) in z); end = inf_casts f h w e n }
      go false e =
          let l : suc (last_size h s) ≤ units f w / 2 ^ low f = ltb-true (last_size h s) (units f w / 2 ^ low f) (rw e at p) in
          record {
            number = n;
            side = refl;
            past = λ k. (le-div_iff_mul-le (pow_pos (low f))).0 l;
            end = word_cast f h w (finite_of f w e) ∙ held_is h s (units f w / 2 ^ low f) ∙ ap (signed s) (let m : min (units f w / 2 ^ low f) (last_size h s) ≡ last_size h s = omega arith in m);
          }

  module _ (p : is_past f h w ≡ false) where
    apart : (is_endless f w ≡ false) × (ltb (last_size h (negative f w)) (units f w / 2 ^ low f) ≡ false)
    apart = go (is_endless f w) (ltb (last_size h (negative f w)) (units f w / 2 ^ low f)) p
      where
        go : (a b : Bool) → (a || b) ≡ false → (a ≡ false) × (b ≡ false)
        go true b e = absurd (true≢false e)
        go false b e = (refl, e)

    finite_within : Finite f w
    finite_within = finite_of f w apart.0

    whole_casts : to_signed h (of_bits f w) ≡ signed (negative f w) (units f w / 2 ^ low f)
    whole_casts =
        let s = negative f w in
        let n = units f w / 2 ^ low f in
        let l : n ≤ last_size h s = ltb-false (last_size h s) n apart.1 in
        word_cast f h w finite_within ∙ held_is h s n ∙ ap (signed s) (let m : min n (last_size h s) ≡ n = omega arith in m)

    size_casts : nat_abs (to_signed h (of_bits f w)) ≡ units f w / 2 ^ low f
    size_casts = ap nat_abs whole_casts ∙ size_is (negative f w) (units f w / 2 ^ low f)

    sign_casts : to_signed h (of_bits f w) ≡ signed (negative f w) (nat_abs (to_signed h (of_bits f w)))
    sign_casts = whole_casts ∙ ap (signed (negative f w)) (sym size_casts)

    pub kept_told : is_whole f w ≡ true → IsKept f w (to_signed h (of_bits f w))
    kept_told e = record {
      finite = finite_within;
      sign = sign_casts;
      same =
          rw size_casts
          (sym (add-zero (units f w / 2 ^ low f * 2 ^ low f))
          ∙ ap (λ (n : ℕ). units f w / 2 ^ low f * 2 ^ low f + n) (sym (eqb-true (units f w % 2 ^ low f) 0 e))
          ∙ div-add-mod' (units f w) (2 ^ low f));
    }

    pub cut_told : is_whole f w ≡ false → IsCut f w (to_signed h (of_bits f w))
    cut_told e = record {
      finite = finite_within;
      sign = sign_casts;
      whole = size_casts;
      rest = omega (arith, eqb-false (units f w % 2 ^ low f) 0 e);
    }

-- ---- and back: what the integer is to the word tells the tests

-- a finite number whose whole part is the integer's size is not past the end
not_past : (f : Format) (h w : ℕ) → Finite f w → nat_abs (to_signed h (of_bits f w)) ≡ units f w / 2 ^ low f → is_past f h w ≡ false
not_past f h w k e = go (is_past f h w) refl
  where
    s : Bool
    s = negative f w

    go : (b : Bool) → is_past f h w ≡ b → b ≡ false
    go false p = refl
    go true p =
        let c = clipped_told f h w (finite_number f w k) p in
        let l : last_size h s < units f w / 2 ^ low f = (le-div_iff_mul-le (pow_pos (low f))).1 (c.past k) in
        absurd (ne_of_lt l (sym (ap nat_abs c.end ∙ size_is s (last_size h s)) ∙ e))

pub kept_within : (f : Format) (h w : ℕ) → IsKept f w (to_signed h (of_bits f w)) → is_past f h w ≡ false
kept_within f h w c =
    not_past f h w c.finite (sym (mul-div_cancel (nat_abs (to_signed h (of_bits f w))) (pow_pos (low f))) ∙ ap (λ (u : ℕ). u / 2 ^ low f) c.same)

pub kept_whole : (f : Format) (w : ℕ) {z : ℤ} → IsKept f w z → is_whole f w ≡ true
kept_whole f w {z} c = eq-eqb _ 0 (ap (λ (u : ℕ). u % 2 ^ low f) (sym c.same) ∙ mul-mod_left (nat_abs z) (2 ^ low f))

pub cut_within : (f : Format) (h w : ℕ) → IsCut f w (to_signed h (of_bits f w)) → is_past f h w ≡ false
cut_within f h w c = not_past f h w c.finite c.whole

pub cut_part : (f : Format) (w : ℕ) {z : ℤ} → IsCut f w z → is_whole f w ≡ false
cut_part f w c = ne_eqb _ 0 (ne_of_gt c.rest)

pub clipped_past : (f : Format) (h : ℕ) {s : Bool} (w : ℕ) {z : ℤ} → IsClipped f h s w z → is_past f h w ≡ true
clipped_past f h {s} w c = go (is_endless f w) refl
  where
    go : (b : Bool) → is_endless f w ≡ b → (b || ltb (last_size h (negative f w)) (units f w / 2 ^ low f)) ≡ true
    go true e = refl
    go false e = rw c.side (lt-ltb (last_size h s) _ ((le-div_iff_mul-le (pow_pos (low f))).1 (c.past (finite_of f w e))))

-- ---- whole, and past the end of 32 bits, at the words beside each test: both zeros, the smallest numbers, 1/2, 1 and 3/2; in binary32 the
-- last with a fraction and the next; the last below 2 ^ 31 and it, the same below 0 and the next; the infinities. In binary64 the last
-- integers on both sides have a half beyond them, which is cut off and not past them.

abbrev tests : Format → ℕ → List Bool
tests f w = is_whole f w ∷ is_past f 31 w ∷ []

abbrev inside_whole : List Bool
inside_whole = true ∷ false ∷ []

abbrev inside_part : List Bool
inside_part = false ∷ false ∷ []

abbrev past_whole : List Bool
past_whole = true ∷ true ∷ []

pub tests_32 : map (tests binary32)
    (0x0000_0000 ∷ 0x8000_0000 ∷ 0x0000_0001 ∷ 0x8000_0001 ∷ 0x3f00_0000 ∷ 0x3f80_0000 ∷ 0x3fc0_0000 ∷ 0x4aff_ffff ∷ 0x4b00_0000
    ∷ 0x4eff_ffff ∷ 0x4f00_0000 ∷ 0xceff_ffff ∷ 0xcf00_0000 ∷ 0xcf00_0001 ∷ 0x7f80_0000 ∷ 0xff80_0000 ∷ [])
    ≡ inside_whole ∷ inside_whole ∷ inside_part ∷ inside_part ∷ inside_part ∷ inside_whole ∷ inside_part ∷ inside_part ∷ inside_whole
    ∷ inside_whole ∷ past_whole ∷ inside_whole ∷ inside_whole ∷ past_whole ∷ past_whole ∷ past_whole ∷ []
tests_32 = refl

pub tests_64 : map (tests binary64)
    (0x0000_0000_0000_0000 ∷ 0x8000_0000_0000_0000 ∷ 0x0000_0000_0000_0001 ∷ 0x8000_0000_0000_0001 ∷ 0x3fe0_0000_0000_0000
    ∷ 0x3ff0_0000_0000_0000 ∷ 0x3ff8_0000_0000_0000
    ∷ 0x41df_ffff_ffc0_0000 ∷ 0x41df_ffff_ffe0_0000 ∷ 0x41e0_0000_0000_0000
    ∷ 0xc1e0_0000_0000_0000 ∷ 0xc1e0_0000_0010_0000 ∷ 0xc1e0_0000_0020_0000 ∷ 0x7ff0_0000_0000_0000 ∷ 0xfff0_0000_0000_0000 ∷ [])
    ≡ inside_whole ∷ inside_whole ∷ inside_part ∷ inside_part ∷ inside_part
    ∷ inside_whole ∷ inside_part
    ∷ inside_whole ∷ inside_part ∷ past_whole
    ∷ inside_whole ∷ inside_part ∷ past_whole ∷ past_whole ∷ past_whole ∷ []
tests_64 = refl
