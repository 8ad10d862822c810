-- The kit's rounding is correct rounding by the definition over whole numbers, and the definition allows one word. Assumes nothing.
use Prim.Native.Nat.{ℕ, ◌+◌, ◌-◌, ◌*◌, ◌%◌, ◌^◌, ◌≤◌, ◌<◌}
use native.Mathlib.Nat.{lt_irrefl, mul_assoc, add-mul, mul-pos, le_of_mul-le-mul_right, mul-le-mul_right, le_of_lt, lt_of_lt_of_le, le_antisymm, mul-lt-mul_of_pos_right, mod-eq_of_lt}
use native.Mathlib.Omega.{arith}
use mathlib.Core.Path.{◌≡◌, sym, ap, subst, ◌∙◌}
use mathlib.Core.Logic.{inl, inr}
use mathlib.Core.Bool.{Bool, true, false}
use lib.Ieee.{Format, binary32, binary64, prec, low, hid, round, to_bits}
use lib.Ieee.Bits.{to_bits-lt}
use lib.Ieee.Fits.{round-fits, two, two-le_pos}
use lib.Ieee.Scale.{grid, overflow}
use Rattle.format.specs.Fields.{negative, magnitude, sign_bit, inf_word}
use Rattle.format.specs.Value.{units}
use Rattle.format.proofs.AtLeastZero.{inf_lt}
use Rattle.format.proofs.Fields.{sign_and_magnitude, sign_of}
use Rattle.format.proofs.Normal.{finite_below}
use Rattle.format.proofs.Order.{either, sub_mul}
use Rattle.format.proofs.Larger.{units_strict}
use Rattle.soft.specs.Rounding.{apart, past, Rounded}
use lib.Pow.{pow_pos}
use Rattle.soft.specs.Digits.{nearest_word, scaled_word}
use Rattle.soft.proofs.Classes.{below_infinite}
use Rattle.soft.proofs.Nearest.{round_even}
use Rattle.soft.proofs.Rounded.{rounded_units, rounded_sign, rounded_nearest, rounded_finite, word_holds}
use Rattle.soft.proofs.Past.{q, k, from_past, below_past, inside_is, outside_is}

even_word : (f : Format) (s : Bool) (k q : ℕ) → q % 2 ≡ 0 → (sign_bit f s + (k * hid f + q)) % 2 ≡ 0
even_word binary32 true k q e = omega arith
even_word binary32 false k q e = omega arith
even_word binary64 true k q e = omega arith
even_word binary64 false k q e = omega arith

-- the one rounding fact: a / c is rounded correctly, ties and overflow included
pub round_is_rounded : (f : Format) (s : Bool) (a c : ℕ) → 0 < c → Rounded f s (a * 2 ^ low f) c (to_bits f (round f s a c))
round_is_rounded f s a c C = record {
  word = to_bits-lt f (round f s a c) (round-fits f s a c);
  sign = sign;
  finite = λ h. rounded_finite f s a c C (below_past f a c C h);
  nearest = λ h v fin. rounded_nearest f s a c C (below_past f a c C h) v;
  even = λ h v fin ne e. tie (below_past f a c C h) v ne e;
  outside = λ h. outside_is f s a c C (from_past f a c C h);
}
  where
    sign : negative f (to_bits f (round f s a c)) ≡ s
    sign = elim (either (overflow f) (grid f a c)) [
      | inl h ↦ ap (negative f) (outside_is f s a c C h) ∙ sign_of f (inf_word f) (inf_lt f) s
      | inr h ↦ rounded_sign f s a c C h
    ]

    tie : grid f a c < overflow f → (v : ℕ) → (units f v ≡ units f (to_bits f (round f s a c)) → ⊥)
        → apart (units f (to_bits f (round f s a c)) * c) (a * 2 ^ low f) ≡ apart (units f v * c) (a * 2 ^ low f) → to_bits f (round f s a c) % 2 ≡ 0
    tie g v ne e =
        let u = rounded_units f s a c C g in
        let z : q f s a c C % 2 ≡ 0 = round_even (prec f) (a * 2 ^ low f) c (two-le_pos (prec f) (two f)) C (units f v) (word_holds f v) (λ (i : units f v ≡ grid f a c). ne (i ∙ sym u)) (rw u at e) in
        rw (inside_is f s a c C g) (even_word f s (k f s a c C) (q f s a c C) z)

-- ---- two words that the definition allows are one

parity : (f : Format) (w : ℕ) → w % 2 ≡ 0 → magnitude f w % 2 ≡ 0
parity binary32 w e = omega arith
parity binary64 w e = omega arith

between : (a b c n : ℕ) → a < b → b < c → apart a n ≡ apart c n → apart a n ≤ apart b n → ⊥
between a b c n i j e l = omega arith

not_less : (f : Format) (s : Bool) (n d r v : ℕ) → 0 < d → Rounded f s n d r → Rounded f s n d v → n < past f * d → magnitude f r < magnitude f v → ⊥
not_less f s n d r v D R S h l =
    let u : units f r < units f v = units_strict f r v l in
    let ne : units f v ≡ units f r → ⊥ = λ (e : units f v ≡ units f r). lt_irrefl (units f r) (subst (λ (x : ℕ). units f r < x) e u) in
    let e : apart (units f r * d) n ≡ apart (units f v * d) n = le_antisymm (R.nearest h v (S.finite h)) (S.nearest h r (R.finite h)) in
    let rp = parity f r (R.even h v (S.finite h) ne e) in
    let vp = parity f v (S.even h r (R.finite h) (λ (i : units f r ≡ units f v). ne (sym i)) (sym e)) in
    let w = magnitude f r + 1 in
    let under : w < magnitude f v = omega (arith, rp, vp, l) in
    let inside : w < inf_word f = lt_of_lt_of_le under (le_of_lt (below_infinite f v (S.finite h))) in
    let own : magnitude f w ≡ w = mod-eq_of_lt (lt_of_lt_of_le inside (le_of_lt (inf_lt f))) in
    let a = units_strict f r w (rw own (omega arith)) in
    let b = units_strict f w v (rw own under) in
    between (units f r * d) (units f w * d) (units f v * d) n (mul-lt-mul_of_pos_right a D) (mul-lt-mul_of_pos_right b D) e (R.nearest h w (finite_below f w inside))

pub rounded_one : (f : Format) (s : Bool) (n d r v : ℕ) → 0 < d → Rounded f s n d r → Rounded f s n d v → r ≡ v
rounded_one f s n d r v D R S = elim (either (past f * d) n) [
  | inl h ↦ R.outside h ∙ sym (S.outside h)
  | inr h ↦ same_magnitude (le_antisymm (not_more r v R S h) (not_more v r S R h))
]
  where
    not_more : (r v : ℕ) → Rounded f s n d r → Rounded f s n d v → n < past f * d → magnitude f r ≤ magnitude f v
    not_more r v R S h = elim (either (magnitude f r) (magnitude f v)) [ inl l ↦ l | inr l ↦ absurd (not_less f s n d v r D S R h l) ]

    same_magnitude : magnitude f r ≡ magnitude f v → r ≡ v
    same_magnitude e =
        sym (sign_and_magnitude f r R.word)
        ∙ ap (λ (t : Bool). sign_bit f t + magnitude f r) (R.sign ∙ sym S.sign)
        ∙ ap (λ (m : ℕ). sign_bit f (negative f v) + m) e
        ∙ sign_and_magnitude f v S.word

-- ---- of n / d units

apart_scale : (x n t : ℕ) → apart x n * t ≡ apart (x * t) (n * t)
apart_scale x n t = add-mul (x - n) (n - x) t ∙ rw (sub_mul x n t, sub_mul n x t)

module _ (f : Format) (n d t : ℕ) (P : 0 < t) where
  apart_at : (v : ℕ) → apart (units f v * d) n * t ≡ apart (units f v * (d * t)) (n * t)
  apart_at v = apart_scale (units f v * d) n t ∙ ap (λ (z : ℕ). apart z (n * t)) (mul_assoc (units f v) d t)

  inside_at : n < past f * d → n * t < past f * (d * t)
  inside_at h = rw (sym (mul_assoc (past f) d t)) (mul-lt-mul_of_pos_right h P)

  rounded_scale : (s : Bool) (r : ℕ) → Rounded f s (n * t) (d * t) r → Rounded f s n d r
  rounded_scale s r R = record {
    word = R.word;
    sign = R.sign;
    finite = λ h. R.finite (inside_at h);
    nearest = λ h v fin. le_of_mul-le-mul_right (rw (apart_at r, apart_at v) (R.nearest (inside_at h) v fin)) P;
    even = λ h v fin ne e. R.even (inside_at h) v fin ne (sym (apart_at r) ∙ ap (λ (z : ℕ). z * t) e ∙ apart_at v);
    outside = λ h. R.outside (rw (sym (mul_assoc (past f) d t)) (mul-le-mul_right t h));
  }

pub round_word_rounded : (f : Format) (s : Bool) (n d : ℕ) → 0 < d → Rounded f s n d (nearest_word f s n d)
unfolding nearest_word
round_word_rounded f s n d D = rounded_scale f n d (2 ^ low f) (pow_pos (low f)) s (nearest_word f s n d) (round_is_rounded f s n (d * 2 ^ low f) (mul-pos D (pow_pos (low f))))

-- so the definition allows that word alone
pub rounded_only : (f : Format) (s : Bool) (n d r : ℕ) → 0 < d → Rounded f s n d r → r ≡ nearest_word f s n d
rounded_only f s n d r D R = rounded_one f s n d r (nearest_word f s n d) D R (round_word_rounded f s n d D)

-- what the code's one rounding function is proved to give
pub scaled_rounded : (f : Format) (s : Bool) (m at : ℕ) → Rounded f s (m * 2 ^ at) (2 ^ 300) (scaled_word f s m at)
unfolding scaled_word
scaled_rounded f s m at = round_word_rounded f s (m * 2 ^ at) (2 ^ 300) (pow_pos 300)
