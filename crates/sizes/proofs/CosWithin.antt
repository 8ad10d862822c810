-- cos and sin lie from -1 to 1, up to 2 ^ 22 turns: with t from -1/2 to 1/2 the parabola does not leave -1 and 1 by more than rounding takes back, and then
-- its mean with its own square does not either. Assumes nothing.
use Prim.Native.Nat.{ℕ, ◌+◌, ◌-◌, ◌*◌, ◌/◌, ◌^◌, ◌≤◌, ◌<◌, zero-le}
use native.Mathlib.Nat.{le_refl, le_trans, le_of_eq, le_of_lt, not-le_of_lt, eq-or-lt_of_le, mul_comm, mul_assoc, mul_left_comm, mul-mul-mul_comm, add-mul, le-add_left, le-add_right, mul-le-mul_right, mul-le-mul_left, le_of_mul-le-mul_right, mul_right_comm, mul-pos, sub-le, div-lt_iff_lt-mul}
use native.Mathlib.Omega.{arith}
use mathlib.Core.Path.{◌≡◌, refl, sym, ap, subst, ◌∙◌}
use mathlib.Core.Logic.{◌⊎◌, inl, inr}
use mathlib.Core.Bool.{Bool, true, false, not}
use mathlib.Core.List.{[], ◌∷◌, map}
use borrow.Author.Tests.{lt-ltb}
use lib.Dec.{T, lit<, lit≤}
use lib.Pow.{pow_pos}
use lib.Ieee.{Format, Float, nan, inf, fin, binary32, unlike, up, down, low, le, lt, round, sum, add, sub, mul, fits, of_int, to_signed, of_bits, to_bits}
use lib.Ieee.Bits.{of_bits-to_bits, of_bits-fits}
use lib.Ieee.Exact.{HasValue}
use lib.Ieee.Fits.{add-fits, sub-fits, mul-fits, down_pos}
use lib.Ieee.Order.{round_mono}
use lib.Ieee.Scale.{finite}
use Rattle.format.specs.Fields.{magnitude}
use Rattle.format.specs.Sign.{with_sign}
use Rattle.format.specs.Value.{units, Finite}
use Rattle.format.proofs.Fields.{hid_pos}
use Rattle.format.proofs.Sign.{abs_is}
use Rattle.format.proofs.Order.{either, squares}
use Rattle.format.proofs.Larger.{units_mono}
use Rattle.format.proofs.Normal.{twice_units}
use Rattle.format.proofs.Value.{word_value, sub_signed}
use Rattle.format.proofs.Compared.{within}
use Rattle.float.specs.Engine.{ieee}
use Rattle.float.specs.Cos.{turns, parabola, refined, cos_word, sin_word}
use Rattle.sizes.specs.Angles.{CosTurns, SinTurns, WithinOne}
use Rattle.sizes.proofs.Sign.{round_signed}
use Rattle.sizes.proofs.Size.{AtMost, Signed, round_has, mul_at_most, mul_within, add_at_most, sub_at_most, apart_at_most, units_apart, over_both, under}
use Rattle.sizes.proofs.Words.{constant, own_at_most, word_at_most, at_most_word, abs_value}
use Rattle.sizes.proofs.Kept.{kept_word}
use Rattle.sizes.proofs.Centred.{centred_within}

-- ---- the mean with the square: what is added to c has the other sign, and is no larger than 1

mul_has : (f : Format) (s t : Bool) (x y : Float) → T (finite x) → T (finite y) → Signed s x → Signed t y → Signed (unlike s t) (mul f x y)
unfolding mul
mul_has f s t nan y i k p q = absurd i
mul_has f s t (inf u) y i k p q = absurd i
mul_has f s t (fin u m e) nan i k p q = absurd k
mul_has f s t (fin u m e) (inf v) i k p q = absurd k
mul_has f s t (fin u m e) (fin v n d) i k p q = rw (p, q) (round_has f (unlike s t) _ _)

-- over a common denominator, and less something
over : (X Y B E K L : ℕ) → X * L ≤ B * E → (X * K - Y) * L ≤ B * (E * K)
over X Y B E K L h = le_trans (mul-le-mul_right L (sub-le (X * K) Y)) (le_trans (le_of_eq (mul_right_comm X K L)) (le_trans (mul-le-mul_right K h) (le_of_eq (mul_assoc B E K))))

-- two numbers of unlike signs, neither larger than b
opposed : {f : Format} {b : ℕ} (s : Bool) {x y : Float} → Finite f b → Signed s x → Signed (not s) y → AtMost f b x → AtMost f b y → AtMost f b (add f x y)
unfolding add
opposed s {x = nan} t p q h k = absurd p
opposed s {x = inf i} t p q h k = absurd h.finite
opposed s {x = fin i m e} {y = nan} t p q h k = absurd q
opposed s {x = fin i m e} {y = inf j} t p q h k = absurd k.finite
opposed {f} {b} s {x = fin i m e} {y = fin j n g} t p q h k =
    rw (p, q) (apart_at_most f b s (m * up e * down g) (n * up g * down e) (down e * down g) t (mul-pos (down_pos e) (down_pos g))
    (over (m * up e) (n * up g * down e) (units f b) (down e) (down g) (2 ^ low f) h.small)
    (rw (mul_comm (down e) (down g)) (over (n * up g) (m * up e * down g) (units f b) (down g) (down e) (2 ^ low f) k.small)))

-- 1, and 0.225
abbrev one : Float
one = of_bits binary32 0x3f80_0000

abbrev share : Float
share = of_bits binary32 0x3e66_6666

share_plus : Signed false share
unfolding of_bits
share_plus = refl

one_over : (d : ℕ) → HasValue one false d d
unfolding of_bits
one_over d = (refl, mul_comm 1 d)

-- |c| less 1 is below 0, or a zero
less_one : (c : Float) → AtMost binary32 0x3f80_0000 c → Signed true (sub binary32 (with_sign false c) one) ⊎ AtMost binary32 0x0000_0000 (sub binary32 (with_sign false c) one)
unfolding sum
less_one nan h = absurd h.finite
less_one (inf s) h = absurd h.finite
less_one (fin s m e) h =
    let a = m * up e in
    let d = down e in
    let small : a ≤ d = le_of_mul-le-mul_right (le_trans h.small (le_of_eq (mul_comm (2 ^ 149) d))) (pow_pos 149) in
    rw (sub_signed binary32 (fin false m e) one false false a d d (down_pos e) (refl, refl) (one_over d)) (go (eq-or-lt_of_le small))
  where
    go : (m * up e ≡ down e) ⊎ (m * up e < down e)
        → Signed true (sum binary32 false (m * up e) true (down e) (down e)) ⊎ AtMost binary32 0x0000_0000 (sum binary32 false (m * up e) true (down e) (down e))
    go (inl i) = inr (apart_at_most binary32 0x0000_0000 false (m * up e) (down e) (down e) (lit< tt) (down_pos e) (none (m * up e) (down e) (le_of_eq i)) (none (down e) (m * up e) (le_of_eq (sym i))))
      where
        none : (x y : ℕ) → x ≤ y → (x - y) * 2 ^ 149 ≤ 0 * down e
        none x y l = le_trans (mul-le-mul_right (2 ^ 149) (let z : x - y ≤ 0 = omega arith in z)) zero-le
    go (inr l) = inl (rw (lt-ltb (m * up e) (down e) l) (round_has binary32 true (down e - m * up e) (down e)))

pub refined_within : {c : Float} → T (fits binary32 c) → AtMost binary32 0x3f80_0000 c → AtMost binary32 0x3f80_0000 (refined ieee c)
refined_within {c = nan} t h = absurd h.finite
refined_within {c = inf s} t h = absurd h.finite
refined_within {c = fin s m e} t h = rw (abs_value binary32 (fin s m e) t) (go (less_one (fin s m e) h))
  where
    other : (i : Bool) → unlike (unlike false i) true ≡ not i
    other true = refl
    other false = refl

    mends : AtMost binary32 0x3e66_6666 (mul binary32 share (fin s m e))
    mends = mul_at_most 0x3e66_6666 (constant binary32 0x3e66_6666 tt) h tt

    rest : AtMost binary32 0x4000_0000 (sub binary32 (fin false m e) one)
    rest = sub_at_most {b = 0x3f80_0000} 0x4000_0000 (record { finite = tt; small = h.small }) (constant binary32 0x3f80_0000 tt) tt

    go : Signed true (sub binary32 (fin false m e) one) ⊎ AtMost binary32 0x0000_0000 (sub binary32 (fin false m e) one)
        → AtMost binary32 0x3f80_0000 (add binary32 (fin s m e) (mul binary32 (mul binary32 share (fin s m e)) (sub binary32 (fin false m e) one)))
    go (inl g) =
        opposed s (lit< tt) refl
        (subst (λ (i : Bool). Signed i (mul binary32 (mul binary32 share (fin s m e)) (sub binary32 (fin false m e) one))) (other s)
        (mul_has binary32 (unlike false s) true _ _ mends.finite rest.finite (mul_has binary32 false s share (fin s m e) (constant binary32 0x3e66_6666 tt).finite tt share_plus refl) g))
        h (mul_at_most 0x3f80_0000 mends rest tt)
    go (inr z) = add_at_most 0x3f80_0000 h (mul_at_most 0x0000_0000 mends z tt) tt

-- ---- the parabola: t * 16 * (|t| - 1/2)

-- half a last place above 1 is rounded to 1
tie_is : round binary32 false (2 ^ 149 + 2 ^ 125) (2 ^ 149) ≡ one
unfolding round of_bits
tie_is = refl

near_one : {b c : ℕ} {x y : Float} → AtMost binary32 b x → AtMost binary32 c y → units binary32 b * units binary32 c ≤ (2 ^ 149 + 2 ^ 125) * 2 ^ 149 → AtMost binary32 0x3f80_0000 (mul binary32 x y)
unfolding mul
near_one {x = nan} h k l = absurd h.finite
near_one {x = inf s} h k l = absurd h.finite
near_one {x = fin s m e} {y = nan} h k l = absurd k.finite
near_one {x = fin s m e} {y = inf i} h k l = absurd k.finite
near_one {b} {c} {x = fin s m e} {y = fin i n g} h k l =
    let a = m * up e * (n * up g) in
    let d = down e * down g in
    let r = over_both (m * up e) (n * up g) (units binary32 b) (units binary32 c) (2 ^ 149 + 2 ^ 125) (down e) (down g) (2 ^ 149) (pow_pos 149) h.small k.small l in
    under binary32 0x3f80_0000 (round binary32 (unlike s i) a d) one (one_over (2 ^ 149))
    (rw (round_signed binary32 (unlike s i) false a d)
    (subst (λ (y : Float). T (le (round binary32 false a d) y)) tie_is
    (round_mono binary32 a d (2 ^ 149 + 2 ^ 125) (2 ^ 149) (mul-pos (down_pos e) (down_pos g)) (pow_pos 149) r)))

half_value : HasValue (of_bits binary32 0x3f00_0000) false (2 ^ 148) (2 ^ 149)
unfolding of_bits
half_value = (refl, refl)

size_value : (x : Float) (s : Bool) (a c : ℕ) → HasValue x s a c → HasValue (with_sign false x) false a c
size_value nan s a c v = absurd v
size_value (inf i) s a c v = absurd v
size_value (fin i m e) s a c v = (refl, v.1)

-- where 1/2 - |t| is no more than q last places, of which 2 ^ 24 are 1/2
bounded : (w q : ℕ) → Finite binary32 w → units binary32 w ≤ 2 ^ 148 → q ≤ 2 ^ 24 → 2 ^ 148 ≤ units binary32 w + q * 2 ^ 124
    → units binary32 w * (q * 2 ^ 128) ≤ (2 ^ 149 + 2 ^ 125) * 2 ^ 149 → AtMost binary32 0x3f80_0000 (parabola ieee (of_bits binary32 w))
bounded w q i small few reach product =
    let t = of_bits binary32 w in
    let u = units binary32 w in
    let b = to_bits binary32 (round binary32 false (q * 2 ^ 124) (2 ^ 149)) in
    let c = to_bits binary32 (round binary32 false (q * 2 ^ 128) (2 ^ 149)) in
    let first = kept_word false q 124 few (lit≤ tt) in
    let second = kept_word false q 128 few (lit≤ tt) in
    let less : AtMost binary32 b (sub binary32 (with_sign false t) (of_bits binary32 0x3f00_0000)) =
    rw (sub_signed binary32 (with_sign false t) (of_bits binary32 0x3f00_0000) false false u (2 ^ 148) (2 ^ 149) (pow_pos 149) (size_value t _ u (2 ^ 149) (word_value binary32 w i)) half_value)
    (units_apart binary32 b false u (2 ^ 148) first.finite (le_trans small (le-add_right (2 ^ 148) (units binary32 b))) (rw first.count reach)) in
    let times : AtMost binary32 c (mul binary32 (of_bits binary32 0x4180_0000) (sub binary32 (with_sign false t) (of_bits binary32 0x3f00_0000))) =
    mul_within c (constant binary32 0x4180_0000 tt) less second.finite
    (rw (first.count, second.count) (le_of_eq (mul_left_comm (2 ^ 153) q (2 ^ 124) ∙ sym (mul_assoc q (2 ^ 128) (2 ^ 149))))) in
    rw ((abs_is binary32 _).value, of_bits-to_bits binary32 t (of_bits-fits binary32 w)) (near_one (own_at_most binary32 w i) times (rw second.count product))

-- a product of two numbers with a given sum is largest where they are the same
at_most_46 : (a q : ℕ) → a + q ≡ 2 ^ 24 → a * q ≤ 2 ^ 46
at_most_46 a q e = let s : (a + q) * (a + q) ≡ 2 ^ 24 * 2 ^ 24 = ap (λ (n : ℕ). n * n) e in omega (arith, squares a q)

at_most_47 : (a b q : ℕ) → a + b ≡ 2 ^ 25 → a ≤ 2 ^ 24 → 2 * q ≤ b + 1 → a * q ≤ 2 ^ 47 + 2 ^ 23
at_most_47 a b q e l h = let s : (a + b) * (a + b) ≡ 2 ^ 25 * 2 ^ 25 = ap (λ (n : ℕ). n * n) e in omega (arith, squares a b, mul-le-mul_left a h)

halve : (p a b : ℕ) → 2 * p ≡ a * (2 * b) → p ≡ a * b
halve p a b h = omega arith

module _ (w : ℕ) (h : magnitude binary32 w ≤ 0x3f00_0000) where
  abbrev v : ℕ
  v = magnitude binary32 w

  size_units : units binary32 v ≡ units binary32 w
  size_units = rw ((abs_is binary32 w).field, (abs_is binary32 w).digits)

  w_finite : Finite binary32 w
  w_finite = (div-lt_iff_lt-mul (hid_pos binary32)).1 (omega arith)

  w_small : units binary32 w ≤ 2 ^ 148
  w_small = units_mono binary32 w 0x3f00_0000 h

  -- from 1/4 on what is left of 1/2 is exact
  from_quarter : 0x3e80_0000 ≤ v → AtMost binary32 0x3f80_0000 (parabola ieee (of_bits binary32 w))
  from_quarter l =
      let d = v - 0x3e80_0000 in
      let a = 2 ^ 23 + d in
      let q = 2 ^ 23 - d in
      let whole : a + q ≡ 2 ^ 24 = omega arith in
      let u : units binary32 w ≡ a * 2 ^ 124 =
      sym size_units ∙ halve (units binary32 v) a (2 ^ 124) (twice_units binary32 v 125 d (record { above = omega arith; below = omega arith }) (omega arith) (omega arith)) in
      bounded w q w_finite w_small (omega arith)
      (rw u (le_of_eq (ap (λ (n : ℕ). n * 2 ^ 124) (sym whole) ∙ add-mul a q (2 ^ 124))))
      (rw (u, mul-mul-mul_comm a (2 ^ 124) q (2 ^ 128)) (le_trans (mul-le-mul_right (2 ^ 252) (at_most_46 a q whole)) (lit≤ tt)))

  -- from 1/8 to 1/4 it is off by half a last place at most
  from_eighth : 0x3e00_0000 ≤ v → v < 0x3e80_0000 → AtMost binary32 0x3f80_0000 (parabola ieee (of_bits binary32 w))
  from_eighth l k =
      let d = v - 0x3e00_0000 in
      let a = 2 ^ 23 + d in
      let b = 2 ^ 25 - a in
      let q = (b + 1) / 2 in
      let whole : a + b ≡ 2 ^ 25 = omega arith in
      let u : units binary32 w ≡ a * 2 ^ 123 =
      sym size_units ∙ halve (units binary32 v) a (2 ^ 123) (twice_units binary32 v 124 d (record { above = omega arith; below = omega arith }) (omega arith) (omega arith)) in
      bounded w q w_finite w_small (omega arith)
      (rw u (le_trans (mul-le-mul_right (2 ^ 123) (let r : 2 ^ 25 ≤ a + q * 2 = omega arith in r)) (le_of_eq (add-mul a (q * 2) (2 ^ 123) ∙ ap (λ (n : ℕ). a * 2 ^ 123 + n) (mul_assoc q 2 (2 ^ 123))))))
      (rw (u, mul-mul-mul_comm a (2 ^ 123) q (2 ^ 128)) (le_trans (mul-le-mul_right (2 ^ 251) (at_most_47 a b q whole (omega arith) (omega arith))) (lit≤ tt)))

  -- below 1/8 the product is far from 1
  below_eighth : v < 0x3e00_0000 → AtMost binary32 0x3f80_0000 (parabola ieee (of_bits binary32 w))
  below_eighth l =
      bounded w (2 ^ 24) w_finite w_small (le_refl (2 ^ 24)) (le-add_left (2 ^ 148) (units binary32 w))
      (le_trans (mul-le-mul_right (2 ^ 24 * 2 ^ 128) (units_mono binary32 w 0x3e00_0000 (le_of_lt l))) (lit≤ tt))

  parabola_word : AtMost binary32 0x3f80_0000 (parabola ieee (of_bits binary32 w))
  parabola_word = go (either 0x3e80_0000 v) (either 0x3e00_0000 v)
    where
      go : (0x3e80_0000 ≤ v) ⊎ (v < 0x3e80_0000) → (0x3e00_0000 ≤ v) ⊎ (v < 0x3e00_0000) → AtMost binary32 0x3f80_0000 (parabola ieee (of_bits binary32 w))
      go (inl l) i = from_quarter l
      go (inr l) (inl k) = from_eighth k l
      go (inr l) (inr k) = below_eighth k

pub parabola_within : {t : Float} → T (fits binary32 t) → AtMost binary32 0x3f00_0000 t → AtMost binary32 0x3f80_0000 (parabola ieee t)
parabola_within {t} f h =
    subst (λ (x : Float). AtMost binary32 0x3f80_0000 (parabola ieee x)) (of_bits-to_bits binary32 t f)
    (parabola_word (to_bits binary32 t) (at_most_word binary32 0x3f00_0000 t f h))

-- ---- the answers

cos_size : (w : ℕ) → CosTurns w → magnitude binary32 (cos_word ieee w) ≤ 0x3f80_0000
unfolding cos_word
cos_size w h =
    let x = word_at_most binary32 w 0x4bc9_0fdb (lit< tt) h in
    let t : AtMost binary32 0x4a80_0000 (turns ieee (of_bits binary32 w)) = mul_at_most 0x4a80_0000 x (constant binary32 0x3e22_f983 tt) tt in
    let r = refined_within (mul-fits binary32 _ _) (parabola_within (sub-fits binary32 _ _) (centred_within (mul-fits binary32 _ _) t)) in
    at_most_word binary32 0x3f80_0000 _ (add-fits binary32 _ _) r

pub cos_within : (w : ℕ) → CosTurns w → WithinOne (cos_word ieee w)
cos_within w h = within binary32 0x3f80_0000 (cos_word ieee w) (lit< tt) (cos_size w h)

-- a quarter turn back
pub sin_within : (w : ℕ) → SinTurns w → WithinOne (sin_word ieee w)
unfolding sin_word
sin_within w h =
    let x = word_at_most binary32 w 0x4bc9_0fda (lit< tt) h in
    let back = sub_at_most 0x4bc9_0fdb x (constant binary32 0x3fc9_0fdb tt) tt in
    cos_within _ (at_most_word binary32 0x4bc9_0fdb _ (sub-fits binary32 _ _) back)

-- ---- known words

-- both ends are reached: by cos at 0 and PI, and by sin at PI / 2 and -PI / 2
pub turning_points : (map (cos_word ieee) (0x0000_0000 ∷ 0x4049_0fdb ∷ []) ≡ 0x3f80_0000 ∷ 0xbf80_0000 ∷ [])
    × (map (sin_word ieee) (0x3fc9_0fdb ∷ 0xbfc9_0fdb ∷ []) ≡ 0x3f80_0000 ∷ 0xbf80_0000 ∷ [])
unfolding cos_word sin_word add sub mul lt of_int to_signed of_bits to_bits
turning_points = (refl, refl)

-- and at the words next to the last they are past -1, at some -4.35
pub past_the_turns : (cos_word ieee 0xcbc9_0fdc ≡ 0xc08b_3333) × (sin_word ieee 0xcbc9_0fdb ≡ 0xc08b_3333)
unfolding cos_word sin_word add sub mul lt of_int to_signed of_bits to_bits
past_the_turns = (refl, refl)

pub not_within_past : (WithinOne (cos_word ieee 0xcbc9_0fdc) → ⊥) × (WithinOne (sin_word ieee 0xcbc9_0fdb) → ⊥)
unfolding cos_word sin_word add sub mul lt of_int to_signed of_bits to_bits
not_within_past = (λ i. not-le_of_lt {m = 0x3f80_0000} (lit< tt) i.size, λ i. not-le_of_lt {m = 0x3f80_0000} (lit< tt) i.size)
