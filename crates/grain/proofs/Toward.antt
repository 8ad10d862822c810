-- The mean goes toward a sample and not past it, over the format and from the second sample on: a sample that lies on one side of the old mean does not
-- lie on the other of the new one. So what the sum of squared deviations gains is no number below 0. Assumes nothing.
use Prim.Native.Nat.{ℕ, zero, suc, ◌+◌, ◌-◌, ◌*◌, ◌^◌, ◌≤◌, ◌<◌}
use native.Mathlib.Nat.{le_trans, le_of_eq, le_of_lt, le_antisymm, lt_of_le_of_lt, lt_of_lt_of_le, mul_assoc, mul_left_comm, one-mul, mul-pos, mul-le-mul_right, le_of_mul-le-mul_right, pow-succ'}
use native.Mathlib.Omega.{arith}
use mathlib.Core.Path.{◌≡◌, refl, sym, ap, subst, ◌∙◌}
use mathlib.Core.Logic.{◌⊎◌, inl, inr}
use mathlib.Core.Bool.{Bool, true, false, not}
use borrow.Author.Tests.{ne_eqb}
use lib.Dec.{T, ltb, ltb→lt, lit<}
use lib.IntN.{pos}
use lib.Pow.{pow_pos, pow_mono, shl_lt}
use lib.Ieee.{Format, binary32, binary64, Float, nan, inf, fin, prec, emax, low, up, down, unlike, size, round, sum, sub, mul, div, of_int, of_bits, to_bits, fits}
use lib.Ieee.Digits.{size-lt, size_reaches, size-le}
use lib.Ieee.Exact.{HasValue}
use lib.Ieee.Fits.{down_pos, sub-fits, div-fits}
use lib.Ieee.Scale.{finite}
use Rattle.format.specs.Fields.{negative}
use Rattle.format.specs.Sign.{with_sign}
use Rattle.format.specs.Value.{units, Finite}
use Rattle.format.proofs.Value.{word_value, value_word, add_signed, sub_signed}
use Rattle.format.proofs.Same.{Counted, counted}
use Rattle.format.proofs.Exact.{unlike_false, unlike_itself, zero_times, times_zero}
use Rattle.format.proofs.Order.{either}
use Rattle.sizes.proofs.Sign.{round_signed}
use Rattle.sizes.proofs.Size.{AtMost, AtLeast, round_at_most, round_at_least, div_within, NotNegative, round_not_negative}
use Rattle.grain.specs.Grain.{next_mean}
use Rattle.grain.proofs.Divisors.{Divisor, times, whole_is, divisor_reaches}
use Rattle.grain.proofs.Sides.{on, off, ahead, behind, Nothing, on_side, level, on_most, one_part, opposite, apart, past, short}

-- ---- numbers in units

abbrev unit : Format → ℕ
unit f = 2 ^ low f

pub record InUnits (f : Format) (x : Float) : Type 0 where
  pub sign : Bool
  pub size : ℕ
  pub is : HasValue x sign size (unit f)

pub in_units : (f : Format) (x : Float) → T (fits f x) → T (finite x) → InUnits f x
in_units f nan h k = absurd k
in_units f (inf s) h k = absurd k
in_units f (fin s m e) h k =
    let w = value_word f (fin s m e) s (m * up e) (down e) h (refl, refl) in
    record { sign = s; size = units f (to_bits f (fin s m e)); is = (refl, sym w.amount) }

pub size_at_most : (f : Format) {b : ℕ} (x : Float) (i : InUnits f x) → AtMost f b x → i.size ≤ units f b
size_at_most f nan i h = absurd i.is
size_at_most f (inf s) i h = absurd i.is
size_at_most f (fin s m e) i h = le_of_mul-le-mul_right (le_trans (le_of_eq (sym i.is.1)) h.small) (down_pos e)

size_at_least : (f : Format) {b : ℕ} (x : Float) (i : InUnits f x) → AtLeast f b x → units f b ≤ i.size
size_at_least f nan i h = absurd i.is
size_at_least f (inf s) i h = absurd i.is
size_at_least f (fin s m e) i h = le_of_mul-le-mul_right (le_trans h.large (le_of_eq i.is.1)) (down_pos e)

-- what is rounded keeps its sign
abbrev sign_of : Float → Bool
sign_of nan = false
sign_of (inf s) = s
sign_of (fin s m e) = s

sign_kept : (f : Format) (x : Float) (i : InUnits f x) (o : Bool) (a c : ℕ) → x ≡ round f o a c → i.sign ≡ o
sign_kept f nan i o a c h = absurd i.is
sign_kept f (inf s) i o a c h = absurd i.is
sign_kept f (fin t m e) i o a c h = sym i.is.0 ∙ sym (ap sign_of (ap (with_sign o) h ∙ round_signed f o o a c ∙ sym h))

-- ---- the quotient

-- a power of 2 below a number, and the next above it, which the format holds
record Between (f : Format) (z : ℕ) : Type 0 where
  pub power : ℕ
  pub below : 2 ^ power ≤ z
  pub above : z < 2 ^ suc power
  pub few : suc power ≤ low f + emax f

between : (f : Format) (z : ℕ) → 0 < z → z < 2 ^ (low f + emax f) → Between f z
between f z p h = go (size z) refl
  where
    go : (n : ℕ) → size z ≡ n → Between f z
    go zero e = absurd (let l : z < 2 ^ 0 = subst (λ (n : ℕ). z < 2 ^ n) e (size-lt z) in omega arith)
    go (suc k) e = record {
      power = k;
      below = size_reaches z k (omega (arith, e));
      above = subst (λ (n : ℕ). z < 2 ^ n) e (size-lt z);
      few = subst (λ (n : ℕ). n ≤ low f + emax f) e (size-le z (low f + emax f) h);
    }

power_is : (f : Format) (k : ℕ) → k ≤ low f + emax f → Counted f false (1 * 2 ^ k) (times f 1 k)
power_is f k h = counted f false 1 k (one_fits f) (lt_of_lt_of_le (shl_lt 1 k (lit< tt)) (pow_mono (let i : 1 + k ≤ low f + suc (emax f) = omega arith in i)))
  where
    one_fits : (f : Format) → 1 < 2 ^ prec f
    one_fits binary32 = lit< tt
    one_fits binary64 = lit< tt

-- a number rounded, and over 2 or more, is no larger than it was
quotient_within : (f : Format) (o : Bool) (z n : ℕ) (d : Float) (b : Between f z) → d ≡ round f o z (unit f) → 2 ≤ n → n < 2 ^ prec f → AtMost f (times f 1 b.power) (div f d (of_int f (pos n)))
quotient_within f o z n d b e two few =
    let k = b.power in
    let top = power_is f (suc k) b.few in
    let mid = power_is f k (omega (arith, b.few)) in
    let by = whole_is f n few in
    let h : AtMost f (times f 1 (suc k)) d = rw e (round_at_most f (times f 1 (suc k)) o z (unit f) top.finite (pow_pos (low f)) (rw top.count (mul-le-mul_right (unit f) (rw (one-mul (2 ^ suc k)) (le_of_lt b.above))))) in
    div_within (times f 1 k) h (divisor_reaches f n few) mid.finite (rw by.count (mul-pos (omega arith) (pow_pos (low f)))) (rw (top.count, mid.count, by.count) (doubled k n two))
  where
    doubled : (k n : ℕ) → 2 ≤ n → 1 * 2 ^ suc k * unit f ≤ 1 * 2 ^ k * (n * 2 ^ low f)
    doubled k n h = rw (one-mul (2 ^ suc k), one-mul (2 ^ k), pow-succ' 2 k, mul_assoc 2 (2 ^ k) (unit f)) (le_trans (mul-le-mul_right (2 ^ k * unit f) h) (le_of_eq (mul_left_comm n (2 ^ k) (unit f))))

quotient_sign : (f : Format) (d n : Float) (i : InUnits f d) (k : Divisor n) (j : InUnits f (div f d n)) → j.sign ≡ i.sign
unfolding div
quotient_sign f nan n i k j = absurd i.is
quotient_sign f (inf s) n i k j = absurd i.is
quotient_sign f (fin s m e) n i k j =
    sign_kept f (div f (fin s m e) n) j (unlike s false) (m * up e * down k.power) (k.digits * up k.power * down e)
    (rw (k.is, ne_eqb k.digits 0 (λ z. omega (arith, k.some))))
    ∙ unlike_false s ∙ i.is.0

-- ---- what the sum gains

abbrev pub NoLess : Float → Type 0
NoLess p = NotNegative p ⊎ Nothing p

nothing_at : {x y : Float} → x ≡ y → Nothing y → Nothing x
nothing_at e n = record { sign = n.sign; is = e ∙ n.is }

nothing_times : (f : Format) (d e : Float) → T (finite e) → Nothing d → Nothing (mul f d e)
nothing_times f d nan h n = absurd h
nothing_times f d (inf s) h n = absurd h
nothing_times f d (fin s m k) h n = rw n.is (record { sign = unlike n.sign s; is = zero_times f n.sign s m k })

times_nothing : (f : Format) (d e : Float) → T (finite d) → Nothing e → Nothing (mul f d e)
times_nothing f nan e h n = absurd h
times_nothing f (inf s) e h n = absurd h
times_nothing f (fin s m k) e h n = rw n.is (record { sign = unlike s n.sign; is = times_zero f n.sign s m k })

same_signs : (f : Format) (d e : Float) (i : InUnits f d) (j : InUnits f e) → i.sign ≡ j.sign → NotNegative (mul f d e)
unfolding mul
same_signs f nan e i j h = absurd i.is
same_signs f (inf s) e i j h = absurd i.is
same_signs f (fin s m k) nan i j h = absurd j.is
same_signs f (fin s m k) (inf t) i j h = absurd j.is
same_signs f (fin s m k) (fin t n l) i j h = rw (i.is.0 ∙ h ∙ sym j.is.0, unlike_itself t) (round_not_negative f (m * up k * (n * up l)) (down k * down l))

-- ---- the new mean

-- a sample that is a word, and the mean before it; n samples with it, and so 2 at least
module _ (f : Format) (w n : ℕ) (m : Float) (w_finite : Finite f w) (two : 2 ≤ n) (few : n < 2 ^ prec f) (before : InUnits f m) (small : T (ltb (units f w + before.size) (2 ^ (low f + emax f)))) where
  abbrev x : Float
  x = of_bits f w

  abbrev count : Float
  count = of_int f (pos n)

  abbrev s : Bool
  s = negative f w

  abbrev u : ℕ
  u = units f w

  -- if the sample lies on a side of the mean, it does not lie on the other of the new one
  pub not_passed : (o : Bool) → Divisor count → T (finite (sub f x m)) → (after : InUnits f (next_mean f count m x))
      → behind o s u before.sign before.size < ahead o s u before.sign before.size
      → behind o s u after.sign after.size ≤ ahead o s u after.sign after.size
  not_passed o by d_finite after h =
      let t = before.sign in
      let v = before.size in
      let d = sub f x m in
      let z = ahead o s u t v - behind o s u t v in
      let d_is : d ≡ round f o z (unit f) = sub_signed f x m s t u v (unit f) (pow_pos (low f)) (word_value f w w_finite) before.is ∙ on_side f o s u t v (unit f) h in
      let d_in = in_units f d (sub-fits f x m) d_finite in
      let b = between f z (omega arith) (lt_of_le_of_lt (apart o s t u v) (ltb→lt (u + v) (2 ^ (low f + emax f)) small)) in
      let q = div f d count in
      let q_within = quotient_within f o z n d b d_is two few in
      let q_in = in_units f q (div-fits f d count) q_within.finite in
      let q_sign = quotient_sign f d count d_in by q_in ∙ sign_kept f d d_in o z (unit f) d_is in
      let mid = power_is f b.power (omega (arith, b.few)) in
      let q_most : q_in.size ≤ z = le_trans (size_at_most f q q_in q_within) (le_trans (le_of_eq (mid.count ∙ one-mul (2 ^ b.power))) b.below) in
      let next_is : next_mean f count m x ≡ sum f t v o q_in.size (unit f) =
      add_signed f m q t q_in.sign v q_in.size (unit f) (pow_pos (low f)) before.is q_in.is ∙ ap (λ (r : Bool). sum f t v r q_in.size (unit f)) q_sign in
      go t v q_in.size next_is (omega (arith, q_most)) (either (off o t v) (on o t v + q_in.size))
    where
      go : (t : Bool) (v k : ℕ) → next_mean f count m x ≡ sum f t v o k (unit f) → behind o s u t v + k ≤ ahead o s u t v → (off o t v ≤ on o t v + k) ⊎ (on o t v + k < off o t v)
          → behind o s u after.sign after.size ≤ ahead o s u after.sign after.size
      go t v k e l (inl p) =
          let r = past f o t v k (unit f) p in
          let a : AtMost f w (next_mean f count m x) = rw (e ∙ r.is) (round_at_most f w r.sign (on o t v + k - off o t v) (unit f) w_finite (pow_pos (low f)) (mul-le-mul_right (unit f) (omega (arith, on_most o s u)))) in
          let most = size_at_most f (next_mean f count m x) after a in
          elim (one_part o s u) [ inl c ↦ omega (arith, c.0, c.1, most, on_most o after.sign after.size) | inr c ↦ omega (arith, c.0, c.1, most, l, p, on_most o after.sign after.size) ]
      go t v k e l (inr p) =
          let r = e ∙ short f o t v k (unit f) p in
          let turned = sign_kept f (next_mean f count m x) after (not o) (off o t v - (on o t v + k)) (unit f) r in
          let across = opposite o after.sign after.size turned in
          elim (one_part o s u) [
            | inl c ↦ omega (arith, c.0, c.1, across.0)
            | inr c ↦
                let a : AtLeast f w (next_mean f count m x) = rw r (round_at_least f w (not o) (off o t v - (on o t v + k)) (unit f) w_finite (pow_pos (low f)) (mul-le-mul_right (unit f) (omega (arith, c.0, c.1, l)))) in
                omega (arith, c.0, c.1, across.0, across.1, size_at_least f (next_mean f count m x) after a)
          ]

  -- so what the sum gains is no number below 0
  module _ (by : Divisor count) (d_finite : T (finite (sub f x m))) (after : InUnits f (next_mean f count m x)) (e_finite : T (finite (sub f x (next_mean f count m x)))) where
    abbrev d : Float
    d = sub f x m

    abbrev e : Float
    e = sub f x (next_mean f count m x)

    d_sum : d ≡ sum f s u (not before.sign) before.size (unit f)
    d_sum = sub_signed f x m s before.sign u before.size (unit f) (pow_pos (low f)) (word_value f w w_finite) before.is

    e_sum : e ≡ sum f s u (not after.sign) after.size (unit f)
    e_sum = sub_signed f x (next_mean f count m x) s after.sign u after.size (unit f) (pow_pos (low f)) (word_value f w w_finite) after.is

    gains_on : (o : Bool) → behind o s u before.sign before.size < ahead o s u before.sign before.size → NoLess (mul f d e)
    gains_on o h = go (either (ahead o s u after.sign after.size) (behind o s u after.sign after.size))
      where
        go : (ahead o s u after.sign after.size ≤ behind o s u after.sign after.size) ⊎ (behind o s u after.sign after.size < ahead o s u after.sign after.size) → NoLess (mul f d e)
        go (inl l) = inr (times_nothing f d e d_finite (nothing_at e_sum (level f o s u after.sign after.size (unit f) (pow_pos (low f)) (le_antisymm (not_passed o by d_finite after h) l))))
        go (inr l) =
            let d_in = in_units f d (sub-fits f x m) d_finite in
            let e_in = in_units f e (sub-fits f x (next_mean f count m x)) e_finite in
            inl (same_signs f d e d_in e_in (sign_kept f d d_in o _ (unit f) (d_sum ∙ on_side f o s u before.sign before.size (unit f) h) ∙ sym (sign_kept f e e_in o _ (unit f) (e_sum ∙ on_side f o s u after.sign after.size (unit f) l))))

    -- the sizes above the mean and below it, of a difference between them
    abbrev above : ℕ
    above = ahead false s u before.sign before.size

    abbrev below : ℕ
    below = behind false s u before.sign before.size

    pub gains : NoLess (mul f d e)
    gains = go (either above below) (either below above)
      where
        go : (above ≤ below) ⊎ (below < above) → (below ≤ above) ⊎ (above < below) → NoLess (mul f d e)
        go (inr l) k = gains_on false l
        go (inl l) (inr k) = gains_on true k
        go (inl l) (inl k) = inr (nothing_times f d e e_finite (nothing_at d_sum (level f false s u before.sign before.size (unit f) (pow_pos (low f)) (le_antisymm k l))))
