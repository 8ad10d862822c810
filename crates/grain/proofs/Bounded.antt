-- A record that began fresh holds numbers, however long its history: after n samples the mean is no larger in size than n times binary32 2 ^ 21, and the
-- sum of squared deviations than n times binary32 2 ^ 75. So neither is ever an infinity or a NaN. Assumes nothing.
use Prim.Native.Nat.{ℕ, ◌+◌, ◌*◌, ◌^◌, ◌≤◌, ◌<◌, zero-le}
use native.Mathlib.Nat.{le_trans, le_of_eq, lt_of_le_of_lt, one-mul, mul-pos, mul_comm, mul_assoc, mul-le-mul, mul-le-mul_right, add-mul}
use native.Mathlib.Omega.{arith}
use mathlib.Core.Path.{◌≡◌, refl}
use mathlib.Core.List.{List, [], ◌∷◌}
use mathlib.Core.Bool.{false}
use lib.Dec.{T, leb, ltb, lit≤, lit<, le→leb, lt→ltb}
use lib.IntN.{pos}
use lib.Pow.{pow_mono}
use lib.Ieee.{Float, binary32, ones, sub, of_int, of_bits}
use lib.Ieee.Fits.{and_i}
use lib.Ieee.Scale.{finite}
use Rattle.format.specs.Fields.{exponent}
use Rattle.format.specs.Value.{units}
use Rattle.format.proofs.Same.{Counted, counted}
use Rattle.sizes.proofs.Size.{AtMost, add_fits, add_at_most, sub_at_most, mul_within, div_within}
use Rattle.sizes.proofs.Words.{word_at_most}
use Rattle.grain.specs.declared.Grain.{Grain}
use Rattle.grain.specs.Grain.{fresh, most_samples, largest, taken, turned_away, record_after, next_mean}
use Rattle.grain.specs.History.{after, EachTaken}
use Rattle.grain.proofs.Divisors.{times, divisor_reaches}
use Rattle.grain.proofs.History.{along}

-- ---- bounds

-- few enough that the word is one
abbrev pub Few : ℕ → Type 0
Few n = n ≤ 2 ^ 17

pub times_is : (n j : ℕ) → Few n → j ≤ 224 → Counted binary32 false (n * 2 ^ j) (times binary32 n j)
times_is n j h k = counted binary32 false n j (omega arith) (lt_of_le_of_lt (mul-le-mul h (pow_mono k)) (lit< tt))

fits_added : (b c : ℕ) {d B C D : ℕ} → units binary32 b ≡ B → units binary32 c ≡ C → Counted binary32 false D d → B + C ≤ D → T (add_fits binary32 b c d)
fits_added b c {d} p q r l =
    let n = units binary32 b + units binary32 c in
    and_i (ltb (exponent binary32 d) (ones binary32)) (leb n (units binary32 d))
    (lt→ltb _ _ r.finite) (le→leb n (units binary32 d) (omega (arith, p, q, r.count)))

-- a little more, of so many times b
before_them : (a n b : ℕ) → a ≤ b → a + n * b ≤ (n + 1) * b
before_them a n b h = omega (arith, add-mul n 1 b, one-mul b)

behind_them : (a n b : ℕ) → a ≤ b → n * b + a ≤ (n + 1) * b
behind_them a n b h = omega (arith, add-mul n 1 b, one-mul b)

-- ---- a sample more

pub record Bounded (g : Grain) : Type 0 where
  pub mean_within : AtMost binary32 (times binary32 g.count 170) g.mean
  pub sum_within : AtMost binary32 (times binary32 g.count 224) g.sum

-- the sizes of the steps of one more sample, after n
pub record Steps (n : ℕ) (mean x : Float) : Type 0 where
  pub deviation : AtMost binary32 (times binary32 (n + 1) 170) (sub binary32 x mean)
  pub next : AtMost binary32 (times binary32 (n + 1) 170) (next_mean binary32 (of_int binary32 (pos (n + 1))) mean x)
  pub rest : AtMost binary32 (times binary32 (n + 1 + 1) 170) (sub binary32 x (next_mean binary32 (of_int binary32 (pos (n + 1))) mean x))

pub steps : (n : ℕ) (mean x : Float) → n < most_samples → AtMost binary32 largest x → AtMost binary32 (times binary32 n 170) mean → Steps n mean x
steps n mean x l h i =
    let now = times_is n 170 (omega arith) (lit≤ tt) in
    let step = times_is 1 170 (lit≤ tt) (lit≤ tt) in
    let next = times_is (n + 1) 170 (omega arith) (lit≤ tt) in
    let then = times_is (n + 1 + 1) 170 (omega arith) (lit≤ tt) in
    let by = times_is (n + 1) 149 (omega arith) (lit≤ tt) in
    let d = sub_at_most (times binary32 (n + 1) 170) h i (fits_added largest (times binary32 n 170) refl now.count next (before_them _ n (2 ^ 170) (lit≤ tt))) in
    let q = div_within (times binary32 1 170) d (divisor_reaches binary32 (n + 1) (omega arith)) step.finite (rw by.count (mul-pos (omega arith) (lit< tt))) (rw (next.count, step.count, by.count) (le_of_eq (across (n + 1) (2 ^ 170) (2 ^ 149)))) in
    let m = add_at_most (times binary32 (n + 1) 170) i q (fits_added (times binary32 n 170) (times binary32 1 170) now.count step.count next (behind_them _ n (2 ^ 170) (le_of_eq (one-mul _)))) in
    record {
      deviation = d;
      next = m;
      rest = sub_at_most (times binary32 (n + 1 + 1) 170) h m (fits_added largest (times binary32 (n + 1) 170) refl next.count then (before_them _ (n + 1) (2 ^ 170) (lit≤ tt)));
    }
  where
    across : (n b c : ℕ) → n * b * c ≡ 1 * b * (n * c)
    across n b c = rw (one-mul b, mul_comm n b) (mul_assoc b n c)

pub taken_bounded : (g : Grain) (x : Float) → g.count < most_samples → AtMost binary32 largest x → Bounded g → Bounded (taken g x)
unfolding taken
taken_bounded g x l h i =
    let n = g.count in
    let s = steps n g.mean x l h i.mean_within in
    let next = times_is (n + 1) 170 (omega arith) (lit≤ tt) in
    let then = times_is (n + 1 + 1) 170 (omega arith) (lit≤ tt) in
    let sum_now = times_is n 224 (omega arith) (lit≤ tt) in
    let sum_step = times_is 1 224 (lit≤ tt) (lit≤ tt) in
    let sum_next = times_is (n + 1) 224 (omega arith) (lit≤ tt) in
    let p = mul_within (times binary32 1 224) s.deviation s.rest sum_step.finite (rw (next.count, then.count, sum_step.count) (squared (n + 1) (n + 1 + 1) (omega arith) (omega arith))) in
    record {
      mean_within = s.next;
      sum_within = add_at_most (times binary32 (n + 1) 224) i.sum_within p (fits_added (times binary32 n 224) (times binary32 1 224) sum_now.count sum_step.count sum_next (behind_them _ n (2 ^ 224) (le_of_eq (one-mul _))));
    }
  where
    squared : (a b : ℕ) → a ≤ 2 ^ 16 → b ≤ 2 ^ 17 → a * 2 ^ 170 * (b * 2 ^ 170) ≤ 1 * 2 ^ 224 * 2 ^ 149
    squared a b h k = le_trans (mul-le-mul (mul-le-mul_right (2 ^ 170) h) (mul-le-mul_right (2 ^ 170) k)) (lit≤ tt)

-- ---- a history

pub away_bounded : (g : Grain) → Bounded g → Bounded (turned_away g)
unfolding turned_away
away_bounded g i = record { mean_within = i.mean_within; sum_within = i.sum_within }

pub any : (g : Grain) (ws : List ℕ) → EachTaken (λ w. Unit) g ws
any g [] = tt
any g (w ∷ ws) = ((λ e. tt), any (record_after g w) ws)

pub bounded_after : (g : Grain) (ws : List ℕ) → Bounded g → Bounded (after g ws)
bounded_after g ws i = along Bounded (λ w. Unit) (λ g w a q h. taken_bounded g (of_bits binary32 w) a.room (word_at_most binary32 w largest (lit< tt) a.within) h) away_bounded g ws (any g ws) i

pub fresh_bounded : Bounded fresh
fresh_bounded = record { mean_within = nothing 170 (lit≤ tt); sum_within = nothing 224 (lit≤ tt) }
  where
    nothing : (j : ℕ) → j ≤ 224 → AtMost binary32 (times binary32 0 j) (of_bits binary32 0)
    nothing j h = word_at_most binary32 0 (times binary32 0 j) (times_is 0 j (lit≤ tt) h).finite (zero-le)

-- the mean and the sum are finite
pub fresh_finite : (ws : List ℕ) → T (finite (after fresh ws).mean) × T (finite (after fresh ws).sum)
fresh_finite ws = let b = bounded_after fresh ws fresh_bounded in (b.mean_within.finite, b.sum_within.finite)
