-- The sum of squared deviations of a record that began fresh is never below 0: the first sample leaves it +0, and what each other adds to it is no number
-- below 0. Assumes nothing.
use Prim.Native.Nat.{ℕ, zero, suc, ◌+◌, ◌*◌, ◌^◌, ◌≤◌, ◌<◌}
use native.Mathlib.Nat.{le_trans, le_of_lt, lt_of_le_of_lt, zero-mul, mul-le-mul_right, add-le-add}
use native.Mathlib.Numerals.{add-one}
use native.Mathlib.Omega.{arith}
use mathlib.Core.Path.{◌≡◌, refl, sym, subst}
use mathlib.Core.Logic.{inl, inr}
use mathlib.Core.List.{List}
use mathlib.Core.Bool.{Bool, true, false}
use lib.Dec.{T, ltb, lt→ltb, lit≤, lit<}
use lib.IntN.{pos}
use lib.Ieee.{Float, nan, inf, fin, binary32, emax, low, up, down, neg, add, sub, mul, le, of_int, of_bits, fits}
use lib.Ieee.Bits.{of_bits-fits}
use lib.Ieee.Exact.{HasValue}
use lib.Ieee.Fits.{down_pos, add-fits}
use lib.Ieee.Order.{le_of_values}
use lib.Ieee.Scale.{finite}
use Rattle.format.specs.Fields.{negative}
use Rattle.format.specs.Value.{units}
use Rattle.format.proofs.Value.{word_value}
use Rattle.format.proofs.Same.{zero_of}
use Rattle.format.proofs.Exact.{less_zero}
use Rattle.format.proofs.Larger.{units_mono}
use Rattle.sizes.proofs.Size.{AtMost, NotNegative, add_not_negative}
use Rattle.sizes.proofs.Words.{word_at_most}
use Rattle.grain.specs.declared.Grain.{Grain}
use Rattle.grain.specs.Grain.{fresh, most_samples, largest, taken, turned_away, next_mean, next_sum}
use Rattle.grain.specs.History.{after}
use Rattle.grain.proofs.History.{Accepted, along}
use Rattle.grain.proofs.Divisors.{divisor}
use Rattle.grain.proofs.Steady.{stays}
use Rattle.grain.proofs.Bounded.{times_is, Bounded, steps, taken_bounded, away_bounded, any, fresh_bounded}
use Rattle.grain.proofs.Toward.{NoLess, in_units, size_at_most, gains}

risen : (s p : Float) → T (fits binary32 s) → T (finite s) → NotNegative s → NoLess p → NotNegative (add binary32 s p)
unfolding sub neg
risen s p f h n (inl k) = add_not_negative binary32 n k
risen s p f h n (inr k) = rw k.is (go s f h n k.sign)
  where
    go : (s : Float) → T (fits binary32 s) → T (finite s) → NotNegative s → (t : Bool) → NotNegative (add binary32 s (zero_of t))
    go s f h n false = add_not_negative binary32 n (record { plus = refl })
    go nan f h n true = absurd h
    go (inf t) f h n true = absurd h
    go (fin t m e) f h n true = subst NotNegative (sym (less_zero binary32 t m e f)) n

record Rising (g : Grain) : Type 0 where
  pub bounded : Bounded g
  pub mean_fits : T (fits binary32 g.mean)
  pub sum_fits : T (fits binary32 g.sum)
  pub not_below : NotNegative g.sum
  pub at_first : g.count ≡ 0 → (g.mean ≡ zero_of false) × (g.sum ≡ zero_of false)

-- the first sample
first : (x : Float) (s : Bool) (a c : ℕ) → HasValue x s a c → T (fits binary32 x) → next_sum binary32 (of_int binary32 (pos 1)) (zero_of false) (zero_of false) x ≡ zero_of false
first nan s a c v h = absurd v
first (inf t) s a c v h = absurd v
first (fin t m e) s a c v h = (stays binary32 t m e 0 h (lit< tt)).sum_is

little : (u v n : ℕ) → u ≤ units binary32 largest → v ≤ n * 2 ^ 170 → n < most_samples → T (ltb (u + v) (2 ^ (low binary32 + emax binary32)))
little u v n h k l = lt→ltb (u + v) (2 ^ (low binary32 + emax binary32)) (lt_of_le_of_lt (add-le-add h (le_trans k (mul-le-mul_right (2 ^ 170) (le_of_lt l)))) (lit< tt))

taken_rising : (g : Grain) (w : ℕ) → Accepted g w → Rising g → Rising (taken g (of_bits binary32 w))
unfolding taken
taken_rising g w a i = record {
  bounded = taken_bounded g x a.room x_within i.bounded;
  mean_fits = add-fits binary32 _ _;
  sum_fits = add-fits binary32 _ _;
  not_below = go g.count refl;
  at_first = λ e. absurd (omega arith);
}
  where
    x : Float
    x = of_bits binary32 w

    x_within : AtMost binary32 largest x
    x_within = word_at_most binary32 w largest (lit< tt) a.within

    go : (n : ℕ) → g.count ≡ n → NotNegative (add binary32 g.sum (mul binary32 (sub binary32 x g.mean) (sub binary32 x (next_mean binary32 (of_int binary32 (pos (g.count + 1))) g.mean x))))
    go zero e = let f = i.at_first e in rw (e, f.0, f.1) (subst NotNegative (sym (first x (negative binary32 w) (units binary32 w) _ (word_value binary32 w a.finite) (of_bits-fits binary32 w))) (record { plus = refl }))
    go (suc n) e =
        let b = i.bounded in
        let now = g.count in
        let st = steps now g.mean x a.room x_within b.mean_within in
        let before = in_units binary32 g.mean i.mean_fits b.mean_within.finite in
        let after = in_units binary32 (next_mean binary32 (of_int binary32 (pos (now + 1))) g.mean x) (add-fits binary32 _ _) st.next.finite in
        risen g.sum _ i.sum_fits b.sum_within.finite i.not_below
        (gains binary32 w (now + 1) g.mean a.finite (omega arith) (omega (arith, a.room)) before (little _ _ now (units_mono binary32 w largest a.within) (rw (times_is now 170 (omega (arith, a.room)) (lit≤ tt)).count at (size_at_most binary32 g.mean before b.mean_within)) a.room)
        (rw (add-one now) (divisor binary32 now (omega (arith, a.room)))) st.deviation.finite after st.rest.finite)

away_rising : (g : Grain) → Rising g → Rising (turned_away g)
unfolding turned_away
away_rising g i = record { bounded = away_bounded g i.bounded; mean_fits = i.mean_fits; sum_fits = i.sum_fits; not_below = i.not_below; at_first = i.at_first }

fresh_rising : Rising fresh
unfolding of_bits
fresh_rising = record { bounded = fresh_bounded; mean_fits = of_bits-fits binary32 0; sum_fits = of_bits-fits binary32 0; not_below = record { plus = refl }; at_first = λ e. (refl, refl) }

rising_after : (ws : List ℕ) → Rising (after fresh ws)
rising_after ws = along Rising (λ w. Unit) (λ g w a q i. taken_rising g w a i) away_rising fresh ws (any fresh ws) fresh_rising

-- the sum compares as at least 0, and is not -0
pub fresh_not_below : (ws : List ℕ) → NotNegative (after fresh ws).sum
fresh_not_below ws = (rising_after ws).not_below

pub fresh_from_zero : (ws : List ℕ) → T (le (of_bits binary32 0) (after fresh ws).sum)
unfolding of_bits
fresh_from_zero ws = go (after fresh ws).sum (rising_after ws).bounded.sum_within.finite (fresh_not_below ws)
  where
    go : (x : Float) → T (finite x) → NotNegative x → T (le (zero_of false) x)
    go nan h n = absurd h
    go (inf s) h n = absurd h
    go (fin s m e) h n = le_of_values (zero_of false) (fin s m e) 0 1 (m * up e) (down e) (omega arith) (down_pos e) (refl, refl) (n.plus, refl) (omega (arith, zero-mul (down e)))
