-- If every sample that a history had taken is the same word, the sum of squared deviations is +0, and so compares equal to zero: the mean is
-- that word's number from the first on. Assumes nothing.
use Prim.Native.Nat.{ℕ, zero, suc, ◌<◌}
use native.Mathlib.Numerals.{add-one}
use native.Mathlib.Omega.{arith}
use mathlib.Core.Path.{◌≡◌, refl}
use mathlib.Core.List.{List}
use mathlib.Core.Bool.{Bool, true, false}
use lib.Dec.{T}
use lib.Ieee.{Float, nan, inf, fin, binary32, eq, fits, of_bits}
use lib.Ieee.Bits.{of_bits-fits}
use lib.Ieee.Exact.{HasValue}
use Rattle.format.specs.Fields.{negative}
use Rattle.format.specs.Value.{units, Finite}
use Rattle.format.proofs.Value.{word_value}
use Rattle.format.proofs.Same.{zero_of}
use Rattle.grain.specs.declared.Grain.{Grain}
use Rattle.grain.specs.Grain.{fresh, most_samples, taken, turned_away}
use Rattle.grain.specs.History.{after, accepted_in, EachTaken}
use Rattle.grain.proofs.Steady.{settled, mean_of, stays}
use Rattle.grain.proofs.History.{Accepted, along, fresh_counts}

-- a record of samples that are all x
pub record Steady (x : Float) (g : Grain) : Type 0 where
  pub mean_is : g.mean ≡ mean_of g.count x
  pub sum_is : g.sum ≡ zero_of false

-- ---- one offer

taken_steady : (x : Float) (s : Bool) (a c : ℕ) (g : Grain) → HasValue x s a c → T (fits binary32 x) → g.count < most_samples → Steady x g → Steady x (taken g x)
unfolding taken
taken_steady nan s a c g v h l i = absurd v
taken_steady (inf t) s a c g v h l i = absurd v
taken_steady (fin t m e) s a c g v h l i =
    let one = stays binary32 t m e g.count h (omega arith) in
    record {
      mean_is = rw (add-one g.count, i.mean_is) one.mean_is;
      sum_is = rw (add-one g.count, i.mean_is, i.sum_is) one.sum_is;
    }

away_steady : (x : Float) (g : Grain) → Steady x g → Steady x (turned_away g)
unfolding turned_away
away_steady x g i = record { mean_is = i.mean_is; sum_is = i.sum_is }

-- ---- a history

fresh_steady : (x : Float) → Steady x fresh
unfolding of_bits
fresh_steady x = record { mean_is = refl; sum_is = refl }

pub steady_after : (v : ℕ) (ws : List ℕ) → EachTaken (λ w. w ≡ v) fresh ws → Steady (of_bits binary32 v) (after fresh ws)
steady_after v ws h = along (Steady (of_bits binary32 v)) (λ w. w ≡ v) more (away_steady (of_bits binary32 v)) fresh ws h (fresh_steady (of_bits binary32 v))
  where
    more : (g : Grain) (w : ℕ) → Accepted g w → w ≡ v → Steady (of_bits binary32 v) g → Steady (of_bits binary32 v) (taken g (of_bits binary32 w))
    more g w a e i =
        let f : Finite binary32 v = rw e at a.finite in
        rw e (taken_steady (of_bits binary32 v) (negative binary32 v) (units binary32 v) _ g (word_value binary32 v f) (of_bits-fits binary32 v) a.room i)

-- the sum is +0 itself
pub same_word_sum : (v : ℕ) (ws : List ℕ) → EachTaken (λ w. w ≡ v) fresh ws → (after fresh ws).sum ≡ zero_of false
same_word_sum v ws h = (steady_after v ws h).sum_is

pub same_word : (v : ℕ) (ws : List ℕ) → EachTaken (λ w. w ≡ v) fresh ws → eq (after fresh ws).sum (of_bits binary32 0) ≡ true
unfolding eq of_bits
same_word v ws h = rw (same_word_sum v ws h)

-- and the mean is that word's number, +0 for either zero, from the first sample on
pub same_word_mean : (v : ℕ) (ws : List ℕ) → EachTaken (λ w. w ≡ v) fresh ws → 0 < accepted_in fresh ws → (after fresh ws).mean ≡ settled (of_bits binary32 v)
same_word_mean v ws h p = go (after fresh ws).count (fresh_counts ws).0 (steady_after v ws h).mean_is
  where
    go : (n : ℕ) → n ≡ accepted_in fresh ws → (after fresh ws).mean ≡ mean_of n (of_bits binary32 v) → (after fresh ws).mean ≡ settled (of_bits binary32 v)
    go zero e m = absurd (omega arith)
    go (suc n) e m = m
