-- What an offer answers, by the first of the four tests that holds. Assumes nothing.
use Prim.Native.Nat.{ℕ, ◌+◌, ◌≤◌, ◌<◌}
use mathlib.Core.Path.{◌≡◌}
use borrow.Author.Tests.{le-leb, lt-leb, le-ltb, lt-ltb, eq-eqb, ne_eqb}
use lib.Ieee.{Float, binary32, ones, of_bits}
use Rattle.format.specs.Fields.{magnitude, exponent}
use Rattle.grain.specs.declared.Grain.{Grain}
use Rattle.grain.specs.Grain.{most_offers, most_samples, largest, taken, turned_away, refusal_of, record_after, offered}

-- of each, the record comes first and the tests that led there last
module _ (g : Grain) (w : ℕ) where
  pub worn_out : most_offers ≤ g.count + g.refused → record { refusal = 12; grain = g } ≡ offered g w
  unfolding offered refusal_of record_after
  worn_out a = rw (le-leb most_offers (g.count + g.refused) a)

  pub no_number : (r : Grain) → r ≡ turned_away g → g.count + g.refused < most_offers → exponent binary32 w ≡ ones binary32
      → record { refusal = 1; grain = r } ≡ offered g w
  unfolding offered refusal_of record_after
  no_number r e a b = rw (e, lt-leb most_offers (g.count + g.refused) a, eq-eqb (exponent binary32 w) (ones binary32) b)

  pub too_large : (r : Grain) → r ≡ turned_away g → g.count + g.refused < most_offers → (exponent binary32 w ≡ ones binary32 → ⊥) → largest < magnitude binary32 w
      → record { refusal = 4; grain = r } ≡ offered g w
  unfolding offered refusal_of record_after
  too_large r e a b c = rw (e, lt-leb most_offers (g.count + g.refused) a, ne_eqb (exponent binary32 w) (ones binary32) b, lt-ltb largest (magnitude binary32 w) c)

  pub full : (r : Grain) → r ≡ turned_away g → g.count + g.refused < most_offers → (exponent binary32 w ≡ ones binary32 → ⊥) → magnitude binary32 w ≤ largest → most_samples ≤ g.count
      → record { refusal = 11; grain = r } ≡ offered g w
  unfolding offered refusal_of record_after
  full r e a b c d = rw (e, lt-leb most_offers (g.count + g.refused) a, ne_eqb (exponent binary32 w) (ones binary32) b, le-ltb largest (magnitude binary32 w) c, le-leb most_samples g.count d)

  pub answered : (x : Float) (r : Grain) → x ≡ of_bits binary32 w → r ≡ taken g x → g.count + g.refused < most_offers → (exponent binary32 w ≡ ones binary32 → ⊥) → magnitude binary32 w ≤ largest → g.count < most_samples
      → record { refusal = 0; grain = r } ≡ offered g w
  unfolding offered refusal_of record_after
  answered x r v e a b c d = rw (e, v, lt-leb most_offers (g.count + g.refused) a, ne_eqb (exponent binary32 w) (ones binary32) b, le-ltb largest (magnitude binary32 w) c, lt-leb most_samples g.count d)
