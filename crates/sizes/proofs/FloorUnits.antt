-- The floor by its units, 2 ^ 149 of which are 1: how many whole ones it is, and that it is the nearest one on that side. Assumes nothing.
use Prim.Native.Nat.{ℕ, zero, suc, ◌+◌, ◌*◌, ◌/◌, ◌%◌, ◌^◌, ◌≤◌, ◌<◌, zero-le}
use native.Mathlib.Nat.{le_trans, le_of_eq, lt_irrefl, zero-mul, suc-mul, add-zero, le_of_mul-le-mul_right, div-add-mod', mul-le-mul_right}
use native.Mathlib.Omega.{arith}
use mathlib.Core.Path.{◌≡◌, refl, sym, ap, ◌∙◌}
use mathlib.Core.Logic.{inl, inr}
use mathlib.Core.Bool.{Bool, true, false}
use lib.Pow.{pow_pos}
use lib.Ieee.{binary32, round, to_bits}
use lib.Ieee.Fits.{round-fits}
use Rattle.format.specs.Fields.{negative, magnitude}
use Rattle.format.specs.Value.{units, Finite}
use Rattle.format.specs.Meaning.{IsFloor}
use Rattle.format.specs.Whole.{floor_word}
use Rattle.format.proofs.Order.{either}
use Rattle.format.proofs.FloorMeaning.{floor_is}
use Rattle.sizes.proofs.Size.{round_at_most, round_not_negative}
use Rattle.sizes.proofs.Words.{at_most_word, sign_word}

-- r is the floor of a units that are not negative: so many whole ones, and not one more
pub record Down (a r : ℕ) : Type 0 where
  pub wholes : ℕ
  pub finite : Finite binary32 r
  pub sign : negative binary32 r ≡ false
  pub whole : units binary32 r ≡ wholes * 2 ^ 149
  pub least : wholes * 2 ^ 149 ≤ a
  pub most : a < suc wholes * 2 ^ 149

-- and of a units below 0: the next whole one away from 0, if it is not one
pub record Up (a r : ℕ) : Type 0 where
  pub wholes : ℕ
  pub finite : Finite binary32 r
  pub sign : negative binary32 r ≡ true
  pub whole : units binary32 r ≡ wholes * 2 ^ 149
  pub least : a ≤ wholes * 2 ^ 149
  pub most : wholes * 2 ^ 149 < a + 2 ^ 149

-- ---- over plain numbers

whole_turns : (u c : ℕ) → u % c ≡ 0 → u ≡ u / c * c
whole_turns u c h = sym (div-add-mod' u c) ∙ ap (λ (k : ℕ). u / c * c + k) h ∙ add-zero (u / c * c)

no_more : (n c : ℕ) → 0 < c → suc n * c ≤ n * c → ⊥
no_more n c C h = lt_irrefl n (le_of_mul-le-mul_right h C)

first : (u c : ℕ) → 0 < c → 0 < u + c
first u c C = omega arith

stepped : (k c u : ℕ) → k * c < u → suc k * c < u + c
stepped k c u h = omega (arith, suc-mul k c)

nothing_more : (u : ℕ) → 0 + u ≡ 0 → u ≡ 0
nothing_more u d = omega arith

not_nothing : (u v : ℕ) → 0 < v → u + v ≡ 0 → ⊥
not_nothing u v l d = omega arith

-- ---- from what the floor means

module _ (w r : ℕ) (h : IsFloor binary32 w r) where
  abbrev n : ℕ
  n = units binary32 r / 2 ^ 149

  r_is : units binary32 r ≡ n * 2 ^ 149
  r_is = whole_turns (units binary32 r) (2 ^ 149) h.whole

  module _ (p : negative binary32 w ≡ false) where
    clear : negative binary32 r ≡ false
    clear = go (negative binary32 r) refl
      where
        go : (s : Bool) → negative binary32 r ≡ s → s ≡ false
        go false e = refl
        go true e = sym e ∙ h.zero (nothing_more (units binary32 r) (rw (e, zero-mul) at (h.largest false 0 (rw (p, zero-mul) zero-le))))

    pub floor_down : Down (units binary32 w) r
    floor_down =
        record {
          wholes = n;
          finite = h.finite;
          sign = clear;
          whole = r_is;
          least = le_trans (le_of_eq (sym r_is)) (rw (clear, p) at h.below);
          most = elim (either (suc n * 2 ^ 149) (units binary32 w)) [
            | inl l ↦ absurd (no_more n (2 ^ 149) (pow_pos 149) (le_trans (rw clear at (h.largest false (suc n) (rw p l))) (le_of_eq r_is)))
            | inr l ↦ l
          ];
        }

  module _ (p : negative binary32 w ≡ true) (some : 0 < units binary32 w) where
    set : negative binary32 r ≡ true
    set = go (negative binary32 r) refl
      where
        go : (s : Bool) → negative binary32 r ≡ s → s ≡ true
        go true e = refl
        go false e = absurd (not_nothing (units binary32 r) (units binary32 w) some (rw (e, p) at h.below))

    pub floor_up : Up (units binary32 w) r
    floor_up =
        record {
          wholes = n;
          finite = h.finite;
          sign = set;
          whole = r_is;
          least = le_trans (rw (set, p) at h.below) (le_of_eq r_is);
          most = go n refl;
        }
      where
        go : (k : ℕ) → n ≡ k → n * 2 ^ 149 < units binary32 w + 2 ^ 149
        go zero e = rw e (first (units binary32 w) (2 ^ 149) (pow_pos 149))
        go (suc k) e = elim (either (units binary32 w) (k * 2 ^ 149)) [
          | inl l ↦ absurd (no_more k (2 ^ 149) (pow_pos 149) (le_trans (le_of_eq (ap (λ (i : ℕ). i * 2 ^ 149) (sym e) ∙ sym r_is)) (rw set at (h.largest true k (rw p l)))))
          | inr l ↦ rw e (stepped k (2 ^ 149) (units binary32 w) l)
        ]

-- of a count that is not negative, rounded, and no more than a word to 2 ^ 31
pub rounded_down : (n v : ℕ) → Finite binary32 v → magnitude binary32 v ≤ 0x4f00_0000 → n ≤ units binary32 v
    → let w = to_bits binary32 (round binary32 false n (2 ^ 149)) in Down (units binary32 w) (floor_word binary32 w)
rounded_down n v i h l =
    let x = round binary32 false n (2 ^ 149) in
    let w = to_bits binary32 x in
    let most = round_at_most binary32 v false n (2 ^ 149) i (pow_pos 149) (mul-le-mul_right (2 ^ 149) l) in
    floor_down w (floor_word binary32 w)
    (floor_is w (le_trans (at_most_word binary32 v x (round-fits binary32 false n (2 ^ 149)) most) h))
    (sign_word binary32 x (round-fits binary32 false n (2 ^ 149)) most.finite (round_not_negative binary32 n (2 ^ 149)))
