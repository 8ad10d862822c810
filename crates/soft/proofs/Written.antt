-- The word of q * 2 ^ k units is k * hid + q: below the normal numbers, among them, and where q has carried. Assumes nothing.
use Prim.Native.Nat.{ℕ, zero, suc, ◌+◌, ◌-◌, ◌*◌, ◌^◌, ◌≤◌, ◌<◌}
use native.Mathlib.Nat.{mod-eq_of_lt, div-eq_of_lt, mul-one, le_antisymm, le_of_eq, pow-succ', eq-or-lt_of_le}
use native.Mathlib.Omega.{arith}
use mathlib.Core.Path.{◌≡◌, sym, ap, ◌∙◌}
use mathlib.Core.Logic.{◌⊎◌, inl, inr}
use mathlib.Core.Bool.{Bool}
use lib.Ieee.{Format, binary32, binary64, hid, top, low, prec, round, to_bits}
use lib.Ieee.Scale.{grid, overflow}
use lib.Ieee.Order.{drop, kept}
use Rattle.format.specs.Fields.{inf_word, magnitude}
use Rattle.format.specs.Value.{units}
use Rattle.format.proofs.Fields.{hid_pos}
use Rattle.format.proofs.Order.{either}
use Rattle.format.proofs.Normal.{below_top, units_of}
use Rattle.format.proofs.Larger.{magnitude_mono}
use Rattle.soft.proofs.Rounded.{rounded_units}

small_top : (f : Format) (q : ℕ) → q < hid f → q < top f
small_top binary32 q h = omega arith
small_top binary64 q h = omega arith

low_units : (f : Format) (q : ℕ) → q < hid f → units f q ≡ q
low_units f q h = rw (mod-eq_of_lt (small_top f q h), div-eq_of_lt h) (mod-eq_of_lt h)

written_units : (f : Format) (k q : ℕ) → (0 < k → hid f ≤ q) → q ≤ 2 * hid f → k * hid f + q < inf_word f → units f (k * hid f + q) ≡ q * 2 ^ k
written_units f k q lo hi fits = go k (either (hid f) q) lo fits
  where
    lead : (k : ℕ) → hid f ≤ q → (q ≡ 2 * hid f) ⊎ (q < 2 * hid f) → k * hid f + q < inf_word f → units f (k * hid f + q) ≡ q * 2 ^ k
    lead k l (inr m) fits =
        units_of f (k * hid f + q) k (q - hid f) fits (let z : k * hid f + q ≡ suc k * hid f + (q - hid f) = omega arith in z) (omega arith)
        ∙ ap (λ (n : ℕ). n * 2 ^ k) (let z : hid f + (q - hid f) ≡ q = omega arith in z)
    lead k l (inl m) fits =
        units_of f (k * hid f + q) (suc k) 0 fits (let z : k * hid f + q ≡ suc (suc k) * hid f + 0 = omega arith in z) (hid_pos f)
        ∙ (let z : (hid f + 0) * 2 ^ suc k ≡ q * 2 ^ k = rw (m, pow-succ' 2 k) (omega arith) in z)

    go : (k : ℕ) → (hid f ≤ q) ⊎ (q < hid f) → (0 < k → hid f ≤ q) → k * hid f + q < inf_word f → units f (k * hid f + q) ≡ q * 2 ^ k
    go k (inl l) lo fits = lead k l (eq-or-lt_of_le hi) fits
    go zero (inr l) lo fits = let e : 0 * hid f + q ≡ q = omega arith in rw e (low_units f q l ∙ sym (mul-one q))
    go (suc k) (inr l) lo fits = absurd (let z : ⊥ = omega (arith, lo (omega arith)) in z)

-- what the rounding writes, short of the sign, where it does not overflow
module _ (f : Format) (s : Bool) (a c : ℕ) (C : 0 < c) (small : grid f a c < overflow f) where
  abbrev q : ℕ
  q = kept (prec f) (a * 2 ^ low f) c

  abbrev k : ℕ
  k = drop (prec f) (a * 2 ^ low f) c

  pub rounded_word : (0 < k → hid f ≤ q) → q ≤ 2 * hid f → k * hid f + q < inf_word f → magnitude f (to_bits f (round f s a c)) ≡ k * hid f + q
  rounded_word lo hi fits =
      let u = rounded_units f s a c C small in
      let w = written_units f k q lo hi fits in
      let m = mod-eq_of_lt (below_top f (k * hid f + q) fits) in
      le_antisymm (magnitude_mono f (to_bits f (round f s a c)) (k * hid f + q) (le_of_eq (u ∙ sym w))) (magnitude_mono f (k * hid f + q) (to_bits f (round f s a c)) (le_of_eq (w ∙ sym u)))
      ∙ m
