-- How many units a positive normal word is: by its exponent field and fraction, and by its field counted in twos, as a root halves it. Assumes nothing.
use Prim.Native.Nat.{ℕ, zero, suc, ◌+◌, ◌-◌, ◌*◌, ◌/◌, ◌%◌, ◌^◌, ◌≤◌, ◌<◌}
use native.Mathlib.Nat.{mod-eq_of_lt, mod-lt, mul-pos, div-lt_iff_lt-mul, div-add-mod', eq-or-lt_of_le, le_of_lt, add-sub_of_le, mul_left_comm, two-mul, pow-succ'}
use native.Mathlib.Omega.{arith}
use borrow.Author.Tests.{lt-leb}
use mathlib.Core.Path.{◌≡◌, sym, ap, ◌∙◌}
use mathlib.Core.Logic.{◌⊎◌, inl, inr}
use lib.Dec.{lit<}
use lib.Pow.{pow-add}
use lib.Arith.{digits_div, digits_mod}
use lib.Ieee.{Format, binary32, binary64, hid, top}
use Rattle.format.specs.Fields.{negative, inf_word}
use Rattle.format.specs.Value.{units, Finite}
use Rattle.format.specs.Estimates.{Normal}
use Rattle.format.proofs.Fields.{hid_pos}
use Rattle.format.proofs.Order.{either}

pub below_top : (f : Format) (w : ℕ) → w < inf_word f → w < top f
below_top binary32 w h = omega arith
below_top binary64 w h = omega arith

pub finite_below : (f : Format) (w : ℕ) → w < inf_word f → Finite f w
finite_below f w h = rw (mod-eq_of_lt (below_top f w h)) ((div-lt_iff_lt-mul (hid_pos f)).1 h)

-- two words from +0 up to the infinity have one sign bit
pub unsigned_below : (f : Format) (w r : ℕ) → w < inf_word f → r < inf_word f → negative f r ≡ negative f w
unsigned_below f w r h k = lt-leb (top f) r (below_top f r k) ∙ sym (lt-leb (top f) w (below_top f w h))

pub normal_finite : (f : Format) (w : ℕ) → Normal f w → Finite f w
normal_finite f w n = finite_below f w n.below

pub units_of : (f : Format) (w m t : ℕ) → w < inf_word f → w ≡ suc m * hid f + t → t < hid f → units f w ≡ (hid f + t) * 2 ^ m
units_of f w m t h e d = rw (mod-eq_of_lt (below_top f w h), e, digits_div (suc m) d, digits_mod (suc m) d)

-- Twice the units. The fraction may run up to its end, where it is the next field's 0.
pub twice_units : (f : Format) (w m t : ℕ) → Normal f w → w ≡ m * hid f + t → t ≤ hid f → 2 * units f w ≡ (hid f + t) * 2 ^ m
twice_units f w m t n e d = go m (eq-or-lt_of_le d) e
  where
    go : (m : ℕ) → (t ≡ hid f) ⊎ (t < hid f) → w ≡ m * hid f + t → 2 * units f w ≡ (hid f + t) * 2 ^ m
    go m (inl q) e = omega (arith, units_of f w m 0 n.below (omega arith) (hid_pos f), q, ap (λ (x : ℕ). x * 2 ^ m) q)
    go zero (inr q) e = absurd (let z : ⊥ = omega arith in z)
    go (suc m) (inr q) e = rw pow-succ' (ap (λ (x : ℕ). 2 * x) (units_of f w m t n.below e q) ∙ mul_left_comm 2 (hid f + t) (2 ^ m))

-- ---- by twos: the word is (2 * pairs + 1) * hid f + rest

abbrev pub pairs : Format → ℕ → ℕ
pairs f w = (w - hid f) / (2 * hid f)

abbrev pub rest : Format → ℕ → ℕ
rest f w = (w - hid f) % (2 * hid f)

abbrev pub weight : Format → ℕ → ℕ
weight f w = 2 ^ pairs f w * 2 ^ pairs f w

-- the significand against that weight, in the lower field of the two and in the upper
abbrev pub ByTwos : Format → ℕ → Type 0
ByTwos f w = ((rest f w ≤ hid f) × (units f w ≡ (hid f + rest f w) * weight f w)) ⊎ ((hid f ≤ rest f w) × (units f w ≡ 2 * rest f w * weight f w))

carried : (h t k p : ℕ) → h ≤ t → 2 ^ k ≡ p → (h + (t - h)) * 2 ^ suc k ≡ 2 * t * p
carried h t k p l e = rw (add-sub_of_le l, pow-succ', e) (omega arith)

pub rest_lt : (f : Format) (w : ℕ) → rest f w < 2 * hid f
rest_lt f w = mod-lt (w - hid f) (mul-pos (lit< tt) (hid_pos f))

module _ (f : Format) (w : ℕ) (n : Normal f w) where
  pub word_by_twos : w ≡ suc (2 * pairs f w) * hid f + rest f w
  word_by_twos = omega (arith, div-add-mod' (w - hid f) (2 * hid f))

  pub units_by_twos : ByTwos f w
  units_by_twos = go (either (hid f) (rest f w))
    where
      doubled : 2 ^ (2 * pairs f w) ≡ weight f w
      doubled = ap (λ (k : ℕ). 2 ^ k) (two-mul (pairs f w)) ∙ pow-add 2 (pairs f w) (pairs f w)

      go : (hid f ≤ rest f w) ⊎ (rest f w < hid f) → ByTwos f w
      go (inl h) =
          let e = units_of f w (suc (2 * pairs f w)) (rest f w - hid f) n.below (omega (arith, word_by_twos)) (omega (arith, rest_lt f w)) in
          inr (h, e ∙ carried (hid f) (rest f w) (2 * pairs f w) (weight f w) h doubled)
      go (inr h) =
          let e = units_of f w (2 * pairs f w) (rest f w) n.below word_by_twos h in
          inl (le_of_lt h, e ∙ ap (λ (k : ℕ). (hid f + rest f w) * k) doubled)
