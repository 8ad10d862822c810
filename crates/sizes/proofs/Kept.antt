-- What rounding cannot pass, and what it keeps: a word's own number, and a count of units with few digits, which some word has. Assumes nothing.
use Prim.Native.Nat.{ℕ, suc, ◌+◌, ◌*◌, ◌^◌, ◌≤◌, ◌<◌}
use native.Mathlib.Nat.{lt_of_lt_of_le, eq-or-lt_of_le, mul_assoc, pow-succ', mul-le-mul_right, eq_of_mul-eq-mul_right}
use native.Mathlib.Omega.{arith}
use mathlib.Core.Path.{◌≡◌, sym, ap, subst, ◌∙◌}
use mathlib.Core.Logic.{◌⊎◌, inl, inr}
use mathlib.Core.Bool.{Bool}
use lib.Dec.{T, lit<}
use lib.Pow.{pow_pos, pow_mono, shl_lt}
use lib.Ieee.{Float, binary32, round, to_bits}
use lib.Ieee.Exact.{HasValue}
use lib.Ieee.Fits.{round-fits}
use lib.Ieee.Scale.{finite}
use Rattle.format.specs.Value.{units, Finite}
use Rattle.format.proofs.Larger.{units_mono}
use Rattle.format.proofs.Same.{Counted, held}
use Rattle.format.proofs.Value.{value_word}
use Rattle.sizes.proofs.Size.{round_at_most, round_at_least}
use Rattle.sizes.proofs.Words.{at_most_word, at_least_word}

-- a rounded number's word, beside a word v
module _ (s : Bool) (a v : ℕ) (v_finite : Finite binary32 v) where
  abbrev pub y : Float
  y = round binary32 s a (2 ^ 149)

  pub not_over : a ≤ units binary32 v → units binary32 (to_bits binary32 y) ≤ units binary32 v
  not_over h =
      units_mono binary32 (to_bits binary32 y) v
      (at_most_word binary32 v y (round-fits binary32 s a (2 ^ 149)) (round_at_most binary32 v s a (2 ^ 149) v_finite (pow_pos 149) (mul-le-mul_right (2 ^ 149) h)))

  pub not_under : units binary32 v ≤ a → T (finite y) → units binary32 v ≤ units binary32 (to_bits binary32 y)
  not_under h i =
      units_mono binary32 v (to_bits binary32 y)
      (at_least_word binary32 v y (round-fits binary32 s a (2 ^ 149)) i (round_at_least binary32 v s a (2 ^ 149) v_finite (pow_pos 149) (mul-le-mul_right (2 ^ 149) h)))

-- a count of few digits has room
room : {q : ℕ} (j : ℕ) → q < 2 ^ 24 → j ≤ 201 → q * 2 ^ j < 2 ^ 277
room j l h = lt_of_lt_of_le (shl_lt 24 j l) (pow_mono {i = 24 + j} {j = 277} (omega arith))

-- it is kept, with as many digits as the format has and the next power of two too, and a word has it
module _ (s : Bool) (q j : ℕ) (few : q ≤ 2 ^ 24) (low : j ≤ 200) where
  pub kept : HasValue (round binary32 s (q * 2 ^ j) (2 ^ 149)) s (q * 2 ^ j) (2 ^ 149)
  kept = go (eq-or-lt_of_le few)
    where
      go : (q ≡ 2 ^ 24) ⊎ (q < 2 ^ 24) → HasValue (round binary32 s (q * 2 ^ j) (2 ^ 149)) s (q * 2 ^ j) (2 ^ 149)
      go (inl e) =
          let d : 2 ^ 23 * 2 ^ suc j ≡ q * 2 ^ j = ap (λ (n : ℕ). 2 ^ 23 * n) (pow-succ' 2 j) ∙ sym (mul_assoc (2 ^ 23) 2 (2 ^ j)) ∙ ap (λ (n : ℕ). n * 2 ^ j) (sym e) in
          subst (λ (n : ℕ). HasValue (round binary32 s n (2 ^ 149)) s n (2 ^ 149)) d (held binary32 s (2 ^ 23) (suc j) (lit< tt) (room (suc j) (lit< tt) (omega arith)))
      go (inr l) = held binary32 s q j l (room j l (omega arith))

  pub kept_word : Counted binary32 s (q * 2 ^ j) (to_bits binary32 (round binary32 s (q * 2 ^ j) (2 ^ 149)))
  kept_word =
      let v = value_word binary32 _ s (q * 2 ^ j) (2 ^ 149) (round-fits binary32 s (q * 2 ^ j) (2 ^ 149)) kept in
      record { finite = v.finite; sign = v.sign; count = eq_of_mul-eq-mul_right (2 ^ 149) (pow_pos 149) _ (q * 2 ^ j) v.amount }
