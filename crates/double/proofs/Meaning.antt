-- An answered guarded call has its meaning or its bound, with no side condition left: the gate has seen to it. sqrt keeps the order of its
-- operands, inv takes a turned sign to a turned sign, and no answer is a NaN. Assumes nothing.
use Prim.Native.Nat.{ℕ, ◌+◌, ◌^◌, ◌≤◌, ◌<◌}
use native.Mathlib.Nat.{suc-ne-zero}
use native.Mathlib.Omega.{arith}
use mathlib.Core.Path.{◌≡◌, refl, sym, ap, ◌∙◌}
use mathlib.Core.Bool.{Bool, true, false, cond}
use lib.Dec.{lit<}
use lib.Ieee.{binary64, nan_bits, of_bits}
use Rattle.format.specs.Sign.{turned_word}
use Rattle.format.specs.Value.{units}
use Rattle.format.specs.Meaning.{IsTrunc, IsFract}
use Rattle.format.specs.Estimates.{SqrtBound, InvBound}
use Rattle.format.proofs.Sign.{turned_magnitude}
use Rattle.format.proofs.PartsMeaning.{trunc_under, fract_under, parts_sum}
use Rattle.format.proofs.Sqrt.{root_bound}
use Rattle.format.proofs.EstimateOrder.{root_keeps_order}
use Rattle.format.proofs.Inv.{inv_sign, inv_bound_by_size}
use Rattle.std.specs.Prelude.{Float, Result}
use Rattle.refusals.specs.declared.Refusal.{Refusal}
use Rattle.refusals.specs.Given.{Answered, refused_with, given}
use Rattle.double.specs.Operations.{op_trunc, op_fract, op_sqrt, op_inv, is_known}
use Rattle.double.specs.Refusals.{refusal_behind, refusal_of}
use Rattle.double.specs.Guarded.{word_in, Guards, TurnsSign, GuardsByNumber}
use Rattle.double.proofs.Gives.{numbered, answered_none, none_answered, answered_word}
use Rattle.double.proofs.NoNan.{trunc_open, fract_open, sqrt_open, inv_open, no_nan}

module _ (a : ℕ) (r : Result Float Refusal) where
  pub trunc_means : a < 2 ^ 64 → Guards op_trunc a r → Answered r → IsTrunc binary64 a (word_in r)
  trunc_means k g h = rw (answered_word g h) (trunc_under binary64 a k (trunc_open a (answered_none g h)))

  pub fract_means : Guards op_fract a r → Answered r → IsFract binary64 a (word_in r)
  fract_means g h = rw (answered_word g h) (fract_under binary64 a (fract_open a (answered_none g h)))

  -- a zero, which is its own root, and a normal number
  pub sqrt_bounded : Guards op_sqrt a r → Answered r → SqrtBound binary64 a (word_in r)
  sqrt_bounded g h = rw (answered_word g h) (root_bound binary64 a (sqrt_open a (answered_none g h)))

  pub inv_bounded : a < 2 ^ 64 → Guards op_inv a r → Answered r → InvBound binary64 a (word_in r)
  inv_bounded k g h = rw (answered_word g h) (inv_bound_by_size binary64 a k (inv_open a (answered_none g h)))

-- the two parts of a double sum to it exactly
pub parts_of_double : (a : ℕ) (r s : Result Float Refusal) → a < 2 ^ 64 → Guards op_trunc a r → Guards op_fract a s → Answered r → Answered s
    → units binary64 (word_in r) + units binary64 (word_in s) ≡ units binary64 a
parts_of_double a r s k g h p q = parts_sum binary64 a _ _ (trunc_means a r k g p) (fract_means a s h q)

-- ---- the order of sqrt

-- of two answered calls the one with the larger operand has no smaller a root
pub sqrt_never_falls : (a b : ℕ) (r s : Result Float Refusal) → Guards op_sqrt a r → Guards op_sqrt b s → Answered r → Answered s → units binary64 a ≤ units binary64 b
    → units binary64 (word_in r) ≤ units binary64 (word_in s)
sqrt_never_falls a b r s g t h k l = rw (answered_word g h, answered_word t k) (root_keeps_order binary64 a b (sqrt_open a (answered_none g h)) (sqrt_open b (answered_none t k)) l)

-- ---- the sign of inv

-- a sign changes no refusal of inv, since its tests and its gate look at the magnitude
pub inv_refused_alike : (a : ℕ) → refusal_of op_inv (turned_word binary64 a) ≡ refusal_of op_inv a
unfolding refusal_behind
inv_refused_alike a = rw (turned_magnitude binary64 a)

pub inv_turns : (a : ℕ) (r : Result Float Refusal) → a < 2 ^ 64 → Guards op_inv a r → TurnsSign op_inv a r
inv_turns a r k g s t = (t.refusal ∙ inv_refused_alike a ∙ sym g.refusal, turned)
  where
    turned : Answered r → word_in s ≡ turned_word binary64 (word_in r)
    turned h =
        answered_word t (none_answered t (inv_refused_alike a ∙ answered_none g h)) ∙ inv_sign binary64 a k ∙ ap (turned_word binary64) (sym (answered_word g h))

-- a call of 1 that answers -1, as the call of -1 does, is none of these, and neither is one that refuses 1
pub sign_is_told : (TurnsSign op_inv 0x3ff0_0000_0000_0000 (given 0 (of_bits binary64 0xbff0_0000_0000_0000)) → ⊥) × (TurnsSign op_inv 0x3ff0_0000_0000_0000 (refused_with 4) → ⊥)
unfolding nan_bits refusal_behind
sign_is_told =
    let g : Guards op_inv 0xbff0_0000_0000_0000 (given 0 (of_bits binary64 0xbff0_0000_0000_0000)) = numbered 0 0xbff0_0000_0000_0000 (lit< tt) refl refl in (
      λ t. let z : ◌≡◌ {A = ℕ} 0xbff0_0000_0000_0000 0x3ff0_0000_0000_0000 = sym g.word ∙ (t _ g).1 tt ∙ ap (turned_word binary64) g.word in omega arith,
      λ t. let z : ◌≡◌ {A = ℕ} 0 4 = (t _ g).0 in omega arith,
    )

-- ---- no answer is a NaN, whatever the number of the call

pub never_a_nan : (op a : ℕ) (r : Result Float Refusal) → a < 2 ^ 64 → GuardsByNumber op a r → Answered r → nan_bits binary64 (word_in r) ≡ false
never_a_nan op a r k g h = let s = split (is_known op) (refusal_of op a) (answered_none g h) in rw (answered_word g h) (no_nan op a k s.0 s.1)
  where
    split : (b : Bool) (n : ℕ) → cond b n 6 ≡ 0 → (b ≡ true) × (n ≡ 0)
    split true n e = (refl, e)
    split false n e = absurd (suc-ne-zero 5 e)
