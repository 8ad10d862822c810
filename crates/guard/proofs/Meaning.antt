-- An answered guarded call has its meaning or its bound, with no side condition left: the gate has seen to it. sqrt keeps the order of its
-- operands, and inv takes a turned sign to a turned sign. Assumes nothing.
use Prim.Native.Nat.{ℕ, ◌^◌, ◌≤◌, ◌<◌}
use native.Mathlib.Omega.{arith}
use mathlib.Core.Path.{◌≡◌, refl, sym, ap, ◌∙◌}
use mathlib.Core.Bool.{false}
use lib.Dec.{lit<}
use lib.Ieee.{binary32, nan_bits}
use Rattle.format.specs.Classes.{is_zero}
use Rattle.format.specs.Sign.{turned_word}
use Rattle.format.specs.Value.{units}
use Rattle.format.specs.Meaning.{IsTrunc, IsFract, IsFloor, IsCeil, IsRound}
use Rattle.format.specs.Estimates.{Normal, SqrtBound, InvBound, InvsqrtBound, InvsqrtTight}
use Rattle.format.proofs.Classes.{finite_of, normal_of}
use Rattle.format.proofs.Sign.{turned_magnitude}
use Rattle.format.proofs.PartsMeaning.{trunc_under, fract_under}
use Rattle.format.proofs.FloorMeaning.{floor_is, ceil_is}
use Rattle.format.proofs.RoundMeaning.{round_is_nearest}
use Rattle.format.proofs.Sqrt.{root_bound}
use Rattle.format.proofs.EstimateOrder.{root_keeps_order}
use Rattle.format.proofs.Inv.{inv_sign, inv_bound_by_size}
use Rattle.format.proofs.Invsqrt.{invsqrt_bound, invsqrt_tight}
use Rattle.float.specs.RemEuclid.{LeftBy}
use Rattle.sizes.proofs.Euclid.{divisor_not_zero}
use Rattle.sizes.proofs.Remainder.{rem_euclid_within}
use Rattle.guard.specs.Operations.{op_trunc, op_fract, op_floor, op_ceil, op_round, op_sqrt, op_invsqrt, op_inv, op_rem_euclid}
use Rattle.guard.specs.Gates.{judged}
use Rattle.guard.specs.Refusals.{refusal_behind, refusal_of}
use Rattle.refusals.specs.Given.{Answered, refused_with}
use Rattle.guard.specs.Guarded.{Answer, word_of, given_after, Guards, TurnsSign}
use Rattle.guard.proofs.Gives.{numbered, answered_none, none_answered, answered_word}
use Rattle.guard.proofs.Open.{Open, opened}
use Rattle.guard.proofs.NoNan.{under32, to31, under23, invertible, quotient_under}

-- the gate is open to the operands of an answered call
open_to : (op a b : ℕ) (r : Answer) → Guards op a b r → Answered r → Open op a b
open_to op a b r g h = opened op a b (answered_none g h)

-- what is no zero and has a root is normal
root_operand : (a b : ℕ) (r : Answer) → Guards op_sqrt a b r → Answered r → is_zero binary32 a ≡ false → Normal binary32 a
root_operand a b r g h z = let o = open_to op_sqrt a b r g h in normal_of binary32 a o.first z o.small o.sign

module _ (a b : ℕ) (r : Answer) where
  pub trunc_means : a < 2 ^ 32 → Guards op_trunc a b r → Answered r → IsTrunc binary32 a (word_of r)
  unfolding judged
  trunc_means k g h = rw (answered_word g h) (trunc_under binary32 a k (under32 a (open_to op_trunc a b r g h).gate))

  pub fract_means : Guards op_fract a b r → Answered r → IsFract binary32 a (word_of r)
  unfolding judged
  fract_means g h = rw (answered_word g h) (fract_under binary32 a (under32 a (open_to op_fract a b r g h).gate))

  pub floor_means : Guards op_floor a b r → Answered r → IsFloor binary32 a (word_of r)
  unfolding judged
  floor_means g h = rw (answered_word g h) (floor_is a (to31 a (open_to op_floor a b r g h).gate))

  pub ceil_means : Guards op_ceil a b r → Answered r → IsCeil binary32 a (word_of r)
  unfolding judged
  ceil_means g h = rw (answered_word g h) (ceil_is a (to31 a (open_to op_ceil a b r g h).gate))

  pub round_means : Guards op_round a b r → Answered r → IsRound binary32 a (word_of r)
  unfolding judged
  round_means g h = rw (answered_word g h) (round_is_nearest a (under23 a (open_to op_round a b r g h).gate))

  -- ---- the estimates

  -- a zero, which is its own root, and a normal number
  pub sqrt_bounded : Guards op_sqrt a b r → Answered r → SqrtBound binary32 a (word_of r)
  sqrt_bounded g h = rw (answered_word g h) (root_bound binary32 a (root_operand a b r g h))

  invsqrt_normal : Guards op_invsqrt a b r → Answered r → Normal binary32 a
  invsqrt_normal g h = let o = open_to op_invsqrt a b r g h in normal_of binary32 a o.first o.zero o.small o.sign

  pub invsqrt_bounded : Guards op_invsqrt a b r → Answered r → InvsqrtBound a (word_of r)
  invsqrt_bounded g h = rw (answered_word g h) (invsqrt_bound a (invsqrt_normal g h))

  pub invsqrt_tightly : Guards op_invsqrt a b r → Answered r → InvsqrtTight a (word_of r)
  invsqrt_tightly g h = rw (answered_word g h) (invsqrt_tight a (invsqrt_normal g h))

  pub inv_bounded : a < 2 ^ 32 → Guards op_inv a b r → Answered r → InvBound binary32 a (word_of r)
  inv_bounded k g h = rw (answered_word g h) (inv_bound_by_size binary32 a k (invertible a b (open_to op_inv a b r g h)))

  -- ---- the remainder

  pub rem_euclid_left : Guards op_rem_euclid a b r → Answered r → LeftBy b (word_of r)
  unfolding judged
  rem_euclid_left g h =
      let o = open_to op_rem_euclid a b r g h in
      rw (answered_word g h) (rem_euclid_within a b (finite_of binary32 a o.first) (finite_of binary32 b o.second) (divisor_not_zero a b (quotient_under a b o.gate)))

-- ---- the order of sqrt

-- of two answered calls the one with the larger operand has no smaller a root
pub sqrt_never_falls : (a b c d : ℕ) (r s : Answer) → Guards op_sqrt a b r → Guards op_sqrt c d s → Answered r → Answered s → units binary32 a ≤ units binary32 c
    → units binary32 (word_of r) ≤ units binary32 (word_of s)
sqrt_never_falls a b c d r s g t h k l = rw (answered_word g h, answered_word t k) (root_keeps_order binary32 a c (root_operand a b r g h) (root_operand c d s t k) l)

-- ---- the sign of inv

-- a sign changes no refusal of inv, since its tests and its gate look at the magnitude
pub inv_refused_alike : (a b : ℕ) → refusal_of op_inv (turned_word binary32 a) b ≡ refusal_of op_inv a b
unfolding refusal_behind judged
inv_refused_alike a b = rw (turned_magnitude binary32 a)

pub inv_turns : (a : ℕ) (r : Answer) → a < 2 ^ 32 → Guards op_inv a 0 r → TurnsSign op_inv a r
inv_turns a r k g s t = (t.refusal ∙ inv_refused_alike a 0 ∙ sym g.refusal, turned)
  where
    turned : Answered r → word_of s ≡ turned_word binary32 (word_of r)
    turned h =
        answered_word t (none_answered t (inv_refused_alike a 0 ∙ answered_none g h)) ∙ inv_sign binary32 a k ∙ ap (turned_word binary32) (sym (answered_word g h))

-- a call of 1 that answers -1, as the call of -1 does, is none of these, and neither is one that refuses 1
pub sign_is_told : (TurnsSign op_inv 0x3f80_0000 (given_after 0 0 0xbf80_0000) → ⊥) × (TurnsSign op_inv 0x3f80_0000 (refused_with 4) → ⊥)
unfolding nan_bits refusal_behind judged
sign_is_told =
    let g : Guards op_inv 0xbf80_0000 0 (given_after 0 0 0xbf80_0000) = numbered 0 0xbf80_0000 (lit< tt) refl refl in (
      λ t. let z : ◌≡◌ {A = ℕ} 0xbf80_0000 0x3f80_0000 = sym g.word ∙ (t _ g).1 tt ∙ ap (turned_word binary32) g.word in omega arith,
      λ t. let z : ◌≡◌ {A = ℕ} 0 4 = (t _ g).0 in omega arith,
    )
