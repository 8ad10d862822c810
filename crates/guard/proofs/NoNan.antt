-- No answered value is a NaN, over all operations: what an operation that is not refused knows of its operands is what its kernel's law
-- asks for. Assumes nothing.
use Prim.Native.Nat.{ℕ, ◌^◌, ◌≤◌, ◌<◌}
use native.Mathlib.Nat.{le_refl, le_of_lt, pos_of_ne-zero}
use native.Mathlib.Omega.{arith}
use mathlib.Core.Path.{◌≡◌, refl, sym, ap, ◌∙◌}
use mathlib.Core.Logic.{◌⊎◌, inl, inr}
use mathlib.Core.Bool.{Bool, true, false, cond, ◌&&◌, true≢false, false≢true}
use borrow.Author.Tests.{leb-true, leb-false, eqb-true, eqb-false}
use lib.Dec.{T, leb, eqb, lit<}
use mir.Syntax.{w32}
use mir.Val.{of_z, to_z}
use mir.Facts.{of_z-to_z}
use lib.Ieee.{Float, nan, binary32, top, fits, nan_bits, of_bits, to_bits}
use lib.Ieee.Bits.{of_bits-to_bits}
use lib.Ieee.Fits.{mul-fits}
use Rattle.format.specs.Classes.{is_endless, is_zero}
use Rattle.format.specs.Fields.{magnitude, inf_word}
use Rattle.format.specs.Meaning.{Under32, To31, Under23}
use Rattle.format.specs.Estimates.{Invertible}
use Rattle.format.proofs.Classes.{finite_of, above_small, normal_of}
use Rattle.format.proofs.Fields.{magnitude_lt}
use Rattle.format.proofs.Nan.{nan_read, nan_written, finite_number}
use Rattle.float.specs.Engine.{ieee}
use Rattle.float.specs.Atan.{atan_norm_word}
use Rattle.float.specs.Cos.{cos_word}
use Rattle.float.specs.Powf.{product_word}
use Rattle.float.specs.DivEuclid.{quotient_word}
use Rattle.raw.specs.Raw.{Kernel, none, kernels}
use Rattle.sizes.proofs.Bitwise.{trunc_number, fract_number, floor_number, ceil_number, round_number, abs_number, copysign_number, signum_number, sqrt_number, invsqrt_number, inv_number}
use Rattle.sizes.proofs.Recip.{recip_number}
use Rattle.sizes.proofs.Exp.{exp_number}
use Rattle.sizes.proofs.Ln.{ln_number}
use Rattle.sizes.proofs.Powf.{powf_number}
use Rattle.sizes.proofs.Atan.{atan_number, atan_norm_number}
use Rattle.sizes.proofs.Atan2.{atan2_number}
use Rattle.sizes.proofs.Cos.{cos_number, sin_number}
use Rattle.sizes.proofs.Hypot.{hypot_number}
use Rattle.sizes.proofs.Powi.{powi_number}
use Rattle.sizes.proofs.Asin.{asin_number}
use Rattle.sizes.proofs.Acos.{acos_number}
use Rattle.sizes.proofs.Tan.{tan_number}
use Rattle.sizes.proofs.Euclid.{rem_euclid_number, div_euclid_number}
use Rattle.guard.specs.declared.gate.Gate.{Gate}
use Rattle.guard.specs.Operations.{op_trunc, op_floor, op_round, op_sqrt, op_inv, op_recip, op_exp, op_atan, op_atan2, op_cos, op_asin, op_acos, op_tan, op_div_euclid}
use Rattle.guard.specs.Gates.{gate_of, judged, place, within, passes, larger, unless_zero}
use Rattle.guard.specs.Refusals.{is_past_power, refusal_of}
use Rattle.guard.specs.Guarded.{value_at, value_of}
use Rattle.guard.proofs.Each.{Each, done, ◌⨟◌, of_each}
use Rattle.guard.proofs.Open.{Open, opened, Between, both, parted, plain, between_or, between}

-- ---- the magnitude that an open gate has let pass

by_magnitude : (g : Gate) (a : ℕ) → plain g ≡ true → passes g (magnitude binary32 a) ≡ true → Between g (magnitude binary32 a)
by_magnitude g a t e = between g (magnitude binary32 a) t (magnitude_lt binary32 a) e

-- ---- the operands as the kernels' laws have them

module _ (a : ℕ) where
  pub under32 : passes (gate_of op_trunc) (magnitude binary32 a) ≡ true → Under32 a
  under32 e = let r = by_magnitude (gate_of op_trunc) a refl e in omega arith

  pub to31 : passes (gate_of op_floor) (magnitude binary32 a) ≡ true → To31 a
  to31 e = (by_magnitude (gate_of op_floor) a refl e).high

  pub under23 : passes (gate_of op_round) (magnitude binary32 a) ≡ true → Under23 a
  under23 e = let r = by_magnitude (gate_of op_round) a refl e in record { under = omega arith; clear = r.clear }

  under64 : passes (gate_of op_atan) (magnitude binary32 a) ≡ true → magnitude binary32 a < 0x5f80_0000
  under64 e = let r = by_magnitude (gate_of op_atan) a refl e in omega arith

pub invertible : (a b : ℕ) → Open op_inv a b → Invertible binary32 (magnitude binary32 a)
unfolding judged
invertible a b o = record { above = above_small binary32 a o.zero o.small; below = (by_magnitude (gate_of op_inv) a refl o.gate).high }

module _ (a : ℕ) where
  to125 : passes (gate_of op_recip) (magnitude binary32 a) ≡ true → magnitude binary32 a ≤ 0x7e00_0000
  to125 e = let r = by_magnitude (gate_of op_recip) a refl e in omega arith

  -- for sin and tan too, whose rows are the same
  to1024 : passes (gate_of op_cos) (magnitude binary32 a) ≡ true → magnitude binary32 a ≤ 0x4480_0000
  to1024 e = let r = by_magnitude (gate_of op_cos) a refl e in omega arith

  under1 : passes (gate_of op_asin) (magnitude binary32 a) ≡ true → magnitude binary32 a < 0x3f80_0000
  under1 e = let r = by_magnitude (gate_of op_asin) a refl e in omega arith

  -- acos's row has a 0 outside its ends
  zero_or_under1 : passes (gate_of op_acos) (magnitude binary32 a) ≡ true → (magnitude binary32 a ≡ 0) ⊎ ((0x2180_0000 ≤ magnitude binary32 a) × (magnitude binary32 a < 0x3f80_0000))
  zero_or_under1 e = elim (between_or (gate_of op_acos) (magnitude binary32 a) (lit< tt) (lit< tt) (magnitude_lt binary32 a) e) [
    | inl r ↦ inr (r.low, let l = r.high in omega arith)
    | inr z ↦ inl z.1
  ]

  -- beside a zero cosine an infinity is judged, which tan's row does not take
  cosine_not_zero : (c : ℕ) → passes (gate_of op_tan) (unless_zero c a) ≡ true → (magnitude binary32 a ≤ 0x4480_0000) × (0 < magnitude binary32 c)
  cosine_not_zero c e = go (is_zero binary32 c) refl e
    where
      go : (t : Bool) → is_zero binary32 c ≡ t → passes (gate_of op_tan) (cond t (inf_word binary32) (magnitude binary32 a)) ≡ true → (magnitude binary32 a ≤ 0x4480_0000) × (0 < magnitude binary32 c)
      go true d e = absurd (false≢true e)
      go false d e = (to1024 e, pos_of_ne-zero (eqb-false _ _ d))

pub quotient_under : (a b : ℕ) → passes (gate_of op_div_euclid) (magnitude binary32 (quotient_word a b)) ≡ true → magnitude binary32 (quotient_word a b) < 0x4b00_0000
quotient_under a b e = let r = by_magnitude (gate_of op_div_euclid) (quotient_word a b) refl e in omega arith

-- exp's gate has a sign at its low end
within_exp : (w : ℕ) → (w ≡ 0xffff_ffff → ⊥) → passes (gate_of op_exp) w ≡ true → (w ≤ 0x42b0_0000) ⊎ ((0x8000_0000 ≤ w) × (w ≤ 0xc2ae_0000))
within_exp w n e = elim (parted (within (gate_of op_exp) w) (eqb w 0xffff_ffff) e) [
  | inl p ↦ go (leb (top binary32) w) refl (both _ _ p.0)
  | inr p ↦ absurd (n (eqb-true w 0xffff_ffff p.1))
]
  where
    go : (t : Bool) → leb (top binary32) w ≡ t → (leb (place 0xc2ae_0000) (place w) ≡ true) × (leb (place w) (place 0x42b0_0000) ≡ true)
        → (w ≤ 0x42b0_0000) ⊎ ((0x8000_0000 ≤ w) × (w ≤ 0xc2ae_0000))
    go true t q = let x = rw t at (leb-true (place 0xc2ae_0000) (place w) q.0) in inr (leb-true (top binary32) w t, omega arith)
    go false t q = let x = rw t at (leb-true (place w) (place 0x42b0_0000) q.1) in inl (omega arith)

last_nan : nan_bits binary32 0xffff_ffff ≡ true
unfolding nan_bits
last_nan = refl

-- the larger of two is at least each of them, and it is one of them
record Larger (m n x : ℕ) : Type 0 where
  first : m ≤ x
  second : n ≤ x
  either : (x ≡ m) ⊎ (x ≡ n)

larger_is : (a b : ℕ) → Larger (magnitude binary32 a) (magnitude binary32 b) (larger a b)
larger_is a b = go (magnitude binary32 a) (magnitude binary32 b)
  where
    go : (m n : ℕ) → Larger m n (cond (leb m n) n m)
    go m n = by (leb m n) refl
      where
        by : (t : Bool) → leb m n ≡ t → Larger m n (cond t n m)
        by true e = record { first = leb-true m n e; second = le_refl n; either = inr refl }
        by false e = record { first = le_refl m; second = le_of_lt (leb-false m n e); either = inl refl }

larger_lt : (a b : ℕ) → larger a b < top binary32
larger_lt a b = go (larger_is a b).either
  where
    go : (larger a b ≡ magnitude binary32 a) ⊎ (larger a b ≡ magnitude binary32 b) → larger a b < top binary32
    go (inl e) = rw e (magnitude_lt binary32 a)
    go (inr e) = rw e (magnitude_lt binary32 b)

-- the magnitudes of an operation that judges the larger
record Pair (m n : ℕ) : Type 0 where
  first : m ≤ 0x5e80_0000
  second : n ≤ 0x5e80_0000
  either : (0x2180_0000 ≤ m) ⊎ (0x2180_0000 ≤ n)

pair : (a b : ℕ) → passes (gate_of op_atan2) (larger a b) ≡ true → Pair (magnitude binary32 a) (magnitude binary32 b)
pair a b e =
    let l = larger_is a b in
    let r = between (gate_of op_atan2) (larger a b) refl (larger_lt a b) e in
    record { first = omega arith; second = omega arith; either = go l.either r.low }
  where
    go : {x : ℕ} → (x ≡ magnitude binary32 a) ⊎ (x ≡ magnitude binary32 b) → 0x2180_0000 ≤ x → (0x2180_0000 ≤ magnitude binary32 a) ⊎ (0x2180_0000 ≤ magnitude binary32 b)
    go (inl e) h = inl (omega arith)
    go (inr e) h = inr (omega arith)

-- a word that no float is written as, and no finite one
no_float : (x : Float) → T (fits binary32 x) → to_bits binary32 x ≡ 0xffff_ffff → ⊥
no_float x h e =
    let r : x ≡ nan = sym (of_bits-to_bits binary32 x h) ∙ ap (of_bits binary32) e ∙ nan_read binary32 0xffff_ffff last_nan in
    let z : ◌≡◌ {A = ℕ} 0xffff_ffff 0x7fc0_0000 = sym e ∙ ap (to_bits binary32) r ∙ nan_written binary32 in
    omega arith

not_endless : (w : ℕ) → is_endless binary32 w ≡ false → w ≡ 0xffff_ffff → ⊥
not_endless w n e = false≢true (sym n ∙ ap (is_endless binary32) e)

-- the power whose magnitude is no power is refused
no_least : (b : ℕ) → b < 2 ^ 32 → is_past_power b ≡ false → of_z w32 (to_z w32 b) ≡ 2 ^ 31 → ⊥
no_least b h n e = true≢false (sym (ap is_past_power (sym (of_z-to_z {w = w32} (record { fits = h })) ∙ e)) ∙ n)

-- ---- the law, kernel by kernel

abbrev IsNumber : ℕ → Kernel → Type 0
IsNumber op k = (a b : ℕ) → a < 2 ^ 32 → b < 2 ^ 32 → Open op a b → nan_bits binary32 (value_at op k a b) ≡ false

-- a zero that is its own root is no NaN, as no word is that refusal 1 lets through
own : (w : ℕ) → is_endless binary32 w ≡ false → nan_bits binary32 w ≡ false
own w n = finite_number binary32 w (finite_of binary32 w n)

chosen : (t : Bool) (v w : ℕ) → nan_bits binary32 v ≡ false → (t ≡ false → nan_bits binary32 w ≡ false) → nan_bits binary32 (cond t v w) ≡ false
chosen true v w h k = h
chosen false v w h k = k refl

zero_number : nan_bits binary32 0 ≡ false
unfolding nan_bits
zero_number = refl

no_kernel : (op : ℕ) → IsNumber op none
no_kernel op a b h k o = chosen (eqb op op_sqrt && is_zero binary32 a) a 0 (own a o.first) (λ e. zero_number)

each : Each IsNumber 0 kernels
unfolding judged
each =
    no_kernel 0
    ⨟ (λ a b h k o. trunc_number a h (under32 a o.gate))
    ⨟ (λ a b h k o. fract_number a (under32 a o.gate))
    ⨟ (λ a b h k o. floor_number a (to31 a o.gate))
    ⨟ (λ a b h k o. ceil_number a (to31 a o.gate))
    ⨟ (λ a b h k o. round_number a (under23 a o.gate))
    ⨟ (λ a b h k o. abs_number a (finite_of binary32 a o.first))
    ⨟ (λ a b h k o. copysign_number a b (finite_of binary32 a o.first))
    ⨟ (λ a b h k o. signum_number a (finite_of binary32 a o.first))
    ⨟ (λ a b h k o. chosen (is_zero binary32 a) a _ (own a o.first) (λ z. sqrt_number a (normal_of binary32 a o.first z o.small o.sign)))
    ⨟ (λ a b h k o. invsqrt_number a (normal_of binary32 a o.first o.zero o.small o.sign))
    ⨟ (λ a b h k o. inv_number a h (invertible a b o))
    ⨟ (λ a b h k o. recip_number a (above_small binary32 a o.zero o.small) (to125 a o.gate))
    ⨟ (λ a b h k o. exp_number a (within_exp a (not_endless a o.first) o.gate))
    ⨟ (λ a b h k o. ln_number a (normal_of binary32 a o.first o.zero o.small o.sign))
    ⨟ (λ a b h k o. powi_number a (to_z w32 b) h (above_small binary32 a o.zero o.small) (finite_of binary32 a o.first) (no_least b k o.power))
    ⨟ (λ a b h k o. powf_number a b (normal_of binary32 a o.first o.zero o.small o.sign) (within_exp (product_word a b) (no_float _ (mul-fits binary32 _ _)) o.gate))
    ⨟ (λ a b h k o. atan_number a (under64 a o.gate))
    ⨟ (λ a b h k o. let p = pair a b o.gate in atan2_number a b h k p.first p.second p.either)
    ⨟ (λ a b h k o. cos_number a (to1024 a o.gate))
    ⨟ (λ a b h k o. sin_number a (to1024 a o.gate))
    ⨟ (λ a b h k o. let p = pair a b o.gate in hypot_number a b p.first p.second)
    ⨟ (λ a b h k o. asin_number a (under1 a o.gate))
    ⨟ (λ a b h k o. acos_number a h (zero_or_under1 a o.gate))
    ⨟ (λ a b h k o. let p = cosine_not_zero a (cos_word ieee a) o.gate in tan_number a p.0 p.1)
    ⨟ (λ a b h k o. rem_euclid_number a b (finite_of binary32 a o.first) (finite_of binary32 b o.second) (quotient_under a b o.gate))
    ⨟ (λ a b h k o. div_euclid_number a b (finite_of binary32 a o.first) (finite_of binary32 b o.second) (quotient_under a b o.gate))
    ⨟ done

pub no_nan : (op a b : ℕ) → a < 2 ^ 32 → b < 2 ^ 32 → refusal_of op a b ≡ 0 → nan_bits binary32 (value_of op a b) ≡ false
no_nan op a b h k e = of_each IsNumber no_kernel each op a b h k (opened op a b e)

-- atan_norm shares atan's gate
pub atan_norm_no_nan : (a : ℕ) → refusal_of op_atan a 0 ≡ 0 → nan_bits binary32 (atan_norm_word ieee a) ≡ false
unfolding judged
atan_norm_no_nan a e = atan_norm_number a (under64 a (opened op_atan a 0 e).gate)
