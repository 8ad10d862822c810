-- The floor of a bounded value is bounded: the whole number that it is cast to is no larger in size, and 1 at most is taken off. Assumes nothing.
use Prim.Native.Nat.{ℕ, zero, suc, ◌-◌, ◌*◌, ◌/◌, ◌^◌, ◌≤◌, min}
use native.Mathlib.Nat.{le_trans, le_of_eq, mul-one, mul_right_comm, mul-le-mul_right, le_of_mul-le-mul_right, div-mul-le_self, min-le_left}
use mathlib.Core.Path.{◌≡◌, refl, sym, ap, ◌∙◌}
use mathlib.Core.Bool.{Bool, true, false, cond}
use lib.Dec.{T, leb, lit<}
use lib.IntN.{ℤ, pos, negsuc, neg_ℤ, nat_abs}
use lib.Ieee.{Float, nan, inf, fin, binary32, up, down, fits, lt, sub, of_bits, to_bits, of_int, to_signed}
use lib.Ieee.Bits.{of_bits-to_bits}
use lib.Ieee.Fits.{down_pos}
use Rattle.format.specs.Value.{units, Finite}
use Rattle.format.specs.Whole.{through_int, floor_value}
use Rattle.format.proofs.Whole.{floor_fits}
use Rattle.float.specs.Engine.{ieee, floor_of}
use Rattle.sizes.proofs.Size.{AtMost, add_fits, round_at_most, sub_at_most, at_most_of}
use Rattle.sizes.proofs.Words.{constant}

-- ---- through the integer

int_at_most : (b : ℕ) (z : ℤ) → Finite binary32 b → nat_abs z * 2 ^ 149 ≤ units binary32 b → AtMost binary32 b (of_int binary32 z)
unfolding of_int
int_at_most b (pos n) t h = round_at_most binary32 b false n 1 t (lit< tt) (le_trans h (le_of_eq (sym (mul-one (units binary32 b)))))
int_at_most b (negsuc n) t h = round_at_most binary32 b true (suc n) 1 t (lit< tt) (le_trans h (le_of_eq (sym (mul-one (units binary32 b)))))

negated : (n : ℕ) → nat_abs (neg_ℤ (pos n)) ≡ n
negated zero = refl
negated (suc n) = refl

cast_at_most : (s : Bool) (m : ℕ) (e : ℤ) → nat_abs (to_signed 31 (fin s m e)) ≤ m * up e / down e
unfolding to_signed
cast_at_most true m e = rw (negated (min (m * up e / down e) (2 ^ 31))) (min-le_left (m * up e / down e) (2 ^ 31))
cast_at_most false m e = min-le_left (m * up e / down e) (2 ^ 31 - 1)

through_at_most : (b : ℕ) (x : Float) → Finite binary32 b → AtMost binary32 b x → AtMost binary32 b (through_int binary32 x)
through_at_most b nan t h = absurd h.finite
through_at_most b (inf s) t h = absurd h.finite
through_at_most b (fin s m e) t h =
    let z = to_signed 31 (fin s m e) in
    let k : nat_abs z * down e ≤ m * up e = le_trans (mul-le-mul_right (down e) (cast_at_most s m e)) (div-mul-le_self (m * up e) (down e)) in
    int_at_most b z t
    (le_of_mul-le-mul_right (le_trans (le_of_eq (mul_right_comm (nat_abs z) (2 ^ 149) (down e))) (le_trans (mul-le-mul_right (2 ^ 149) k) h.small)) (down_pos e))

-- ---- the floor

floor_value_is : (b d : ℕ) (x : Float) → Finite binary32 b → AtMost binary32 b x → T (add_fits binary32 b 0x3f80_0000 d) → T (leb (units binary32 b) (units binary32 d)) → AtMost binary32 d (floor_value binary32 x)
floor_value_is b d x t h k l = go (lt x (through_int binary32 x))
  where
    whole : AtMost binary32 b (through_int binary32 x)
    whole = through_at_most b x t h

    go : (c : Bool) → AtMost binary32 d (cond c (sub binary32 (through_int binary32 x) (of_bits binary32 0x3f80_0000)) (through_int binary32 x))
    go true = sub_at_most d whole (constant binary32 0x3f80_0000 tt) k
    go false = at_most_of d whole l

floor_of_is : (x : Float) → T (fits binary32 x) → floor_of ieee x ≡ floor_value binary32 x
floor_of_is x t = of_bits-to_bits binary32 (floor_value binary32 (of_bits binary32 (to_bits binary32 x))) (floor_fits binary32 _) ∙ ap (floor_value binary32) (of_bits-to_bits binary32 x t)

pub floor_at_most : {b : ℕ} {x : Float} (d : ℕ) → T (fits binary32 x) → AtMost binary32 b x → Finite binary32 b → T (add_fits binary32 b 0x3f80_0000 d) → T (leb (units binary32 b) (units binary32 d)) → AtMost binary32 d (floor_of ieee x)
floor_at_most {b} {x} d f h t k l = rw (floor_of_is x f) (floor_value_is b d x t h k l)
