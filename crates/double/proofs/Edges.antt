-- Both sides of every edge of the guarded doubles, and what the raw kernels answer at the ends: one computed test tries each table.
-- Assumes nothing.
use Prim.Native.Nat.{ℕ, suc}
use native.Mathlib.Omega.{arith}
use mathlib.Core.Path.{◌≡◌, refl}
use mathlib.Core.Bool.{Bool, true, false, ◌&&◌}
use mathlib.Core.List.{List, [], ◌∷◌, map}
use borrow.Author.Tests.{le-leb}
use lib.Dec.{eqb}
use lib.IntN.{pos}
use lib.Ieee.{binary64, fin, size, le, lt, eq, of_bits}
use Rattle.format.specs.Fields.{magnitude}
use Rattle.format.specs.Value.{Finite}
use Rattle.format.specs.Parts.{written}
use Rattle.format.proofs.Classes.{under_infinity}
use Rattle.double.specs.Operations.{op_trunc, op_fract, op_sqrt, op_inv, is_known, is_raw, value_of}
use Rattle.double.specs.Refusals.{unbounded, gate_of, passes, refusal_behind, refusal_of}
use Rattle.double.specs.Words.{double_refusal, double_word}

-- an operation's number and its operand, with the refusal and the word that it answers
pub data Case : Type 0 where
  case : ℕ → ℕ → ℕ → ℕ → Case

pub right : List Case → Bool
unfolding refusal_behind written size le lt eq of_bits
right [] = true
right (case op a n w ∷ cs) = (eqb (double_refusal op a) n && eqb (double_word op a) w) && right cs

pub guarded : List Case
guarded =
    case 0x01 0x43ef_ffff_ffff_ffff 0 0x43ef_ffff_ffff_ffff ∷ case 0x01 0x43f0_0000_0000_0000 4 0
    ∷ case 0x01 0xc3ef_ffff_ffff_ffff 0 0xc3ef_ffff_ffff_ffff ∷ case 0x01 0xc3f0_0000_0000_0000 4 0
    ∷ case 0x01 0x7fef_ffff_ffff_ffff 4 0 ∷ case 0x01 0x7ff0_0000_0000_0000 1 0
    ∷ case 0x01 0xfff0_0000_0000_0000 1 0 ∷ case 0x01 0xfff8_0000_0000_0000 1 0
    ∷ case 0x01 0x7ff0_0000_0000_0001 1 0
    ∷ case 0x02 0x43ef_ffff_ffff_ffff 0 0x0000_0000_0000_0000 ∷ case 0x02 0x43f0_0000_0000_0000 4 0
    ∷ case 0x02 0xc3ef_ffff_ffff_ffff 0 0x8000_0000_0000_0000 ∷ case 0x02 0xc3f0_0000_0000_0000 4 0
    ∷ case 0x02 0x7fef_ffff_ffff_ffff 4 0 ∷ case 0x02 0x7ff0_0000_0000_0000 1 0
    ∷ case 0x02 0xfff0_0000_0000_0000 1 0 ∷ case 0x02 0xfff8_0000_0000_0000 1 0
    ∷ case 0x02 0x7ff0_0000_0000_0001 1 0
    ∷ case 0x01 0x4270_0000_0000_0800 0 0x4270_0000_0000_0000  -- 2 ^ 40 + 1/2
    ∷ case 0x02 0x4270_0000_0000_0800 0 0x3fe0_0000_0000_0000
    ∷ case 0x01 0x4330_0000_0000_0001 0 0x4330_0000_0000_0001  -- 2 ^ 52 + 1
    ∷ case 0x02 0x4330_0000_0000_0001 0 0x0000_0000_0000_0000
    ∷ case 0x01 0x432f_ffff_ffff_ffff 0 0x432f_ffff_ffff_fffe  -- 2 ^ 52 - 1/2
    ∷ case 0x02 0x432f_ffff_ffff_ffff 0 0x3fe0_0000_0000_0000
    ∷ case 0x01 0x3fef_ffff_ffff_ffff 0 0x0000_0000_0000_0000  -- the number below 1
    ∷ case 0x02 0x3fef_ffff_ffff_ffff 0 0x3fef_ffff_ffff_ffff
    ∷ case 0x01 0x3ff0_0000_0000_0000 0 0x3ff0_0000_0000_0000
    ∷ case 0x02 0x3ff0_0000_0000_0000 0 0x0000_0000_0000_0000
    ∷ case 0x01 0xbfe0_0000_0000_0000 0 0x8000_0000_0000_0000
    ∷ case 0x02 0xbff8_0000_0000_0000 0 0xbfe0_0000_0000_0000
    ∷ case 0x01 0x3ff0_0000_0000_0001 0 0x3ff0_0000_0000_0000  -- the number above 1
    ∷ case 0x02 0x3ff0_0000_0000_0001 0 0x3cb0_0000_0000_0000
    ∷ case 0x01 0x0000_0000_0000_0001 0 0x0000_0000_0000_0000  -- words whose exponent field is 0
    ∷ case 0x02 0x0000_0000_0000_0001 0 0x0000_0000_0000_0001
    ∷ case 0x01 0x8000_0000_0000_0001 0 0x8000_0000_0000_0000
    ∷ case 0x02 0x8000_0000_0000_0001 0 0x8000_0000_0000_0001
    ∷ case 0x01 0x0000_0000_0000_0000 0 0x0000_0000_0000_0000
    ∷ case 0x02 0x0000_0000_0000_0000 0 0x0000_0000_0000_0000
    ∷ case 0x01 0x8000_0000_0000_0000 0 0x8000_0000_0000_0000
    ∷ case 0x02 0x8000_0000_0000_0000 0 0x8000_0000_0000_0000
    ∷ case 0x09 0x0000_0000_0000_0000 0 0x0000_0000_0000_0000  -- a zero is its own root
    ∷ case 0x09 0x8000_0000_0000_0000 0 0x8000_0000_0000_0000 ∷ case 0x09 0x0000_0000_0000_0001 9 0
    ∷ case 0x09 0x000f_ffff_ffff_ffff 9 0 ∷ case 0x09 0x8000_0000_0000_0001 9 0
    ∷ case 0x09 0x800f_ffff_ffff_ffff 9 0 ∷ case 0x09 0x0010_0000_0000_0000 0 0x2000_0000_0000_0000
    ∷ case 0x09 0x8010_0000_0000_0000 3 0 ∷ case 0x09 0xbff0_0000_0000_0000 3 0
    ∷ case 0x09 0xffef_ffff_ffff_ffff 3 0 ∷ case 0x09 0x4010_0000_0000_0000 0 0x4000_0000_0000_0000
    ∷ case 0x09 0x4000_0000_0000_0000 0 0x3ff8_0000_0000_0000 ∷ case 0x09 0x7fef_ffff_ffff_ffff 0 0x5fef_ffff_ffff_ffff
    ∷ case 0x09 0x7ff0_0000_0000_0000 1 0 ∷ case 0x09 0xfff0_0000_0000_0000 1 0
    ∷ case 0x09 0xfff8_0000_0000_0000 1 0
    ∷ case 0x0b 0x0000_0000_0000_0000 2 0 ∷ case 0x0b 0x0000_0000_0000_0001 9 0
    ∷ case 0x0b 0x000f_ffff_ffff_ffff 9 0 ∷ case 0x0b 0x0010_0000_0000_0000 0 0x7fd0_0000_0000_0000
    ∷ case 0x0b 0x3ff0_0000_0000_0000 0 0x3ff0_0000_0000_0000 ∷ case 0x0b 0x3ff8_0000_0000_0000 0 0x3fe8_0000_0000_0000
    ∷ case 0x0b 0x7fd0_0000_0000_0000 0 0x0010_0000_0000_0000 ∷ case 0x0b 0x7fd0_0000_0000_0001 4 0
    ∷ case 0x0b 0x7fef_ffff_ffff_ffff 4 0 ∷ case 0x0b 0x7ff0_0000_0000_0000 1 0
    ∷ case 0x0b 0x7ff8_0000_0000_0000 1 0 ∷ case 0x0b 0x8000_0000_0000_0000 2 0
    ∷ case 0x0b 0x8000_0000_0000_0001 9 0 ∷ case 0x0b 0x800f_ffff_ffff_ffff 9 0
    ∷ case 0x0b 0x8010_0000_0000_0000 0 0xffd0_0000_0000_0000 ∷ case 0x0b 0xbff0_0000_0000_0000 0 0xbff0_0000_0000_0000
    ∷ case 0x0b 0xbff8_0000_0000_0000 0 0xbfe8_0000_0000_0000 ∷ case 0x0b 0xffd0_0000_0000_0000 0 0x8010_0000_0000_0000
    ∷ case 0x0b 0xffd0_0000_0000_0001 4 0 ∷ case 0x0b 0xffef_ffff_ffff_ffff 4 0
    ∷ case 0x0b 0xfff0_0000_0000_0000 1 0 ∷ case 0x0b 0xfff8_0000_0000_0000 1 0
    ∷ case 0x00 0x3ff0_0000_0000_0000 6 0
    ∷ case 0x03 0x3ff0_0000_0000_0000 6 0
    ∷ case 0x08 0x3ff0_0000_0000_0000 6 0
    ∷ case 0x0a 0x3ff0_0000_0000_0000 6 0
    ∷ case 0x0c 0x3ff0_0000_0000_0000 6 0
    ∷ case 0x10 0x3ff0_0000_0000_0000 6 0
    ∷ case 0x100 0x3ff0_0000_0000_0000 6 0
    ∷ case 0x101 0x3ff0_0000_0000_0000 6 0
    ∷ case 0x80 0x3ff0_0000_0000_0000 6 0
    ∷ case 0x83 0x3ff0_0000_0000_0000 6 0
    ∷ case 0x88 0x3ff0_0000_0000_0000 6 0
    ∷ case 0x8a 0x3ff0_0000_0000_0000 6 0
    ∷ case 0x8c 0x3ff0_0000_0000_0000 6 0
    ∷ case 0x181 0x3ff0_0000_0000_0000 6 0
    ∷ case 0x0c 0x7ff0_0000_0000_0000 6 0
    ∷ []

pub raw : List Case
raw =
    case 0x81 0x43f0_0000_0000_0001 0 0x43f0_0000_0000_0000  -- 2 ^ 64 and more: the count of places begins again at 0
    ∷ case 0x82 0x43f0_0000_0000_0001 0 0x3cb0_0000_0000_0000
    ∷ case 0x81 0x4400_0000_0000_0001 0 0x4400_0000_0000_0000
    ∷ case 0x82 0x4400_0000_0000_0001 0 0x3cc0_0000_0000_0000
    ∷ case 0x81 0xc3ef_ffff_ffff_ffff 0 0xc3ef_ffff_ffff_ffff
    ∷ case 0x82 0xc3ef_ffff_ffff_ffff 0 0x8000_0000_0000_0000
    ∷ case 0x81 0x4270_0000_0000_0800 0 0x4270_0000_0000_0000
    ∷ case 0x82 0x4270_0000_0000_0800 0 0x3fe0_0000_0000_0000
    ∷ case 0x81 0xbfef_ffff_ffff_ffff 0 0x8000_0000_0000_0000
    ∷ case 0x82 0xbfef_ffff_ffff_ffff 0 0xbfef_ffff_ffff_ffff
    ∷ case 0x81 0x0000_0000_0000_0001 0 0x0000_0000_0000_0000
    ∷ case 0x82 0x8000_0000_0000_0001 0 0x8000_0000_0000_0001
    ∷ case 0x81 0x7ff0_0000_0000_0000 0 0x7ff0_0000_0000_0000
    ∷ case 0x82 0xfff0_0000_0000_0000 0 0x8000_0000_0000_0000
    ∷ case 0x81 0x7ff8_0000_0000_0000 0 0x7ff0_0000_0000_0000  -- a NaN's own bits
    ∷ case 0x82 0x7ff8_0000_0000_0000 0 0x3fe0_0000_0000_0000
    ∷ case 0x89 0x0000_0000_0000_0000 0 0x1ff8_0000_0000_0000 ∷ case 0x89 0x8000_0000_0000_0000 0 0x5ff8_0000_0000_0000
    ∷ case 0x89 0x0000_0000_0000_0001 0 0x1ff8_0000_0000_0000 ∷ case 0x89 0x0000_0000_0000_0002 0 0x1ff8_0000_0000_0001
    ∷ case 0x89 0x4010_0000_0000_0000 0 0x4000_0000_0000_0000 ∷ case 0x89 0x7ff0_0000_0000_0000 0 0x5ff0_0000_0000_0000
    ∷ case 0x89 0x7ff0_0000_0000_0001 0 0x7ff8_0000_0000_0000 ∷ case 0x89 0xffff_ffff_ffff_ffff 0 0x7ff8_0000_0000_0000
    ∷ case 0x89 0x8000_0000_0000_0001 0 0x7ff8_0000_0000_0000 ∷ case 0x89 0xfff0_0000_0000_0000 0 0x7ff8_0000_0000_0000
    ∷ case 0x8b 0x0000_0000_0000_0000 0 0x7fe0_0000_0000_0000 ∷ case 0x8b 0x8000_0000_0000_0000 0 0xffe0_0000_0000_0000
    ∷ case 0x8b 0x7fe0_0000_0000_0000 0 0x0000_0000_0000_0000 ∷ case 0x8b 0x7fe0_0000_0000_0001 0 0xffff_ffff_ffff_ffff
    ∷ case 0x8b 0x7ff0_0000_0000_0000 0 0xfff0_0000_0000_0000 ∷ case 0x8b 0xffff_ffff_ffff_ffff 0 0x7fe0_0000_0000_0001
    ∷ case 0x8b 0xbff0_0000_0000_0000 0 0xbff0_0000_0000_0000
    ∷ []

pub guarded_edges : right guarded ≡ true
unfolding right guarded refusal_behind written size le lt eq of_bits
guarded_edges = refl

pub raw_ends : right raw ≡ true
unfolding right raw refusal_behind written size le lt eq of_bits
raw_ends = refl

-- ---- the lists and the gates by themselves

-- which numbers doubles have, guarded and raw, among those beside them
pub known_numbers : map is_known (0x00 ∷ 0x01 ∷ 0x02 ∷ 0x03 ∷ 0x08 ∷ 0x09 ∷ 0x0a ∷ 0x0b ∷ 0x0c ∷ 0x81 ∷ []) ≡ false ∷ true ∷ true ∷ false ∷ false ∷ true ∷ false ∷ true ∷ false ∷ false ∷ []
known_numbers = refl

pub raw_numbers : map is_raw (0x80 ∷ 0x81 ∷ 0x82 ∷ 0x83 ∷ 0x88 ∷ 0x89 ∷ 0x8a ∷ 0x8b ∷ 0x8c ∷ 0x01 ∷ []) ≡ false ∷ true ∷ true ∷ false ∷ false ∷ true ∷ false ∷ true ∷ false ∷ false ∷ []
raw_numbers = refl

-- the word after the gate of trunc and of fract is 2 ^ 64, and that of inv is 2 ^ 1022; no other row has a bound, and past the table none
pub gate_ends : map (of_bits binary64) (suc (gate_of op_trunc) ∷ suc (gate_of op_fract) ∷ gate_of op_inv ∷ []) ≡ fin false 1 (pos 64) ∷ fin false 1 (pos 64) ∷ fin false 1 (pos 1022) ∷ []
unfolding of_bits
gate_ends = refl

pub open_rows : map (λ (op : ℕ). eqb (gate_of op) unbounded) (0x00 ∷ 0x01 ∷ 0x02 ∷ 0x03 ∷ 0x08 ∷ 0x09 ∷ 0x0a ∷ 0x0b ∷ 0x0c ∷ 0x81 ∷ []) ≡ true ∷ false ∷ false ∷ true ∷ true ∷ true ∷ true ∷ false ∷ true ∷ true ∷ []
open_rows = refl

-- the largest finite words pass there, and the infinities do not
pub unbounded_ends : map (passes unbounded) (0x7fef_ffff_ffff_ffff ∷ 0xffef_ffff_ffff_ffff ∷ 0x7ff0_0000_0000_0000 ∷ 0xfff0_0000_0000_0000 ∷ []) ≡ true ∷ true ∷ false ∷ false ∷ []
unbounded_ends = refl

-- where a row has no bound, every finite word passes
pub finite_passes : (w : ℕ) → Finite binary64 w → passes unbounded w ≡ true
finite_passes w h = le-leb (magnitude binary64 w) unbounded (let l = under_infinity binary64 w h in omega arith)

-- the zeros and what is beside them, of sqrt and of inv
pub sqrt_in_order : map (refusal_of op_sqrt) (0x0000_0000_0000_0000 ∷ 0x8000_0000_0000_0000 ∷ 0x0000_0000_0000_0001 ∷ 0x8000_0000_0000_0001 ∷ 0x8010_0000_0000_0000 ∷ 0xfff0_0000_0000_0000 ∷ [])
    ≡ 0 ∷ 0 ∷ 9 ∷ 9 ∷ 3 ∷ 1 ∷ []
unfolding refusal_behind
sqrt_in_order = refl

pub inv_in_order : map (refusal_of op_inv) (0x0000_0000_0000_0000 ∷ 0x8000_0000_0000_0000 ∷ 0x0000_0000_0000_0001 ∷ 0x8000_0000_0000_0001 ∷ 0x8010_0000_0000_0000 ∷ 0xffd0_0000_0000_0001 ∷ 0xfff0_0000_0000_0000 ∷ [])
    ≡ 2 ∷ 2 ∷ 9 ∷ 9 ∷ 0 ∷ 4 ∷ 1 ∷ []
unfolding refusal_behind
inv_in_order = refl

pub root_of_zero : map (value_of op_sqrt) (0x0000_0000_0000_0000 ∷ 0x8000_0000_0000_0000 ∷ []) ≡ 0x0000_0000_0000_0000 ∷ 0x8000_0000_0000_0000 ∷ []
root_of_zero = refl
