-- powi's steps, for every word and every power: the answers given early, in their order, and then squaring, as the list of what is held
-- after each product; and how many products that is. Definitions only.
use Rattle.std.specs.Prelude.{ℕ, zero, suc, ◌*◌, ◌/◌, ◌%◌, ◌^◌, Bool, cond, not, ◌&&◌, ◌||◌, List, [], ◌∷◌, ◌++◌, length, ℤ, pos, negsuc, ◌==◌, from_bits, int_lt, to_bits, unsigned_abs, Float}
use Rattle.std.proofs.Math.Option.{Option, none, some, get_or}
use Rattle.std.specs.Float.{binary32}
use Rattle.std.specs.Float.Ieee.{mul, div, lt, le, eq}
use Rattle.std.specs.Int.{w32}
use Rattle.std.proofs.Common.{of_z, to_z}
use Rattle.format.specs.Fields.{negative}
use Rattle.format.specs.Sign.{abs_word}
use Rattle.format.specs.Exponent.{exponent_value}
use Rattle.float.specs.declared.powi.Held.{Held}

-- ---- squaring

-- what is held between two products
pub record Work : Type 0 where
  pub base : Float
  pub result : Float

abbrev pub multiplied : Work → Work
multiplied s = record { base = s.base; result = mul binary32 s.result s.base }

abbrev pub squared : Work → Work
squared s = record { base = mul binary32 s.base s.base; result = s.result }

-- the last of a list, or what it started from where there is none
abbrev pub ended : Work → List Work → Work
ended s [] = s
ended s (t ∷ ts) = ended t ts

-- the lowest bit of m takes the base into the result
abbrev pub taken : ℕ → Work → List Work
taken m s = cond (m % 2 == 1) (multiplied s ∷ []) []

-- All that is held in turn while m is taken bit by bit, the lowest first: after each product one entry. The base is squared only for a
-- bit that is still to come. Of m the lowest `bits` bits are taken.
unfoldable pub works : ℕ → ℕ → Work → List Work
works zero m s = []
works (suc bits) m s =
    let t = ended s (taken m s) in
    taken m s ++ cond (m / 2 == 0) [] (squared t ∷ works bits (m / 2) (squared t))

-- ---- powi

-- the squaring of a number starts with 1 for its result
abbrev pub from : Float → Work
from x = record { base = x; result = from_bits binary32 0x3f80_0000 }

-- it is 1 over the operand that is squared for a negative power
abbrev pub start : ℕ → ℤ → Work
start w n = let x = from_bits binary32 w in from (cond (int_lt n (pos 0)) (div binary32 (from_bits binary32 0x3f80_0000) x) x)

-- what is held after each product for the power n, whose magnitude has at most 32 bits; and the word that this ends in
abbrev pub powi_works : ℕ → ℤ → List Work
powi_works w n = works 32 (unsigned_abs n) (start w n)

abbrev pub squaring_word : ℕ → ℤ → ℕ
squaring_word w n = to_bits binary32 (ended (start w n) (powi_works w n)).result

-- both zeros
abbrev pub is_zero : ℕ → Bool
is_zero w = eq (from_bits binary32 w) (from_bits binary32 0)

-- 0.5 ≤ |x| < 2: such a number may be multiplied long without leaving the range
abbrev pub is_near_one : ℕ → Bool
is_near_one w = let x = from_bits binary32 (abs_word binary32 w) in le (from_bits binary32 0x3f00_0000) x && lt x (from_bits binary32 0x4000_0000)

-- about the exponent of the power: the exponent of the operand times n, a product of words that wraps
abbrev pub approx : ℕ → ℤ → ℤ
approx w n = to_z w32 (of_z w32 (exponent_value binary32 w) * of_z w32 n % 2 ^ 32)

abbrev pub is_past : ℕ → ℤ → Bool
is_past w n = int_lt (pos 127) (approx w n) || (is_zero w && int_lt (approx w n) (pos 0))

-- below -126 - 23 = -149
abbrev pub is_below : ℕ → ℤ → Bool
is_below w n = int_lt (approx w n) (negsuc 148)

-- infinity, with the operand's sign where n is odd
abbrev pub infinite : ℕ → ℤ → ℕ
infinite w n = cond (not (negative binary32 w) || unsigned_abs n % 2 == 0) 0x7f80_0000 0xff80_0000

-- The answers that need no product, in their order. The word 2 ^ 31 is the least integer's, for which the Rust's loop need not end.
abbrev pub early : ℕ → ℤ → Option ℕ
early w n =
    cond (of_z w32 n == 2 ^ 31) (some 0x7fc0_0000)
    (cond (of_z w32 n == 0) (some 0x3f80_0000)
    (cond (is_zero w && int_lt (pos 0) n) (some w)
    (cond (is_near_one w) none
    (cond (is_past w n) (some (infinite w n))
    (cond (is_below w n) (some 0)
    none)))))

unfoldable pub powi_word : ℕ → ℤ → ℕ
powi_word w n = get_or (early w n) (squaring_word w n)

-- ---- how much work it took

-- what is held after each product that is formed for an answer: nothing where it is given early
abbrev pub formed : Option ℕ → List Work → List Work
formed none l = l
formed (some v) l = []

-- as many products as there are in the list that the answer is the end of
unfoldable pub products_of : ℕ → ℤ → ℕ
products_of w n = length (formed (early w n) (powi_works w n))

-- what the code holds, but for its count
abbrev pub work_of : Held → Work
work_of h = record { base = h.base; result = h.result }
