-- What micromath's sqrt, inv and invsqrt answer, word by word, and how far each may lie from the true result. Definitions only.
-- A bound is about x, the operand as a number, and v, the answer as one. It is stated over their counts of units, of which 2 ^ low f make 1.
use Rattle.std.specs.Prelude.{ℕ, ◌+◌, ◌-◌, ◌*◌, ◌/◌, ◌%◌, ◌^◌, ◌≤◌, ◌<◌, ◌≡◌, Bool, cond}
use Rattle.std.specs.Float.{Format, binary32}
use Rattle.std.specs.Float.Ieee.{prec, emax, low, hid, le, of_bits}
use Rattle.format.specs.Fields.{width, negative, one_word, inf_word, nan_word}
use Rattle.format.specs.Value.{units, Finite}

-- ---- the words

-- x >= 0, which -0 is and no NaN
abbrev pub at_least_zero : Format → ℕ → Bool
at_least_zero f w = le (of_bits f 0) (of_bits f w)

abbrev pub sqrt_word : Format → ℕ → ℕ
sqrt_word f w = cond (at_least_zero f w) ((w + one_word f) % 2 ^ width f / 2) (nan_word f)

-- 0x7f00_0000 and 0x7fe0_0000_0000_0000
abbrev pub inv_magic : Format → ℕ
inv_magic f = 2 * emax f * hid f

abbrev pub inv_word : Format → ℕ → ℕ
inv_word f w = (2 ^ width f + inv_magic f - w) % 2 ^ width f

abbrev pub invsqrt_magic : ℕ
invsqrt_magic = 0x5f37_5a86

abbrev pub invsqrt_word : ℕ → ℕ
invsqrt_word w = (2 ^ 32 + invsqrt_magic - w / 2) % 2 ^ 32

-- ---- the operands that a bound is about

-- a positive normal number
pub record Normal (f : Format) (w : ℕ) : Type 0 where
  pub above : hid f ≤ w
  pub below : w < inf_word f

-- from the smallest positive normal number to its inverse: 2 ^ -126 to 2 ^ 126, and 2 ^ -1022 to 2 ^ 1022
pub record Invertible (f : Format) (w : ℕ) : Type 0 where
  pub above : hid f ≤ w
  pub below : w ≤ (2 * emax f - 1) * hid f

-- ---- the bounds: each answer is finite and has its operand's sign bit

-- x * (1 - 1 / 2 ^ (prec f - 1)) ≤ v² ≤ 9/8 * x
pub record SqrtBound (f : Format) (w r : ℕ) : Type 0 where
  pub finite : Finite f r
  pub sign : negative f r ≡ negative f w
  pub least : units f w * (2 ^ (prec f - 1) - 1) * 2 ^ low f ≤ units f r * units f r * 2 ^ (prec f - 1)
  pub most : 8 * (units f r * units f r) ≤ 9 * (units f w * 2 ^ low f)

-- 1 ≤ x * v ≤ 9/8
pub record InvBound (f : Format) (w r : ℕ) : Type 0 where
  pub finite : Finite f r
  pub sign : negative f r ≡ negative f w
  pub least : 2 ^ low f * 2 ^ low f ≤ units f w * units f r
  pub most : 8 * (units f w * units f r) ≤ 9 * (2 ^ low f * 2 ^ low f)

-- a/c ≤ x * v² ≤ b/c
pub record InvsqrtWithin (a b c w r : ℕ) : Type 0 where
  pub finite : Finite binary32 r
  pub sign : negative binary32 r ≡ negative binary32 w
  pub least : a * (2 ^ 149 * 2 ^ 149 * 2 ^ 149) ≤ c * (units binary32 w * (units binary32 r * units binary32 r))
  pub most : c * (units binary32 w * (units binary32 r * units binary32 r)) ≤ b * (2 ^ 149 * 2 ^ 149 * 2 ^ 149)

abbrev pub InvsqrtBound : ℕ → ℕ → Type 0
InvsqrtBound = InvsqrtWithin 93 107 100

-- to six places
abbrev pub InvsqrtTight : ℕ → ℕ → Type 0
InvsqrtTight = InvsqrtWithin 932450 1069107 1000000
