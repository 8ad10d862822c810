-- What IEEE 754 means by the whole and fraction parts, floor, ceil and round, over whole numbers. A finite word is its sign and a
-- count of units of 2 ^ -(low f); 2 ^ low f units are 1. Definitions only.
use Rattle.std.specs.Prelude.{ℕ, ◌+◌, ◌-◌, ◌*◌, ◌/◌, ◌%◌, ◌^◌, ◌≤◌, ◌<◌, ◌≡◌, Bool, true, false}
use Rattle.std.specs.Float.{Format, binary32}
use Rattle.std.specs.Float.Ieee.{low, hid, emax}
use Rattle.format.specs.Fields.{width, negative, magnitude}
use Rattle.format.specs.Value.{units, Finite}

-- r is w without its fraction, with w's sign bit
pub record IsTrunc (f : Format) (w r : ℕ) : Type 0 where
  pub finite : Finite f r
  pub sign : negative f r ≡ negative f w
  pub whole : units f r ≡ units f w / 2 ^ low f * 2 ^ low f

-- r is w without its whole part, so it is below 1, with w's sign bit
pub record IsFract (f : Format) (w r : ℕ) : Type 0 where
  pub finite : Finite f r
  pub sign : negative f r ≡ negative f w
  pub rest : units f r ≡ units f w % 2 ^ low f

-- the number of sign s and size a is not above that of sign t and size b; the two zeros are one number
abbrev pub NotAbove : Bool → ℕ → Bool → ℕ → Type 0
NotAbove false a false b = a ≤ b
NotAbove false a true b = a + b ≡ 0
NotAbove true a false b = Unit
NotAbove true a true b = b ≤ a

-- r is a whole number not above w, and no whole number not above w is above r; a zero is +0
pub record IsFloor (f : Format) (w r : ℕ) : Type 0 where
  pub finite : Finite f r
  pub whole : units f r % 2 ^ low f ≡ 0
  pub below : NotAbove (negative f r) (units f r) (negative f w) (units f w)
  pub largest : (s : Bool) (n : ℕ) → NotAbove s (n * 2 ^ low f) (negative f w) (units f w) → NotAbove s (n * 2 ^ low f) (negative f r) (units f r)
  pub zero : units f r ≡ 0 → negative f r ≡ false

-- r is a whole number not below w, and no whole number not below w is below r; a zero is -0
pub record IsCeil (f : Format) (w r : ℕ) : Type 0 where
  pub finite : Finite f r
  pub whole : units f r % 2 ^ low f ≡ 0
  pub above : NotAbove (negative f w) (units f w) (negative f r) (units f r)
  pub smallest : (s : Bool) (n : ℕ) → NotAbove (negative f w) (units f w) s (n * 2 ^ low f) → NotAbove (negative f r) (units f r) s (n * 2 ^ low f)
  pub zero : units f r ≡ 0 → negative f r ≡ true

-- r is a whole number on w's side of 0, no more than a half from w, and where it is just a half from w it is the one away from 0;
-- a zero is +0
pub record IsRound (f : Format) (w r : ℕ) : Type 0 where
  pub finite : Finite f r
  pub whole : units f r % 2 ^ low f ≡ 0
  pub sign : (units f r ≡ 0 → ⊥) → negative f r ≡ negative f w
  pub near_above : 2 * (units f r - units f w) ≤ 2 ^ low f
  pub near_below : 2 * (units f w - units f r) + 1 ≤ 2 ^ low f
  pub zero : units f r ≡ 0 → negative f r ≡ false

-- ---- the operands for which the kernels have these meanings, by their gates

-- |x| under 2 ^ width f: trunc and fract. At binary32 it is `Under32`
abbrev pub UnderWidth : Format → ℕ → Type 0
UnderWidth f w = magnitude f w < (emax f + width f) * hid f

-- ---- at binary32

-- |x| under 2 ^ 32: trunc and fract
abbrev pub Under32 : ℕ → Type 0
Under32 w = magnitude binary32 w < 0x4f80_0000

-- |x| to 2 ^ 31: floor and ceil
abbrev pub To31 : ℕ → Type 0
To31 w = magnitude binary32 w ≤ 0x4f00_0000

-- |x| under 2 ^ 23, and not the magnitude next below a half: round
pub record Under23 (w : ℕ) : Type 0 where
  pub under : magnitude binary32 w < 0x4b00_0000
  pub clear : magnitude binary32 w ≡ 0x3eff_ffff → ⊥
