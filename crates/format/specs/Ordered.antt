-- How an answer goes with its operand: which words the order is told of, when one number is no larger than another or lies from -b to b, which words are
-- powers of two, and when a kernel is odd to the bit. Definitions only.
use Rattle.std.specs.Prelude.{ℕ, ◌*◌, ◌^◌, ◌≤◌, ◌≡◌, true, false}
use Rattle.std.specs.Float.{Format}
use Rattle.std.specs.Float.Ieee.{low, le, of_bits, nan_bits}
use Rattle.format.specs.Fields.{negative, magnitude}
use Rattle.format.specs.Sign.{turned_word}
use Rattle.format.specs.Value.{units}
use Rattle.format.specs.Estimates.{inv_magic, Normal}

-- ---- the operands

-- the sign clear, and no NaN: from +0 up to the infinity
pub record Unsigned (f : Format) (w : ℕ) : Type 0 where
  pub sign : negative f w ≡ false
  pub number : nan_bits f w ≡ false

-- no more than inv subtracts from: from +0 to 2 ^ 127, or 2 ^ 1023
abbrev pub Unwrapped : Format → ℕ → Type 0
Unwrapped f w = w ≤ inv_magic f

-- the number 2 ^ i / 2 ^ j, which is normal
pub record Power (f : Format) (i j w : ℕ) : Type 0 where
  pub normal : Normal f w
  pub value : units f w * 2 ^ j ≡ 2 ^ i * 2 ^ low f

-- 2 ^ (2 * k), for k = i - j
abbrev pub EvenPower : Format → ℕ → ℕ → ℕ → Type 0
EvenPower f i j = Power f (2 * i) (2 * j)

-- ---- the answers

-- r is no larger than s: as words, counted in units, and as IEEE 754 compares the two
pub record NoLarger (f : Format) (r s : ℕ) : Type 0 where
  pub words : r ≤ s
  pub amounts : units f r ≤ units f s
  pub compared : le (of_bits f r) (of_bits f s) ≡ true

-- r is from -b to b, b being a word with its sign clear: by its magnitude, counted in units, and as IEEE 754 compares them
pub record Within (f : Format) (b r : ℕ) : Type 0 where
  pub size : magnitude f r ≤ b
  pub amount : units f r ≤ units f b
  pub least : le (of_bits f (turned_word f b)) (of_bits f r) ≡ true
  pub most : le (of_bits f r) (of_bits f b) ≡ true

-- r times r is w, with nothing over
abbrev pub Squares : Format → ℕ → ℕ → Type 0
Squares f r w = units f r * units f r ≡ units f w * 2 ^ low f

-- with the operand's sign bit turned the answer has its own turned, and no other bit
abbrev pub OddAt : Format → (ℕ → ℕ) → ℕ → Type 0
OddAt f k w = k (turned_word f w) ≡ turned_word f (k w)
