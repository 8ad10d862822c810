-- What a cast to an integer with a sign and h bits beside it makes of a number, over the format: whether the number is whole, whether it
-- is past the last integer on its side of 0, and what each of these means for the integer. 2 ^ low f units are 1. Definitions only.
use Rattle.std.specs.Prelude.{ℕ, suc, ◌-◌, ◌*◌, ◌/◌, ◌%◌, ◌^◌, ◌<◌, ◌≤◌, ◌≡◌, Bool, true, false, cond, ◌||◌, ltb, eqb, ℤ, pos, neg_ℤ, nat_abs}
use Rattle.std.specs.Float.{Format}
use Rattle.std.specs.Float.Ieee.{low, nan_bits}
use Rattle.format.specs.Fields.{negative}
use Rattle.format.specs.Value.{units, Finite}
use Rattle.format.specs.Classes.{is_endless}

-- nothing of the number is below the point
abbrev pub is_whole : Format → ℕ → Bool
is_whole f w = eqb (units f w % 2 ^ low f) 0

-- the size of the last integer on a side of 0: 2 ^ h below it, and one less above it
abbrev pub last_size : ℕ → Bool → ℕ
last_size h s = cond s (2 ^ h) (2 ^ h - 1)

-- its whole part is past that integer, as an infinity is; so is a NaN by this test, and whoever uses it has asked for that before
abbrev pub is_past : Format → ℕ → ℕ → Bool
is_past f h w = is_endless f w || ltb (last_size h (negative f w)) (units f w / 2 ^ low f)

-- the integer of a sign and a size
abbrev pub signed : Bool → ℕ → ℤ
signed s n = cond s (neg_ℤ (pos n)) (pos n)

-- ---- what the integer z is to the word w that was cast

-- it is the number
pub record IsKept (f : Format) (w : ℕ) (z : ℤ) : Type 0 where
  pub finite : Finite f w
  pub sign : z ≡ signed (negative f w) (nat_abs z)
  pub same : nat_abs z * 2 ^ low f ≡ units f w

-- it is the number without its fraction, and there was one
pub record IsCut (f : Format) (w : ℕ) (z : ℤ) : Type 0 where
  pub finite : Finite f w
  pub sign : z ≡ signed (negative f w) (nat_abs z)
  pub whole : nat_abs z ≡ units f w / 2 ^ low f
  pub rest : 0 < units f w % 2 ^ low f

-- it is the last integer on the side s of 0, where the number is too, with a size of at least one more, or infinite
pub record IsClipped (f : Format) (h : ℕ) (s : Bool) (w : ℕ) (z : ℤ) : Type 0 where
  pub number : nan_bits f w ≡ false
  pub side : negative f w ≡ s
  pub past : Finite f w → suc (last_size h s) * 2 ^ low f ≤ units f w
  pub end : z ≡ signed s (last_size h s)

-- it is 0, and the word is a NaN
pub record IsNothing (f : Format) (w : ℕ) (z : ℤ) : Type 0 where
  pub nan : nan_bits f w ≡ true
  pub zero : z ≡ pos 0
