-- What a cast to a 32-bit integer did, as one of five marks: by whether the number is whole and past which end of the range it is. What
-- each mark says of the word and the integer. Definitions only.
use Rattle.std.specs.Prelude.{ℕ, true, false, cond, ℤ}
use Rattle.std.specs.Float.{binary32}
use Rattle.std.specs.Float.Ieee.{nan_bits}
use Rattle.format.specs.Fields.{negative}
use Rattle.format.specs.Cast.{is_whole, is_past, IsKept, IsCut, IsClipped, IsNothing}
use Rattle.float.specs.declared.mark.Mark.{Mark}
use Rattle.float.specs.declared.mark.Mark.TheVariants.{Exact, Dropped, High, Low, NotANumber}

abbrev pub mark_of : ℕ → Mark
mark_of w =
    cond (nan_bits binary32 w) NotANumber
    (cond (is_past binary32 31 w) (cond (negative binary32 w) Low High)
    (cond (is_whole binary32 w) Exact Dropped))

abbrev pub number_of : Mark → ℕ
number_of Exact = 0
number_of Dropped = 1
number_of High = 2
number_of Low = 3
number_of NotANumber = 4

-- the mark tells the truth of a word and the integer that it was cast to
abbrev pub Tells : Mark → ℕ → ℤ → Type 0
Tells Exact w z = IsKept binary32 w z
Tells Dropped w z = IsCut binary32 w z
Tells High w z = IsClipped binary32 31 false w z
Tells Low w z = IsClipped binary32 31 true w z
Tells NotANumber w z = IsNothing binary32 w z
