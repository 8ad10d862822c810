-- The columns of one of two rows from one to another, the first in it and the last not: which they are, by the rows' lengths, what stands in
-- them, and where. Definitions only.
use Rattle.std.specs.Prelude.{ℕ, ◌+◌, ◌-◌, ◌*◌, Bool, false, cond, ◌&&◌, List, [], leb, length, take, drop}
use Rattle.std.specs.Borrow.{Bor}
use Rattle.viewer.specs.declared.Part.{Part}

-- in order, and not past the end of a row
abbrev pub within : ℕ → ℕ → ℕ → Bool
within from to size = leb from to && leb to size

-- the empty part of the scanned row
abbrev pub nothing : Part
nothing = record { retouched = false; from = 0; to = 0 }

-- the part of the row chosen, by the lengths of the two; where its columns are out of order or past that row's end, nothing
abbrev pub span_of : ℕ → ℕ → Bool → ℕ → ℕ → Part
span_of scan retouch retouched from to = cond (within from to (cond retouched retouch scan)) (record { retouched = retouched; from = from; to = to }) nothing

-- what stands in it
abbrev pub viewed : List ℕ → List ℕ → Bool → ℕ → ℕ → List ℕ
viewed scan retouch retouched from to =
    let row = cond retouched retouch scan in
    cond (within from to (length row)) (take (to - from) (drop from row)) []

-- where a part of two lent rows begins: in the memory of the row that it is of, four bytes on for each column before it
abbrev pub place_in : Bor (List ℕ) → Bor (List ℕ) → Part → ℕ × ℕ
place_in scan retouch p = let row = cond p.retouched retouch scan in (row.ref_ptr.0, p.from * 4 + row.ref_ptr.1)
