-- What is on screen, by law and by a table: where the columns are refused it is an empty part that begins where the scanned row does, and else the
-- columns of the row chosen, in that row's memory. Assumes nothing.
use Prim.Native.Nat.{ℕ, ◌+◌, ◌-◌, ◌*◌}
use native.Mathlib.Nat.{zero-add}
use mathlib.Core.Path.{◌≡◌, refl, ap}
use mathlib.Core.Bool.{Bool, true, false, cond, not, ◌&&◌}
use mathlib.Core.List.{List, [], ◌∷◌, map}
use lib.Dec.{eqb}
use lib.ListN.{length, take, drop}
use denote.Ref.{Bor}
use Rattle.viewer.specs.declared.Part.{Part}
use Rattle.viewer.specs.View.{within, nothing, span_of, viewed, place_in}

-- ---- by law

module _ (scan retouch : Bor (List ℕ)) (retouched : Bool) (from to : ℕ) where
  abbrev row : Bor (List ℕ)
  row = cond retouched retouch scan

  abbrev span : Part
  span = span_of (length scan.now) (length retouch.now) retouched from to

  -- in order, and not past the end of the row chosen
  abbrev taken : Bool
  taken = within from to (cond retouched (length retouch.now) (length scan.now))

  pub refused_is_the_scans : taken ≡ false → (viewed scan.now retouch.now retouched from to ≡ []) × (place_in scan retouch span ≡ scan.ref_ptr)
  refused_is_the_scans e = (by_row retouched e, rw e (ap (λ (o : ℕ). (scan.ref_ptr.0, o)) (zero-add scan.ref_ptr.1)))
    where
      by_row : (t : Bool) → within from to (cond t (length retouch.now) (length scan.now)) ≡ false → viewed scan.now retouch.now t from to ≡ []
      by_row true d = rw d
      by_row false d = rw d

  pub shown_is_the_rows : taken ≡ true
      → (viewed scan.now retouch.now retouched from to ≡ take (to - from) (drop from row.now)) × (place_in scan retouch span ≡ (row.ref_ptr.0, from * 4 + row.ref_ptr.1))
  shown_is_the_rows e = (by_row retouched e, rw e)
    where
      by_row : (t : Bool) → within from to (cond t (length retouch.now) (length scan.now)) ≡ true
          → viewed scan.now retouch.now t from to ≡ take (to - from) (drop from (cond t retouch scan).now)
      by_row true d = rw d
      by_row false d = rw d

-- ---- by words: what is in order and not past the end of five columns, and what is shown where nothing is

pub within_five : map (λ (e : ℕ × ℕ). within e.0 e.1 5) ((0, 5) ∷ (5, 5) ∷ (2, 2) ∷ (0, 0) ∷ (4, 5) ∷ (0, 6) ∷ (6, 6) ∷ (3, 2) ∷ (5, 0) ∷ [])
    ≡ true ∷ true ∷ true ∷ true ∷ true ∷ false ∷ false ∷ false ∷ false ∷ []
within_five = refl

pub nothing_is_the_scans : nothing ≡ record { retouched = false; from = 0; to = 0 }
nothing_is_the_scans = refl

-- ---- by a table: the lengths of the two rows, the flag and the columns asked for; and the span

pub data Case : Type 0 where
  case : ℕ → ℕ → Bool → ℕ → ℕ → Bool → ℕ → ℕ → Case

abbrev alike : Bool → Bool → Bool
alike p q = cond p q (not q)

abbrev is_part : Part → Bool → ℕ → ℕ → Bool
is_part p retouched from to = alike p.retouched retouched && (eqb p.from from && eqb p.to to)

abbrev pub right : List Case → Bool
right [] = true
right (case scan retouch t f l row first last ∷ cs) = is_part (span_of scan retouch t f l) row first last && right cs

abbrev pub spans : List Case
spans =
    case 5 3 false 0 5 false 0 5 ∷ case 5 3 false 2 4 false 2 4 ∷ case 5 3 true 0 3 true 0 3 ∷ case 5 3 true 1 2 true 1 2
    -- the last column, and one past it: only the row chosen is judged
    ∷ case 5 3 false 4 5 false 4 5 ∷ case 5 3 false 4 6 false 0 0 ∷ case 5 3 true 1 4 false 0 0 ∷ case 3 5 true 1 5 true 1 5 ∷ case 3 5 false 1 5 false 0 0
    -- no column, up to the very end, and past it
    ∷ case 5 3 true 2 2 true 2 2 ∷ case 5 3 true 3 3 true 3 3 ∷ case 5 3 false 5 5 false 5 5 ∷ case 5 3 true 4 4 false 0 0 ∷ case 5 3 false 6 6 false 0 0
    -- out of order
    ∷ case 5 3 false 2 1 false 0 0 ∷ case 5 3 true 2 1 false 0 0 ∷ case 5 3 true 3 0 false 0 0
    -- rows with nothing in them
    ∷ case 0 0 true 0 0 true 0 0 ∷ case 0 0 false 0 0 false 0 0 ∷ case 0 0 true 0 1 false 0 0 ∷ case 0 2 true 1 2 true 1 2 ∷ case 2 0 true 0 1 false 0 0 ∷ []

pub spans_are_right : right spans ≡ true
spans_are_right = refl

-- what stands in them, and where: a scanned row of three words at 40 of block 7, and a retouched one of four at 80 of block 8
abbrev pub scanned : Bor (List ℕ)
scanned = record { ref_ptr = (7, 40); now = 10 ∷ 11 ∷ 12 ∷ [] }

abbrev pub retouched : Bor (List ℕ)
retouched = record { ref_ptr = (8, 80); now = 20 ∷ 21 ∷ 22 ∷ 23 ∷ [] }

-- the flag and the columns asked for
abbrev pub asked : List (Bool × ℕ × ℕ)
asked = (false, 1, 3) ∷ (true, 1, 4) ∷ (true, 0, 1) ∷ (true, 4, 4) ∷ (false, 1, 4) ∷ (true, 3, 5) ∷ (true, 2, 1) ∷ []

pub words : map (λ (e : Bool × ℕ × ℕ). viewed scanned.now retouched.now e.0 e.1 e.2) asked
    ≡ (11 ∷ 12 ∷ []) ∷ (21 ∷ 22 ∷ 23 ∷ []) ∷ (20 ∷ []) ∷ [] ∷ [] ∷ [] ∷ [] ∷ []
words = refl

pub places : map (λ (e : Bool × ℕ × ℕ). place_in scanned retouched (span_of 3 4 e.0 e.1 e.2)) asked
    ≡ (7, 44) ∷ (8, 84) ∷ (8, 80) ∷ (8, 96) ∷ (7, 40) ∷ (7, 40) ∷ (7, 40) ∷ []
places = refl

pub place_of : (place_in scanned retouched (record { retouched = false; from = 2; to = 3 }) ≡ (7, 48)) × (place_in scanned retouched (record { retouched = true; from = 3; to = 3 }) ≡ (8, 92))
place_of = (refl, refl)
