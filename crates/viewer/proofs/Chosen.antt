-- A span lies within the row that it names, and cut out of that row it is what is viewed. Assumes nothing.
use Prim.Native.Nat.{ℕ, ◌-◌, ◌≤◌}
use native.Mathlib.Nat.{le_refl}
use native.Mathlib.Omega.{arith}
use mathlib.Core.Path.{◌≡◌, refl, sym, subst}
use mathlib.Core.Bool.{Bool, true, false, cond}
use mathlib.Core.List.{List, []}
use lib.Dec.{T, leb, leb→le}
use lib.Ieee.Fits.{and_l, and_r}
use lib.ListN.{length, take, drop}
use Rattle.viewer.specs.declared.Part.{Part}
use Rattle.viewer.specs.View.{within, nothing, viewed, span_of}

abbrev pub row_of : List ℕ → List ℕ → Part → List ℕ
row_of scan retouch p = cond p.retouched retouch scan

pub record Chosen (scan retouch view : List ℕ) (p : Part) : Type 0 where
  pub ordered : p.from ≤ p.to
  pub inside : p.to ≤ length (row_of scan retouch p)
  pub cut : take (p.to - p.from) (drop p.from (row_of scan retouch p)) ≡ view

pub chosen : (scan retouch : List ℕ) (t : Bool) (from to : ℕ) → Chosen scan retouch (viewed scan retouch t from to) (span_of (length scan) (length retouch) t from to)
chosen scan retouch t from to = by_row t
  where
    go : (t : Bool) (b : Bool) → within from to (length (cond t retouch scan)) ≡ b
        → Chosen scan retouch (cond b (take (to - from) (drop from (cond t retouch scan))) []) (cond b (record { retouched = t; from = from; to = to }) nothing)
    go t true e =
        let n = length (cond t retouch scan) in
        let h : T (within from to n) = subst T (sym e) tt in
        record { ordered = leb→le from to (and_l (leb from to) (leb to n) h); inside = leb→le to n (and_r (leb from to) (leb to n) h); cut = refl }
    go t false e = record { ordered = le_refl 0; inside = omega arith; cut = refl }

    by_row : (t : Bool) → Chosen scan retouch (viewed scan retouch t from to) (span_of (length scan) (length retouch) t from to)
    by_row true = go true (within from to (length retouch)) refl
    by_row false = go false (within from to (length scan)) refl
