-- A line's depth, a byte more, as the loop over its bytes passes it. Assumes nothing.
use Prim.Native.Nat.{ℕ, suc, ◌+◌, ◌-◌, ◌≤◌, ◌<◌}
use native.Mathlib.Numerals.{add-one}
use native.Mathlib.Omega.{arith}
use mathlib.Core.Path.{◌≡◌, sym, ap, ◌∙◌}
use mathlib.Core.Bool.{Bool, true, false, cond}
use mathlib.Core.List.{List}
use lib.Dec.{eqb}
use lib.ListN.{length, drop, get_or, drop_of_length-le}
use lib.Seq.{drop-cons}
use Rattle.recipe.specs.Grammar.{larger, raised_by, depth_after, depth_of}

pub raised_le : (c b n : ℕ) → raised_by c b n ≤ suc n
raised_le c b n = by (eqb b c)
  where
    by : (t : Bool) → cond t (suc n) n ≤ suc n
    by true = omega arith
    by false = omega arith

of_three : (a b c : ℕ) → larger a (larger b c) ≡ larger (larger a b) c
of_three a b c = omega arith

pub deeper_again : (l : List ℕ) (o c best i o' c' best' : ℕ) → depth_of l ≡ larger best (depth_after o c (drop i l)) → i < length l
    → o' ≡ raised_by 0x28 (get_or l i 0) o → c' ≡ raised_by 0x29 (get_or l i 0) c → best' ≡ larger best (o' - c') → depth_of l ≡ larger best' (depth_after o' c' (drop (i + 1) l))
unfolding depth_after
deeper_again l o c best i o' c' best' h k p q r =
    let s : depth_after o c (drop i l) ≡ larger (raised_by 0x28 (get_or l i 0) o - raised_by 0x29 (get_or l i 0) c) (depth_after (raised_by 0x28 (get_or l i 0) o) (raised_by 0x29 (get_or l i 0) c) (drop (suc i) l)) = rw (drop-cons l i 0 k) in
    let t : depth_after o c (drop i l) ≡ larger (o' - c') (depth_after o' c' (drop (i + 1) l)) = s ∙ rw (p, q, add-one i) in
    h ∙ ap (larger best) t ∙ of_three best (o' - c') (depth_after o' c' (drop (i + 1) l)) ∙ ap (λ (m : ℕ). larger m (depth_after o' c' (drop (i + 1) l))) (sym r)

pub deeper_ends : (l : List ℕ) (o c best i : ℕ) → depth_of l ≡ larger best (depth_after o c (drop i l)) → length l ≤ i → best ≡ depth_of l
unfolding depth_after
deeper_ends l o c best i h k = let e : depth_after o c (drop i l) ≡ 0 = rw (drop_of_length-le l k) in omega arith
