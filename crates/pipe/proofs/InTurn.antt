-- The turns of a run, one after the other: what each takes comes after what the ones before took. Assumes nothing.
use Prim.Native.Nat.{ℕ, ◌+◌, ◌<◌}
use native.Mathlib.Omega.{arith}
use mathlib.Core.Path.{◌≡◌, sym, ap, ◌∙◌}
use mathlib.Core.List.{List, [], ◌∷◌, ◌++◌, append-nil, append_assoc}
use lib.ListN.{length, take, length-take, length-append}
use Rattle.lines.specs.declared.Held.{Held}
use Rattle.lines.specs.Lines.{joined}
use Rattle.lines.specs.Held.{fresh, after}
use Rattle.lines.proofs.Holding.{after_cut}
use Rattle.pipe.specs.Turns.{Took, AllSome, Taken}

some_onto : (cs : List (List ℕ)) (c : List ℕ) → AllSome cs → 0 < length c → AllSome (cs ++ c ∷ [])
some_onto [] c a h = (h, tt)
some_onto (d ∷ ds) c a h = (a.0, some_onto ds c a.1 h)

joined_onto : (cs : List (List ℕ)) (c : List ℕ) → joined (cs ++ c ∷ []) ≡ joined cs ++ c
joined_onto [] c = append-nil c
joined_onto (d ∷ ds) c = ap (λ (l : List ℕ). d ++ l) (joined_onto ds c) ∙ sym (append_assoc d (joined ds) c)

-- one turn more
pub onward : (k : ℕ) {n : ℕ} (s : Held n) (buffer : List ℕ) (t : Held n) → Taken k s → Took s buffer t → Taken (k + 1) t
onward k {n} s buffer t a b = record {
  chunks = a.chunks ++ c ∷ [];
  count = omega (arith, length-append a.chunks (c ∷ []), a.count);
  some = some_onto a.chunks c a.some (omega (arith, length-take b.read buffer, b.some, b.within));
  lines = b.lines ∙ ap (λ (l : Held n). after l c) a.lines ∙ sym (after_cut (fresh n) (joined a.chunks) c) ∙ ap (after (fresh n)) (sym (joined_onto a.chunks c));
}
  where
    c : List ℕ
    c = take b.read buffer
