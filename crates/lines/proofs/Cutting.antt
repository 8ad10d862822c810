-- Cutting an input anywhere gives the same answers: what is found chunk by chunk is what is found in the whole. Assumes nothing.
use Prim.Native.Nat.{ℕ}
use mathlib.Core.Path.{◌≡◌, refl, sym, ap, ◌∙◌}
use mathlib.Core.Bool.{Bool, true, false, cond}
use mathlib.Core.List.{List, [], ◌∷◌, ◌++◌, append_assoc}
use lib.Dec.{eqb}
use Rattle.lines.specs.Lines.{newline, onto, lines_of, answers, answers_of, completed, pending, last_line, answers_over, joined}

-- ---- a chunk cut in two

pub pending_cut : (p c d : List ℕ) → pending p (c ++ d) ≡ pending (pending p c) d
pending_cut p [] d = refl
pending_cut p (b ∷ bs) d = go (eqb b newline) (pending [] bs) (pending (p ++ b ∷ []) bs) (pending_cut [] bs d) (pending_cut (p ++ b ∷ []) bs d)
  where
    go : (t : Bool) {x y : List ℕ} (u v : List ℕ) → x ≡ pending u d → y ≡ pending v d → cond t x y ≡ pending (cond t u v) d
    go true u v e e' = e
    go false u v e e' = e'

pub completed_cut : (p c d : List ℕ) → completed p (c ++ d) ≡ completed p c ++ completed (pending p c) d
completed_cut p [] d = refl
completed_cut p (b ∷ bs) d =
    go (eqb b newline) (completed [] bs) (completed (p ++ b ∷ []) bs) (pending [] bs) (pending (p ++ b ∷ []) bs) (completed_cut [] bs d) (completed_cut (p ++ b ∷ []) bs d)
  where
    go : (t : Bool) {x y : List (List ℕ)} (m n : List (List ℕ)) (u v : List ℕ) → x ≡ m ++ completed u d → y ≡ n ++ completed v d
        → cond t (p ∷ x) y ≡ cond t (p ∷ m) n ++ completed (cond t u v) d
    go true m n u v e e' = rw e
    go false m n u v e e' = e'

pub answers_append : (f : List ℕ → List ℕ) (k l : List (List ℕ)) → answers f (k ++ l) ≡ answers f k ++ answers f l
answers_append f [] l = refl
answers_append f (x ∷ xs) l = rw (answers_append f xs l, append_assoc)

-- the answers to two chunks are those to the first and then, from the line that it leaves begun, those to the second
pub answers_cut : (f : List ℕ → List ℕ) (p c d : List ℕ)
    → answers f (completed p (c ++ d)) ≡ answers f (completed p c) ++ answers f (completed (pending p c) d)
answers_cut f p c d = ap (answers f) (completed_cut p c d) ∙ answers_append f (completed p c) (completed (pending p c) d)

-- ---- a chunk and its end are the whole

-- the lines of what follows, with p before the first line's bytes
abbrev begun : List ℕ → List (List ℕ) → List (List ℕ)
begun [] ls = ls
begun (b ∷ bs) ls = onto b (begun bs ls)

begun_none : (b : ℕ) (bs : List ℕ) → begun (b ∷ bs) [] ≡ (b ∷ bs) ∷ []
begun_none b [] = refl
begun_none b (a ∷ as') = ap (onto b) (begun_none a as')

begun_last : (p : List ℕ) → last_line p ≡ begun p []
begun_last [] = refl
begun_last (b ∷ bs) = sym (begun_none b bs)

begun_ended : (p : List ℕ) (ls : List (List ℕ)) → begun p ([] ∷ ls) ≡ p ∷ ls
begun_ended [] ls = refl
begun_ended (b ∷ bs) ls = ap (onto b) (begun_ended bs ls)

begun_more : (p : List ℕ) (b : ℕ) (ls : List (List ℕ)) → begun (p ++ b ∷ []) ls ≡ begun p (onto b ls)
begun_more [] b ls = refl
begun_more (a ∷ as') b ls = ap (onto a) (begun_more as' b ls)

completed_last : (p c : List ℕ) → completed p c ++ last_line (pending p c) ≡ begun p (lines_of c)
completed_last p [] = begun_last p
completed_last p (b ∷ bs) = go (eqb b newline) (completed [] bs) (completed (p ++ b ∷ []) bs) (pending [] bs) (pending (p ++ b ∷ []) bs) (lines_of bs) (completed_last [] bs) (completed_last (p ++ b ∷ []) bs ∙ begun_more p b (lines_of bs))
  where
    go : (t : Bool) (m n : List (List ℕ)) (u v : List ℕ) (ls : List (List ℕ)) → m ++ last_line u ≡ ls → n ++ last_line v ≡ begun p (onto b ls)
        → cond t (p ∷ m) n ++ last_line (cond t u v) ≡ begun p (cond t ([] ∷ ls) (onto b ls))
    go true m n u v ls e e' = rw e (sym (begun_ended p ls))
    go false m n u v ls e e' = e'

-- the lines of an input are those that it completes, and the line left begun at its end
pub lines_of_is : (c : List ℕ) → lines_of c ≡ completed [] c ++ last_line (pending [] c)
lines_of_is c = sym (completed_last [] c)

over : (f : List ℕ → List ℕ) (p : List ℕ) (cs : List (List ℕ))
    → answers_over f p cs ≡ answers f (completed p (joined cs)) ++ answers f (last_line (pending p (joined cs)))
over f p [] = refl
over f p (c ∷ cs) = rw (over f (pending p c) cs, answers_cut f p c (joined cs), pending_cut p c (joined cs), append_assoc)

-- however an input is cut into chunks, they give its answers
pub any_cut : (f : List ℕ → List ℕ) (cs : List (List ℕ)) → answers_over f [] cs ≡ answers_of f (joined cs)
any_cut f cs =
    over f [] cs
    ∙ sym (answers_append f (completed [] (joined cs)) (last_line (pending [] (joined cs))))
    ∙ ap (answers f) (completed_last [] (joined cs))

-- so two ways to cut one input give the same
pub two_cuts : (f : List ℕ → List ℕ) (cs ds : List (List ℕ)) → joined cs ≡ joined ds → answers_over f [] cs ≡ answers_over f [] ds
two_cuts f cs ds e = any_cut f cs ∙ ap (answers_of f) e ∙ sym (any_cut f ds)
