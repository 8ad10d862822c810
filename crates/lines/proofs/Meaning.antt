-- What the lines of an input are: none holds a newline, and with a newline after each they are the input, but for a newline that it may lack at
-- its end; and each line has one answer, in its place. Assumes nothing.
use Prim.Native.Nat.{ℕ, zero, suc, ◌+◌, ◌*◌, ◌<◌}
use native.Mathlib.Nat.{suc-mul, not-suc-le-zero, le_of_suc-le-suc, zero-mul, add_comm}
use mathlib.Core.Path.{◌≡◌, refl, sym, ◌∙◌}
use mathlib.Core.Logic.{◌⊎◌, inl, inr}
use mathlib.Core.Bool.{Bool, true, false, cond}
use mathlib.Core.List.{List, [], ◌∷◌, ◌++◌}
use borrow.Author.Tests.{eqb-true, eqb-false}
use lib.Dec.{eqb}
use lib.ListN.{length, get_or, take, drop, length-append}
use lib.Seq.{take_at, drop-append-add}
use Rattle.lines.specs.Lines.{newline, onto, lines_of, answers, answers_of}

-- ---- the odd inputs

pub no_input : lines_of [] ≡ []
no_input = refl

pub empty_line : lines_of (newline ∷ []) ≡ [] ∷ []
empty_line = refl

pub last_counts : lines_of (97 ∷ newline ∷ newline ∷ 98 ∷ []) ≡ (97 ∷ []) ∷ [] ∷ (98 ∷ []) ∷ []
last_counts = refl

pub no_answer : (f : List ℕ → List ℕ) → answers_of f [] ≡ []
no_answer f = refl

-- ---- no line holds a newline

abbrev pub Plain : List ℕ → Type 0
Plain [] = Unit {0}
Plain (b ∷ bs) = (b ≡ newline → ⊥) × Plain bs

abbrev pub AllPlain : List (List ℕ) → Type 0
AllPlain [] = Unit {0}
AllPlain (l ∷ ls) = Plain l × AllPlain ls

onto_plain : (b : ℕ) (ls : List (List ℕ)) → (b ≡ newline → ⊥) → AllPlain ls → AllPlain (onto b ls)
onto_plain b [] n a = ((n, tt), tt)
onto_plain b (l ∷ ls) n a = ((n, a.0), a.1)

pub plain : (input : List ℕ) → AllPlain (lines_of input)
plain [] = tt
plain (b ∷ bs) = go (eqb b newline) refl (plain bs)
  where
    go : (t : Bool) → eqb b newline ≡ t → AllPlain (lines_of bs) → AllPlain (cond t ([] ∷ lines_of bs) (onto b (lines_of bs)))
    go true e a = (tt, a)
    go false e a = onto_plain b (lines_of bs) (eqb-false b newline e) a

-- ---- the lines are the input

-- some lines with a newline after each
abbrev pub text : List (List ℕ) → List ℕ
text [] = []
text (l ∷ ls) = l ++ newline ∷ text ls

-- they are the input, or the input with a newline at its end
abbrev pub Same : List (List ℕ) → List ℕ → Type 0
Same ls input = (text ls ≡ input) ⊎ (text ls ≡ input ++ newline ∷ [])

same_byte : (b : ℕ) {t bs : List ℕ} → (t ≡ bs) ⊎ (t ≡ bs ++ newline ∷ [])
    → (◌≡◌ {A = List ℕ} (b ∷ t) (b ∷ bs)) ⊎ (◌≡◌ {A = List ℕ} (b ∷ t) ((b ∷ bs) ++ newline ∷ []))
same_byte b (inl e) = inl (rw e)
same_byte b (inr e) = inr (rw e)

onto_same : (b : ℕ) (ls : List (List ℕ)) (bs : List ℕ) → Same ls bs → Same (onto b ls) (b ∷ bs)
onto_same b [] [] s = inr refl
onto_same b [] (a ∷ as') (inl e) = inl (cc)
onto_same b [] (a ∷ as') (inr e) = inl (cc)
onto_same b (l ∷ ls) bs s = same_byte b s

pub same : (input : List ℕ) → Same (lines_of input) input
same [] = inl refl
same (b ∷ bs) = go (eqb b newline) refl (same bs)
  where
    go : (t : Bool) → eqb b newline ≡ t → Same (lines_of bs) bs → Same (cond t ([] ∷ lines_of bs) (onto b (lines_of bs))) (b ∷ bs)
    go true e s = rw (eqb-true b newline e) (same_byte newline s)
    go false e s = onto_same b (lines_of bs) bs s

-- ---- one answer for each line, in order, where every answer is n bytes long

module _ (f : List ℕ → List ℕ) (n : ℕ) (each : (l : List ℕ) → length (f l) ≡ n) where
  pub length_answers : (ls : List (List ℕ)) → length (answers f ls) ≡ length ls * n
  length_answers [] = sym (zero-mul n)
  length_answers (l ∷ ls) = length-append (f l) (answers f ls) ∙ rw (each l, length_answers ls, suc-mul (length ls) n) (add_comm n (length ls * n))

  answer_at : (ls : List (List ℕ)) (k : ℕ) → k < length ls → take n (drop (k * n) (answers f ls)) ≡ f (get_or ls k [])
  answer_at [] k h = absurd (not-suc-le-zero h)
  answer_at (l ∷ ls) zero h = rw (zero-mul n) (take_at (f l) (answers f ls) n (each l))
  answer_at (l ∷ ls) (suc k) h =
      let e : suc k * n ≡ length (f l) + k * n = rw (each l) (suc-mul k n ∙ add_comm (k * n) n) in
      rw (e, drop-append-add (f l) (answers f ls) (k * n)) (answer_at ls k (le_of_suc-le-suc h))

  pub one_answer_each : (input : List ℕ) → length (answers_of f input) ≡ length (lines_of input) * n
  one_answer_each input = length_answers (lines_of input)

  pub in_order : (input : List ℕ) (k : ℕ) → k < length (lines_of input) → take n (drop (k * n) (answers_of f input)) ≡ f (get_or (lines_of input) k [])
  in_order input = answer_at (lines_of input)
