-- What a run of calls answers: of a line of any length its own answer, and of an input, however it is cut into parts, the answers of its lines,
-- one each and in order. Assumes nothing.
use borrow.Author.Tests.{le-ltb}
use Prim.Native.Nat.{ℕ, ◌*◌, ◌≤◌, ◌<◌}
use native.Mathlib.Omega.{arith}
use mathlib.Core.Path.{◌≡◌, refl, sym, ap, ◌∙◌}
use mathlib.Core.List.{List, [], ◌∷◌, ◌++◌}
use lib.ListN.{length, take, drop, length-append, length-take}
use lib.Seq.{take_at, take-nil}
use Rattle.lines.specs.declared.Held.{Held}
use Rattle.lines.specs.Lines.{lines_of, answers, answers_of, completed, pending, last_line, answers_over, joined}
use Rattle.lines.specs.Answering.{Answering}
use Rattle.lines.specs.Held.{line_of, fresh, Holds, after, front, Feeds, last_answer, Finishes, answers_fed}
use Rattle.lines.proofs.Cutting.{any_cut}
use Rattle.lines.proofs.Meaning.{one_answer_each}
use Rattle.lines.proofs.Holding.{fresh_holds, after_holds, same_answer, from_line}

module _ {n : ℕ} {f : List ℕ → List ℕ} (a : Answering n f) where
  -- ---- a line p of any length, of which s holds what counts

  -- feed answers the lines themselves, and then holds the line begun
  pub feeds_answers : (p : List ℕ) (s : Held n) (chunk space : List ℕ) (t : Held n) (read written : ℕ) (space' : List ℕ) → Holds p s → Feeds f s chunk space t read written space'
      → space' ≡ answers f (completed p (front (length space) chunk)) ++ drop written space
  feeds_answers p s chunk space t read written space' h fs =
      fs.bytes ∙ ap (λ (l : List ℕ). l ++ drop written space) (from_line a p s (front (length space) chunk) h)

  pub feeds_holds : (p : List ℕ) (s : Held n) (chunk space : List ℕ) (t : Held n) (read written : ℕ) (space' : List ℕ) → Holds p s → Feeds f s chunk space t read written space'
      → Holds (pending p (front (length space) chunk)) t
  feeds_holds p s chunk space t read written space' h fs = rw fs.lines (after_holds p s (front (length space) chunk) h)

  -- finish answers the line begun, where it is not empty
  pub last_line_is : (p : List ℕ) (s : Held n) → Holds p s → last_answer f s ≡ answers f (last_line p)
  last_line_is [] s h = rw (h.line, take-nil n)
  last_line_is (b ∷ bs) s h =
      ap (answers f) (begun (line_of s) (omega (arith, a.some, ap length h.line, length-take n (b ∷ bs)))) ∙ rw (same_answer a (b ∷ bs) s h)
    where
      begun : (l : List ℕ) → 0 < length l → last_line l ≡ l ∷ []
      begun [] m = absurd (let z : ⊥ = omega arith in z)
      begun (c ∷ cs) m = refl

  -- what finish writes, where it has room: the last answer, of eleven bytes at the most
  pub last_length : (s : Held n) → length (last_answer f s) ≤ 11
  last_length s = one (line_of s)
    where
      one : (l : List ℕ) → length (answers f (last_line l)) ≤ 11
      one [] = omega arith
      one (b ∷ bs) = omega (arith, length-append (f (b ∷ bs)) [], a.each (b ∷ bs))

  -- ---- a whole run

  fed_over : (p : List ℕ) (s : Held n) (cs : List (List ℕ)) → Holds p s → answers_fed f s cs ≡ answers_over f p cs
  fed_over p s [] h = last_line_is p s h
  fed_over p s (c ∷ cs) h = rw (from_line a p s c h, fed_over (pending p c) (after s c) cs (after_holds p s c h))

  pub whole_run : (cs : List (List ℕ)) → answers_fed f (fresh n) cs ≡ answers_of f (joined cs)
  whole_run cs = fed_over [] (fresh n) cs (fresh_holds n) ∙ any_cut f cs

  pub one_each : (cs : List (List ℕ)) → length (answers_fed f (fresh n) cs) ≡ length (lines_of (joined cs)) * 11
  one_each cs = ap length (whole_run cs) ∙ one_answer_each f 11 a.each (joined cs)

pub last_part : (f : List ℕ → List ℕ) {n : ℕ} (s : Held n) (space : List ℕ) (m : ℕ) (space' : List ℕ) → Finishes f s space m space' → m ≤ length space
    → take m space' ≡ last_answer f s
last_part f s space m space' fs h =
    ap (take m) (fs.bytes ∙ rw (le-ltb (length space) m h)) ∙ take_at (last_answer f s) (drop m space) m (sym fs.needed)
