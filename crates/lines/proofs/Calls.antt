-- Calls of `feed` one after the other, each on some of what the ones before left of an input, and then `finish`: together they write the answers of the
-- input, one to a line and in order, whatever chunks and spaces were lent. Assumes nothing.
use Prim.Native.Nat.{ℕ, ◌≤◌}
use mathlib.Core.Path.{◌≡◌, refl, sym, ap, ◌∙◌}
use mathlib.Core.List.{List, [], ◌++◌}
use lib.ListN.{length, take}
use Rattle.lines.specs.declared.Held.{Held}
use Rattle.lines.specs.Lines.{answers, answers_of, completed, pending, last_line}
use Rattle.lines.specs.Answering.{Answering}
use Rattle.lines.specs.Held.{fresh, Holds, Feeds, Finishes}
use Rattle.lines.proofs.Cutting.{pending_cut, answers_append, answers_cut, lines_of_is}
use Rattle.lines.proofs.Holding.{fresh_holds, after_holds, from_line}
use Rattle.lines.proofs.Front.{answers_part, holds_part}
use Rattle.lines.proofs.Runs.{last_line_is, last_part}

-- calls from s on, after which s' is held: each reads the bytes that the input then begins with, and what it writes, at the front of its space, comes next
pub data Calls (f : List ℕ → List ℕ) {n : ℕ} : Held n → List ℕ → List ℕ → Held n → Type 0 where
  none : {s : Held n} → Calls f s [] [] s
  call : {s t s' : Held n} {chunk space space' more out : List ℕ} {read written : ℕ} → Feeds f s chunk space t read written space' → Calls f t more out s'
      → Calls f s (take read chunk ++ more) (take written space' ++ out) s'

module _ {n : ℕ} {f : List ℕ → List ℕ} (a : Answering n f) where
  wrote : (p : List ℕ) {s s' : Held n} {input out : List ℕ} → Holds p s → Calls f s input out s'
      → (out ≡ answers f (completed p input)) × Holds (pending p input) s'
  wrote p h none = (refl, h)
  wrote p h (call {s} {t} {s'} {chunk} {space} {space'} {more} {out} {read} {written} fs cs) =
      let part = take read chunk in
      let now : take written space' ≡ answers f (completed p part) = answers_part f s chunk space t read written space' fs ∙ from_line a p s part h in
      let held : Holds (pending p part) t = rw (holds_part f s chunk space t read written space' fs) (after_holds p s part h) in
      let next = wrote (pending p part) held cs in
      (rw (now, next.0) (sym (answers_cut f p part more)), rw (pending_cut p part more) next.1)

  -- with room for the last answer, what the calls wrote and what `finish` writes are the answers of the input
  pub calls_answer : {s' : Held n} {input out space space' : List ℕ} {m : ℕ} → Calls f (fresh n) input out s' → Finishes f s' space m space' → m ≤ length space
      → out ++ take m space' ≡ answers_of f input
  calls_answer {s'} {input} {out} {space} {space'} {m} cs fs h =
      let w = wrote [] (fresh_holds n) cs in
      let end : take m space' ≡ answers f (last_line (pending [] input)) =
      last_part f s' space m space' fs h ∙ last_line_is a (pending [] input) s' w.1 in
      rw (w.0, end)
      (sym (answers_append f (completed [] input) (last_line (pending [] input))) ∙ ap (answers f) (sym (lines_of_is input)))
