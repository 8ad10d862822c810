-- What is held of a line is enough of it. Assumes nothing.
use Prim.Native.Nat.{ℕ, ◌-◌}
use native.Mathlib.Omega.{arith}
use mathlib.Core.Path.{◌≡◌, refl, subst, ◌∙◌}
use mathlib.Core.List.{List, ◌++◌}
use lib.ListN.{length, take, replicate, length-append, length-take, length-replicate}
use lib.Seq.{take-append_seam}
use Rattle.frame.specs.Frame.{words_bytes}
use Rattle.lines.specs.declared.Held.{Held}
use Rattle.lines.specs.Held.{line_of, Holds}
use Rattle.recipe.specs.Entry.{AnswersEntry}
use Rattle.recipe.proofs.Entries.{first_bytes}
use Rattle.recipes.specs.Entries.{some_entry, entry_bytes}
use Rattle.recipes.specs.Held.{Tells}

-- the answer to what is held is the line's
pub enough : (p answer : List ℕ) (s : Held 250) → Holds p s → Tells s answer → (w : ℕ) × AnswersEntry p w × (answer ≡ words_bytes w)
enough p answer s h t = (t.words, first_bytes p t.words (subst (λ (l : List ℕ). AnswersEntry l t.words) h.line t.answers), t.bytes)

-- a line that is held
pub holding : List ℕ → Held 250
holding p = record { held = take 250 p ++ replicate (250 - length p) 0; count = length (take 250 p) }

pub holds : (p : List ℕ) → Holds p (holding p)
unfolding holding
holds p = record {
  long = length-append (take 250 p) (replicate (250 - length p) 0) ∙ omega (arith, length-take 250 p, length-replicate {A = ℕ} (250 - length p) 0);
  line = take-append_seam (take 250 p) (replicate (250 - length p) 0);
}

-- what is written for it is its answer
pub tells : (s : Held 250) → Tells s (entry_bytes (line_of s))
unfolding entry_bytes
tells s = record { words = (some_entry (line_of s)).0; answers = (some_entry (line_of s)).1; bytes = refl }
