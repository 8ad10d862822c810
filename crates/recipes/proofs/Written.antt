-- The answers that `pipe` writes are answers to entries. Assumes nothing.
use Prim.Native.Nat.{ℕ}
use native.Mathlib.Omega.{arith}
use mathlib.Core.Path.{◌≡◌, refl, sym, ap, ◌∙◌}
use mathlib.Core.List.{List, [], ◌∷◌, ◌++◌}
use lib.ListN.{length, take}
use lib.Seq.{take_all}
use Rattle.std.specs.Prelude.{Option, Some, None, IfSome, Result, Ok, Err, IfOk}
use Rattle.std.specs.Io.KnownBytes.{Appends}
use Rattle.frame.specs.Frame.{words_bytes}
use Rattle.lines.specs.Lines.{lines_of, answers, answers_of}
use Rattle.pipe.specs.Known.{AppendsFront}
use Rattle.recipe.specs.Entry.{AnswersEntry}
use Rattle.recipe.proofs.Entries.{one_entry}
use Rattle.lines.specs.Held.{line_of}
use Rattle.recipes.specs.Entries.{some_entry, entry_bytes, entries}
use Rattle.recipes.proofs.Holding.{enough, holding, holds, tells}
use Rattle.recipes.specs.Written.{AreAnswers, Adds, AddsFirst}

-- a line has one answer
pub bytes_of : (line : List ℕ) (w : ℕ) → AnswersEntry line w → words_bytes w ≡ entry_bytes line
unfolding entry_bytes
bytes_of line w a = ap words_bytes (one_entry line w (some_entry line).0 a (some_entry line).1)

-- what is written for what is held of a line answers the line
are_answers : (ls : List (List ℕ)) → AreAnswers ls (answers entry_bytes ls)
are_answers [] = refl
are_answers (l ∷ ls) =
    let s = holding l in
    let e = enough l (entry_bytes (line_of s)) s (holds l) (tells s) in
    let same : entry_bytes l ≡ words_bytes e.0 = sym (entries.enough l) ∙ sym (ap entry_bytes (holds l).line) ∙ e.2 in
    (e.0, answers entry_bytes ls, e.1, ap (λ (b : List ℕ). b ++ answers entry_bytes ls) same, are_answers ls)

adds : (left held held' : Option (List ℕ)) → IfSome left (λ bytes. Appends held held' (answers_of entry_bytes bytes))
    → IfSome left (λ bytes. Adds (lines_of bytes) held held')
adds None held held' p = tt
adds (Some xs) held held' p = (answers_of entry_bytes xs, are_answers (lines_of xs), p)

pub adds_all : {X E : Type 0} (r : Result (Option X) E) (left held held' : Option (List ℕ))
    → IfOk r (λ x. x ≡ None → IfSome left (λ bytes. Appends held held' (answers_of entry_bytes bytes)))
    → IfOk r (λ x. x ≡ None → IfSome left (λ bytes. Adds (lines_of bytes) held held'))
adds_all (Ok x) left held held' p = λ e. adds left held held' (p e)
adds_all (Err y) left held held' p = tt

pub adds_first : (left held held' : Option (List ℕ)) → IfSome left (λ bytes. AppendsFront held held' (answers_of entry_bytes bytes))
    → IfSome left (λ bytes. AddsFirst (lines_of bytes) held held')
adds_first None held held' p = tt
adds_first (Some xs) held held' p =
    let ls = lines_of xs in
    let e : take (length ls) ls ≡ ls = take_all (length ls) ls (omega arith) in
    (length ls, answers entry_bytes ls, rw e (are_answers ls), p)
