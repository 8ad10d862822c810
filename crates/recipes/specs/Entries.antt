-- The answer to an entry, as eleven bytes. Assumes nothing.
use Prim.Native.Nat.{ℕ, ◌+◌}
use native.Mathlib.Omega.{arith}
use mathlib.Core.Path.{◌≡◌, refl, sym, ap, ◌∙◌}
use mathlib.Core.Bool.{Bool, true, false, false≢true}
use mathlib.Core.List.{List, [], ◌∷◌}
use lib.ListN.{length, take, drop, length-append}
use lib.Ieee.{Float, binary32, of_bits}
use Rattle.guard.specs.Guarded.{Answer}
use Rattle.refusals.specs.Given.{given}
use Rattle.recipe.specs.Grammar.{Sum, refusal_sum, value_sum}
use Rattle.frame.specs.Frame.{number_at, hex_bytes, words_bytes}
use Rattle.frame.proofs.Digits.{hex_length}
use Rattle.lines.specs.Answering.{Answering}
use Rattle.pipe.specs.Chunk.{Room}
use Rattle.recipe.specs.Answers.{Answers}
use Rattle.recipe.specs.Entry.{is_entry, AnswersEntry}
use Rattle.recipe.proofs.Answers.{Standing, long, deep, outside, read, standing, too_long, too_deep, not_grammar}
use Rattle.recipe.proofs.Readings.{one_reading}
use Rattle.recipe.proofs.Entries.{first_bytes, one_entry}

-- a recipe has an answer at any x
some_answer : (line : List ℕ) (x : Float) → (r : Answer) × Answers line x r
some_answer line x = by (standing line)
  where
    by : Standing line → (r : Answer) × Answers line x r
    by (long h) = (_, too_long line x _ h refl)
    by (deep h k) = (_, too_deep line x _ h k refl)
    by (outside h k n) = (_, not_grammar line x _ h k n refl)
    by (read h k t o) = (
      given (refusal_sum x t) (record { number = value_sum x t; products = 0 }),
      record {
        long = λ m. absurd (let z : ⊥ = omega arith in z);
        deep = λ m n. absurd (let z : ⊥ = omega arith in z);
        outside = λ m n p. absurd (p t o);
        read = λ m n s q. ap (λ (u : Sum). given (refusal_sum x u) (record { number = value_sum x u; products = 0 })) (one_reading t s o.proper q.proper (o.written ∙ sym q.written));
      },
    )

-- so has an entry, as words
pub some_entry : (line : List ℕ) → (w : ℕ) × AnswersEntry line w
some_entry line = go (is_entry line) refl
  where
    go : (t : Bool) → is_entry line ≡ t → (w : ℕ) × AnswersEntry line w
    go true e =
        let a = some_answer (drop 9 line) (of_bits binary32 (number_at 0 8 line)) in
        (_, record { malformed = λ h. absurd (false≢true (sym h ∙ e)); worked = λ h. record { answer = a.0; answers = a.1; words = refl } })
    go false e = (_, record { malformed = λ h. refl; worked = λ h. absurd (false≢true (sym e ∙ h)) })

words_length : (w : ℕ) → length (words_bytes w) ≡ 11
words_length w = length-append (hex_bytes 10 w) (10 ∷ []) ∙ ap (λ (n : ℕ). n + 1) (hex_length 10 w)

-- the answer to a line
unfoldable pub entry_bytes : List ℕ → List ℕ
entry_bytes line = words_bytes (some_entry line).0

pub entries : Answering 250 entry_bytes
unfolding entry_bytes
entries = record {
  some = omega arith;
  each = λ l. words_length (some_entry l).0;
  enough = λ l. ap words_bytes (one_entry l (some_entry (take 250 l)).0 (some_entry l).0 (first_bytes l _ (some_entry (take 250 l)).1) (some_entry l).1);
}

-- answers are written one by one
pub an_answer : Room 11
an_answer = record { least = omega arith; most = omega arith }
