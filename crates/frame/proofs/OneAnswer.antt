-- Any two answers that a statement of this crate allows coincide: an entry for every public function. Of the answering call that is the
-- number returned and the bytes that the space is left with. Assumes nothing.
use contract.Lifetimes.{Lfts}
use Prim.Native.Nat.{ℕ}
use mathlib.Core.Path.{ap, ◌∙◌}
use mathlib.Core.List.{List}
use Rattle.frame.specs.Frame.{words_bytes, returned_for, left_with, returned, left}
use Rattle.format.proofs.Pinned.{OneAnswer, pinned}
use Rattle.std.specs.Prelude.{Result}
use Rattle.refusals.specs.declared.Refusal.{Refusal}
use Rattle.refusals.specs.Given.{given}
use Rattle.refusals.proofs.Given.{told, told_with}
use Rattle.frame.proofs.words.refused.Reads as words_refused_reads
use Rattle.frame.proofs.words.answer.Reads as words_answer_reads
use Rattle.frame.proofs.words.kernel_number.Reads as words_kernel_number_reads
use Rattle.frame.proofs.words.packed.Reads as words_packed_reads
use Rattle.frame.proofs.words.packed_answer.Reads as words_packed_answer_reads
use Rattle.frame.proofs.words.of_answer.Reads as words_of_answer_reads
use Rattle.frame.proofs.words.unpacked.Reads as words_unpacked_reads
use Rattle.frame.proofs.digit.Reads as digit_reads
use Rattle.frame.proofs.of_line.Reads as of_line_reads
use Rattle.frame.proofs.answer_number.Reads as answer_number_reads
use Rattle.frame.proofs.write.Reads as write_reads
use Rattle.frame.proofs.answer.Reads as answer_reads

pub words_answer : (κs : Lfts 0) → OneAnswer (words_answer_reads.Post κs) (λ r x. r)
words_answer κs = pinned _ (λ a r x p. told_with _ _ 0 r p.refusal p.word)

pub words_kernel_number : (κs : Lfts 0) → OneAnswer (words_kernel_number_reads.Post κs) (λ r x. r)
words_kernel_number κs = pinned _ (λ a r x p. p)

pub words_packed_answer : (κs : Lfts 0) → OneAnswer (words_packed_answer_reads.Post κs) (λ r x. r)
words_packed_answer κs = pinned _ (λ a r x p. p)

pub words_packed : (κs : Lfts 0) → OneAnswer (words_packed_reads.Post κs) (λ r x. r)
words_packed κs = pinned _ (λ a r x p. p)

pub words_unpacked : (κs : Lfts 0) → OneAnswer (words_unpacked_reads.Post κs) (λ r x. r)
words_unpacked κs = pinned _ (λ a r x p. p)

pub words_of_answer : (κs : Lfts 0) → OneAnswer (words_of_answer_reads.Post κs) (λ r x. r)
words_of_answer κs = pinned _ (λ a r x p. p)

pub digit : (κs : Lfts 0) → OneAnswer (digit_reads.Post κs) (λ r x. r)
digit κs = pinned _ (λ a r x p. p)

pub of_line : (κs : Lfts 1) → OneAnswer (of_line_reads.Post κs) (λ r x. r)
of_line κs = pinned _ (λ a r x p. told_with _ _ 0 r p.refusal p.word)

-- what a caller sees of the answering call
pub record Seen (A : Type 0) : Type 0 where
  pub answer : A
  pub bytes : List ℕ

abbrev pub seen : {A : Type 0} → A → List ℕ → Seen A
seen r l = record { answer = r; bytes = l }

pub write : (κs : Lfts 1) → OneAnswer (write_reads.Post κs) (λ r x. seen r x.1.0.now)
write κs =
    pinned (λ a. seen (returned_for a.0 a.1.0.now) (left_with (words_bytes a.0) a.1.0.now))
    (λ a r x p. ap (λ (n : ℕ). seen n x.1.0.now) p.0 ∙ ap (λ (l : List ℕ). seen (returned_for a.0 a.1.0.now) l) p.1)

pub answer : (κs : Lfts 2) → OneAnswer (answer_reads.Post κs) (λ r x. seen r x.1.0.now)
answer κs =
    pinned (λ a. seen (given (returned a.0.now a.1.0.now) tt) (left a.0.now a.1.0.now))
    (λ a r x p. ap (λ (n : Result (Unit {0}) Refusal). seen n x.1.0.now) (told _ r p.0) ∙ ap (λ (l : List ℕ). seen (given (returned a.0.now a.1.0.now) tt) l) p.1)

pub answer_number : (κs : Lfts 2) → OneAnswer (answer_number_reads.Post κs) (λ r x. seen r x.1.0.now)
answer_number κs =
    pinned (λ a. seen (returned a.0.now a.1.0.now) (left a.0.now a.1.0.now))
    (λ a r x p. ap (λ (n : ℕ). seen n x.1.0.now) p.0 ∙ ap (λ (l : List ℕ). seen (returned a.0.now a.1.0.now) l) p.1)

pub words_refused : (κs : Lfts 0) → OneAnswer (words_refused_reads.Post κs) (λ r x. r)
words_refused κs = pinned _ (λ a r x p. p)
