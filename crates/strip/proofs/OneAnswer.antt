-- Any two answers that a statement of this crate allows coincide: an entry for every public function. Of a strip that is what the call
-- answers, and the words that the two lists are left with. Assumes nothing.
use contract.Lifetimes.{Lfts}
use Prim.Native.Nat.{ℕ}
use mathlib.Core.Path.{◌≡◌, ap, ◌∙◌}
use mathlib.Core.List.{List}
use Rattle.std.specs.Prelude.{Result}
use Rattle.format.proofs.Pinned.{OneAnswer, pinned}
use Rattle.refusals.specs.declared.Refusal.{Refusal}
use Rattle.refusals.specs.Given.{refusal_given, given}
use Rattle.refusals.proofs.Given.{told}
use Rattle.strip.specs.Strip.{word_at, refusal_at, strip_refusal, strip_leaves, Strips}
use Rattle.strip.proofs.run.Reads as run_reads

-- what a caller sees of a strip
pub record Seen : Type 0 where
  pub refusal : ℕ
  pub words : List ℕ
  pub numbers : List ℕ

abbrev pub seen : ℕ → List ℕ → List ℕ → Seen
seen n o r = record { refusal = n; words = o; numbers = r }

-- what is seen, by the operation and the lists
abbrev pub shows : ℕ → List ℕ → List ℕ → List ℕ → List ℕ → Seen
shows op a b o r = let n = strip_refusal op a b o r in seen n (strip_leaves (word_at op) n a b o) (strip_leaves (refusal_at op) n a b r)

pub strips : {op : ℕ} {a b o r : List ℕ} {n : ℕ} {answered refused : List ℕ} → Strips op a b o r n answered refused → seen n answered refused ≡ shows op a b o r
strips s = rw (s.words, s.numbers, s.refusal)

-- the same with the answer itself, which its number tells
pub record Answered : Type 0 where
  pub answer : Result (Unit {0}) Refusal
  pub seen : Seen

abbrev pub answered : Result (Unit {0}) Refusal → Seen → Answered
answered r s = record { answer = r; seen = s }

pub run : (κs : Lfts 4) → OneAnswer (run_reads.Post κs) (λ r x. answered r (seen (refusal_given r) x.1.1.1.0.now x.1.1.1.1.0.now))
run κs =
    pinned
    (λ a. let s = shows a.0 a.1.0.now a.1.1.0.now a.1.1.1.0.now a.1.1.1.1.0.now in answered (given s.refusal tt) s)
    (λ a r x p. ap (λ (t : Result (Unit {0}) Refusal). answered t (seen (refusal_given r) x.1.1.1.0.now x.1.1.1.1.0.now)) (told _ r p.refusal) ∙ ap (answered _) (strips p))
