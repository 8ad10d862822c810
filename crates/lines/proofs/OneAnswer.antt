-- Any two answers that a statement of this crate allows coincide: an entry for every public function. Of `feed` and `finish` that is the
-- value returned and the bytes that the space is left with. Assumes nothing.
use contract.Lifetimes.{Lfts}
use denote.Param.Laws.{Laws}
use denote.RattleType.{RattleType}
use mir.Syntax.{w64, Dict}
use mir.Val.{Fits}
use Prim.Native.Nat.{ℕ}
use mathlib.Core.Path.{◌≡◌}
use mathlib.Core.Bool.{cond}
use mathlib.Core.List.{List, ◌++◌}
use lib.Dec.{ltb}
use lib.ListN.{length, drop}
use Rattle.format.proofs.Pinned.{OneAnswer, pinned}
use Rattle.frame.specs.Frame.{answer_bytes, left_with}
use Rattle.lines.specs.declared.Held.{Held}
use Rattle.lines.specs.declared.Fed.{Fed}
use Rattle.lines.specs.Held.{Lines, after, front, answers_from, last_answer, Feeds, Finishes}
use Rattle.lines.specs.declared.Answers.{Ghosts}
use Rattle.lines.proofs.FramesAnswersKEPT.answer.Reads as frames_answer_reads
use Rattle.lines.proofs.Held.new.Reads as new_reads
use Rattle.lines.proofs.Held.feed_to.Reads as feed_to_reads
use Rattle.lines.proofs.Held.finish_to.Reads as finish_to_reads
use Rattle.lines.proofs.Lines.feed.Reads as feed_reads
use Rattle.lines.proofs.Lines.finish.Reads as finish_reads

pub frames_answer : (κs : Lfts 2) → OneAnswer (frames_answer_reads.Post κs) (λ r x. x.1.0.now)
frames_answer κs = pinned (λ a. left_with (answer_bytes a.0.now) a.1.0.now) (λ a r x p. p)

pub held_new : (n : ℕ) (u : Fits w64 n) (κs : Lfts 1) → OneAnswer (new_reads.Post n u κs) (λ r x. r)
held_new n u κs = pinned _ (λ a r x p. p)

pub lines_new : (u : Fits w64 19) (κs : Lfts 1) → OneAnswer (new_reads.Post 19 u κs) (λ r x. r)
lines_new = held_new 19

-- what a caller sees of a call with a lent space
pub record Seen (R : Type 0) : Type 0 where
  pub result : R
  pub bytes : List ℕ

abbrev pub seen : {R : Type 0} → R → List ℕ → Seen R
seen r l = record { result = r; bytes = l }

-- ---- feed

abbrev fed : (List ℕ → List ℕ) → Lines → List ℕ → List ℕ → Seen Fed
fed f s chunk space =
    let c = front (length space) chunk in
    let l = answers_from f s c in
    seen (record { lines = after s c; read = length c; written = length l }) (l ++ drop (length l) space)

-- whatever is made of the three that it answers
fed_is : {R : Type 0} (f : List ℕ → List ℕ) {n : ℕ} (make : Held n → ℕ → ℕ → R) (s : Held n) (chunk space : List ℕ) (t : Held n) (read written : ℕ) (space' : List ℕ)
    → Feeds f s chunk space t read written space'
    → seen (make t read written) space'
    ≡ seen (make (after s (front (length space) chunk)) (length (front (length space) chunk)) (length (answers_from f s (front (length space) chunk))))
    (answers_from f s (front (length space) chunk) ++ drop (length (answers_from f s (front (length space) chunk))) space)
fed_is f make s chunk space t read written space' fs = rw (fs.bytes, fs.written_is, fs.lines, fs.read_is)

pub lines_feed : (κs : Lfts 2) → OneAnswer (feed_reads.Post κs) (λ r x. seen r x.1.1.0.now)
lines_feed κs =
    pinned (λ a. fed answer_bytes a.0 a.1.0.now a.1.1.0.now) (λ a r x p. fed_is answer_bytes made a.0 a.1.0.now a.1.1.0.now _ _ _ _ p)
  where
    made : Lines → ℕ → ℕ → Fed
    made t n w = record { lines = t; read = n; written = w }

-- ---- finish

finished : (List ℕ → List ℕ) → {n : ℕ} → Held n → List ℕ → Seen ℕ
finished f s space = let l = last_answer f s in seen (length l) (cond (ltb (length space) (length l)) space (l ++ drop (length l) space))

finished_is : (f : List ℕ → List ℕ) {n : ℕ} (s : Held n) (space : List ℕ) (r : ℕ) (space' : List ℕ) → Finishes f s space r space' → seen r space' ≡ finished f s space
unfolding finished
finished_is f s space r space' fs = rw (fs.bytes, fs.needed)

pub lines_finish : (κs : Lfts 1) → OneAnswer (finish_reads.Post κs) (λ r x. seen r x.1.0.now)
lines_finish κs = pinned (λ a. finished answer_bytes a.0 a.1.0.now) (λ a r x p. finished_is answer_bytes a.0 a.1.0.now r x.1.0.now p)

-- ---- over any answer to a line; of `feed_to` what is then held is seen too

module _ (n : ℕ) (T : RattleType) (u : Fits w64 n) (l : Laws T) (an : Ghosts T.Denot n) (d : Dict) where
  pub held_feed_to : (κs : Lfts 5) → OneAnswer (feed_to_reads.Post n T u l an d κs) (λ r x. seen {R = Held n × (ℕ × ℕ)} (x.0.now, (r.read, r.written)) x.1.1.0.now)
  held_feed_to κs =
      pinned
      (λ a.
      let c = front (length a.1.1.0.now) a.1.0.now in
      let k = answers_from an.bytes a.0.now c in
      seen {R = Held n × (ℕ × ℕ)} (after a.0.now c, (length c, length k)) (k ++ drop (length k) a.1.1.0.now))
      (λ a r x p. fed_is {R = Held n × (ℕ × ℕ)} an.bytes (λ t m w. (t, (m, w))) a.0.now a.1.0.now a.1.1.0.now _ _ _ _ p)

  pub held_finish_to : (κs : Lfts 4) → OneAnswer (finish_to_reads.Post n T u l an d κs) (λ r x. seen r x.1.0.now)
  held_finish_to κs = pinned (λ a. finished an.bytes a.0.now a.1.0.now) (λ a r x p. finished_is an.bytes a.0.now a.1.0.now r x.1.0.now p)
