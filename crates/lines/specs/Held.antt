-- What is held of the line begun, and what feeding a chunk and ending the input do with it and with the space lent for answers, over any answer f to
-- a line. Definitions only.
use Rattle.std.specs.Prelude.{ℕ, ◌+◌, ◌-◌, ◌≡◌, cond, List, [], ◌∷◌, ◌++◌, ltb, eqb, length, take, drop, set, replicate}
use Rattle.lines.specs.declared.Held.{Held}
use Rattle.lines.specs.Lines.{newline, answers, completed, last_line}

-- ---- the line begun

-- what is held of it: n bytes at most
abbrev pub line_of : {n : ℕ} → Held n → List ℕ
line_of s = take s.count s.held

-- no line is begun
abbrev pub fresh : (n : ℕ) → Held n
fresh n = record { held = replicate n 0; count = 0 }

-- the line begun of frames
abbrev pub Lines : Type 0
Lines = Held 19

-- s holds the line p: its first n bytes
pub record Holds {n : ℕ} (p : List ℕ) (s : Held n) : Type 0 where
  pub long : length s.held ≡ n
  pub line : line_of s ≡ take n p

-- one more byte of the line
abbrev pub pushed : {n : ℕ} → Held n → ℕ → Held n
pushed {n} s b = cond (ltb s.count n) (record { held = set s.held s.count b; count = s.count + 1 }) s

-- no byte of the next line yet
abbrev pub ended : {n : ℕ} → Held n → Held n
ended s = record { held = s.held; count = 0 }

-- what is held after some bytes
abbrev pub after : {n : ℕ} → Held n → List ℕ → Held n
after s [] = s
after s (b ∷ bs) = cond (eqb b newline) (after (ended s) bs) (after (pushed s b) bs)

-- ---- a chunk and a space

-- the bytes of a chunk that are read: all before a newline whose answer, of 11 bytes, has no room
abbrev pub front : ℕ → List ℕ → List ℕ
front room [] = []
front room (b ∷ bs) = cond (eqb b newline) (cond (ltb room 11) [] (b ∷ front (room - 11) bs)) (b ∷ front room bs)

-- the answers to the lines that end in some bytes, where s holds the line begun
abbrev pub answers_from : (List ℕ → List ℕ) → {n : ℕ} → Held n → List ℕ → List ℕ
answers_from f s bs = answers f (completed (line_of s) bs)

-- what feeding does: so many bytes are read, so many bytes of answers stand at the front of the space, and t is then begun
pub record Feeds (f : List ℕ → List ℕ) {n : ℕ} (s : Held n) (chunk space : List ℕ) (t : Held n) (read written : ℕ) (space' : List ℕ) : Type 0 where
  pub read_is : read ≡ length (front (length space) chunk)
  pub written_is : written ≡ length (answers_from f s (front (length space) chunk))
  pub bytes : space' ≡ answers_from f s (front (length space) chunk) ++ drop written space
  pub lines : t ≡ after s (front (length space) chunk)

-- the answer to the line that the input ends with
abbrev pub last_answer : (List ℕ → List ℕ) → {n : ℕ} → Held n → List ℕ
last_answer f s = answers f (last_line (line_of s))

-- what finish answers: the bytes of the last answer, which are written where there is room
pub record Finishes (f : List ℕ → List ℕ) {n : ℕ} (s : Held n) (space : List ℕ) (r : ℕ) (space' : List ℕ) : Type 0 where
  pub needed : r ≡ length (last_answer f s)
  pub bytes : space' ≡ cond (ltb (length space) r) space (last_answer f s ++ drop r space)

-- the answers to an input that is fed in parts, one after the other, and then ended
abbrev pub answers_fed : (List ℕ → List ℕ) → {n : ℕ} → Held n → List (List ℕ) → List ℕ
answers_fed f s [] = last_answer f s
answers_fed f s (c ∷ cs) = answers_from f s c ++ answers_fed f (after s c) cs
