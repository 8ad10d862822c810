-- How far `feed` reads: no further than the chunk's end, and all of it where every answer has room; where it stops, the next answer has none.
-- Assumes nothing.
use Prim.Native.Nat.{ℕ, ◌+◌, ◌-◌, ◌*◌, ◌≤◌, ◌<◌}
use native.Mathlib.Omega.{arith}
use mathlib.Core.Path.{◌≡◌, refl, sym, ap, ◌∙◌}
use mathlib.Core.Bool.{Bool, true, false, cond}
use mathlib.Core.List.{List, [], ◌∷◌, ◌++◌}
use borrow.Author.Tests.{eqb-true, eqb-false, ltb-true, ltb-false, eq-eqb, ne_eqb}
use lib.Dec.{eqb, ltb}
use lib.ListN.{length, get_or, take, drop}
use lib.Seq.{take_at, drop_at}
use Rattle.lines.specs.declared.Held.{Held}
use Rattle.lines.specs.Lines.{newline, completed}
use Rattle.lines.specs.Answering.{Answering}
use Rattle.lines.specs.Held.{line_of, after, front, answers_from, Feeds}
use Rattle.lines.proofs.Meaning.{length_answers}

-- with so much room, of the chunk c the bytes x are read
data Reads : ℕ → List ℕ → List ℕ → Type 0 where
  none : {room : ℕ} → Reads room [] []
  full : {room b : ℕ} {bs : List ℕ} → b ≡ newline → room < 11 → Reads room (b ∷ bs) []
  line : {room b : ℕ} {bs x : List ℕ} → b ≡ newline → 11 ≤ room → Reads (room - 11) bs x → Reads room (b ∷ bs) (b ∷ x)
  byte : {room b : ℕ} {bs x : List ℕ} → (b ≡ newline → ⊥) → Reads room bs x → Reads room (b ∷ bs) (b ∷ x)

reads : (room : ℕ) (c : List ℕ) → Reads room c (front room c)
reads room [] = none
reads room (b ∷ bs) = go (eqb b newline) refl (ltb room 11) refl (reads (room - 11) bs) (reads room bs)
  where
    go : (t : Bool) → eqb b newline ≡ t → (u : Bool) → ltb room 11 ≡ u → Reads (room - 11) bs (front (room - 11) bs) → Reads room bs (front room bs)
        → Reads room (b ∷ bs) (cond t (cond u [] (b ∷ front (room - 11) bs)) (b ∷ front room bs))
    go true e true e' h k = full (eqb-true b newline e) (ltb-true room 11 e')
    go true e false e' h k = line (eqb-true b newline e) (ltb-false room 11 e') h
    go false e u e' h k = byte (eqb-false b newline e) k

taken : {room : ℕ} {c x : List ℕ} → Reads room c x → x ≡ take (length x) c
taken none = refl
taken (full e h) = refl
taken (line {b} e h r) = ap {B = List ℕ} (λ (l : List ℕ). b ∷ l) (taken r)
taken (byte {b} n r) = ap {B = List ℕ} (λ (l : List ℕ). b ∷ l) (taken r)

not_past : {room : ℕ} {c x : List ℕ} → Reads room c x → length x ≤ length c
not_past none = omega arith
not_past (full e h) = omega arith
not_past (line e h r) = omega (arith, not_past r)
not_past (byte n r) = omega (arith, not_past r)

fitting : (p : List ℕ) {room : ℕ} {c x : List ℕ} → Reads room c x → length (completed p x) * 11 ≤ room
fitting p none = omega arith
fitting p (full e h) = omega arith
fitting p (line {b} e h r) = rw (eq-eqb b newline e) (omega (arith, fitting [] r))
fitting p (byte {b} n r) = rw (ne_eqb b newline n) (fitting (p ++ b ∷ []) r)

wholly : (p : List ℕ) {room : ℕ} {c x : List ℕ} → Reads room c x → length (completed p c) * 11 ≤ room → x ≡ c
wholly p none k = refl
wholly p (full {b} e h) k = absurd (let l = rw (eq-eqb b newline e) at k in let z : ⊥ = omega arith in z)
wholly p (line {b} e h r) k = let l = rw (eq-eqb b newline e) at k in ap {B = List ℕ} (λ (l : List ℕ). b ∷ l) (wholly [] r (omega arith))
wholly p (byte {b} n r) k = ap {B = List ℕ} (λ (l : List ℕ). b ∷ l) (wholly (p ++ b ∷ []) r (rw (ne_eqb b newline n) at k))

some : {room : ℕ} {c x : List ℕ} → Reads room c x → 11 ≤ room → 0 < length c → 0 < length x
some none h k = k
some (full e l) h k = absurd (let z : ⊥ = omega arith in z)
some (line e l r) h k = omega arith
some (byte n r) h k = omega arith

stopping : (p : List ℕ) {room : ℕ} {c x : List ℕ} → Reads room c x → length x < length c
    → (get_or c (length x) 0 ≡ newline) × (room < length (completed p x) * 11 + 11)
stopping p none k = absurd (let z : ⊥ = omega arith in z)
stopping p (full e h) k = (e, omega arith)
stopping p (line {b} e h r) k = let s = stopping [] r (omega arith) in (s.0, rw (eq-eqb b newline e) (omega (arith, s.1)))
stopping p (byte {b} n r) k = let s = stopping (p ++ b ∷ []) r (omega arith) in (s.0, rw (ne_eqb b newline n) s.1)

-- what is read begins the chunk
pub begins : (room : ℕ) (c : List ℕ) → front room c ≡ take (length (front room c)) c
begins room c = taken (reads room c)

pub no_further : (room : ℕ) (c : List ℕ) → length (front room c) ≤ length c
no_further room c = not_past (reads room c)

-- the answers to it fit; p is the line begun before
pub fits : (p : List ℕ) (room : ℕ) (c : List ℕ) → length (completed p (front room c)) * 11 ≤ room
fits p room c = fitting p (reads room c)

-- it is the chunk where the answers to the chunk fit
pub all : (p : List ℕ) (room : ℕ) (c : List ℕ) → length (completed p c) * 11 ≤ room → front room c ≡ c
all p room c = wholly p (reads room c)

-- it is a byte at least where the space has room for an answer: whoever empties the space and goes on comes to the chunk's end
pub goes_on : (room : ℕ) (c : List ℕ) → 11 ≤ room → 0 < length c → 0 < length (front room c)
goes_on room c = some (reads room c)

-- it ends before a newline, with no room for one more answer
pub stops : (p : List ℕ) (room : ℕ) (c : List ℕ) → length (front room c) < length c
    → (get_or c (length (front room c)) 0 ≡ newline) × (room < length (completed p (front room c)) * 11 + 11)
stops p room c = stopping p (reads room c)

-- ---- of a call

module _ (f : List ℕ → List ℕ) {n : ℕ} (s : Held n) (chunk space : List ℕ) (t : Held n) (read written : ℕ) (space' : List ℕ) (fs : Feeds f s chunk space t read written space') where
  pub read_within : read ≤ length chunk
  read_within = omega (arith, fs.read_is, no_further (length space) chunk)

  pub written_within : Answering n f → written ≤ length space
  written_within a =
      omega (arith, fs.written_is, length_answers f 11 a.each (completed (line_of s) (front (length space) chunk)), fits (line_of s) (length space) chunk)

  pub part : front (length space) chunk ≡ take read chunk
  part = begins (length space) chunk ∙ ap (λ (n : ℕ). take n chunk) (sym fs.read_is)

  -- what is answered and what is held are those of the bytes read, and the rest of the space is as it was
  pub answers_part : take written space' ≡ answers_from f s (take read chunk)
  answers_part =
      ap (take written) fs.bytes
      ∙ take_at (answers_from f s (front (length space) chunk)) (drop written space) written (sym fs.written_is)
      ∙ ap (answers_from f s) part

  pub holds_part : t ≡ after s (take read chunk)
  holds_part = fs.lines ∙ ap (after s) part

  pub keeps_rest : drop written space' ≡ drop written space
  keeps_rest =
      ap (drop written) fs.bytes ∙ drop_at (answers_from f s (front (length space) chunk)) (drop written space) written (sym fs.written_is)
