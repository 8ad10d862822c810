-- The loop of `feed`: what is done so far and what is left to do are the whole. Assumes nothing.
use Prim.Native.Nat.{ℕ, ◌+◌, ◌-◌, ◌≤◌, ◌<◌}
use native.Mathlib.Nat.{sub-zero, zero-add}
use native.Mathlib.Numerals.{add-one}
use native.Mathlib.Omega.{arith}
use mathlib.Core.Path.{◌≡◌, refl, sym, ap, ◌∙◌}
use mathlib.Core.List.{List, [], ◌∷◌, ◌++◌, append_assoc, append-nil}
use borrow.Author.Tests.{ne_eqb, lt-ltb, le-ltb}
use borrow.Rule.Slice.PartMut.{put_mid}
use lib.ListN.{length, get_or, take, drop, length-append, length-drop, take-append-drop, drop_of_length-le}
use lib.Seq.{take_all, drop-cons, drop-drop, take_at, drop_at, length-take-le}
use Rattle.frame.specs.Frame.{left_with}
use Rattle.lines.specs.declared.Held.{Held}
use Rattle.lines.specs.Lines.{newline, answers}
use Rattle.lines.specs.Answering.{Answering}
use Rattle.lines.specs.Held.{line_of, pushed, ended, after, front, answers_from, Feeds}
use Rattle.lines.proofs.Holding.{ends, as_held}

-- what is left to read after so many bytes, with so many written
abbrev todo : List ℕ → List ℕ → ℕ → ℕ → List ℕ
todo chunk space₀ read written = front (length space₀ - written) (drop read chunk)

-- with so much read and written, and s as the line begun: what is left to do makes up the whole
pub record SoFar (f : List ℕ → List ℕ) {n : ℕ} (s₀ : Held n) (chunk space₀ : List ℕ) (s : Held n) (read written : ℕ) (space : List ℕ) : Type 0 where
  pub within : read ≤ length chunk
  pub room : written ≤ length space₀
  pub long : length space ≡ length space₀
  pub kept : drop written space ≡ drop written space₀
  pub count : read + length (todo chunk space₀ read written) ≡ length (front (length space₀) chunk)
  pub lines : after s (todo chunk space₀ read written) ≡ after s₀ (front (length space₀) chunk)
  pub bytes : take written space ++ answers f (ends s (todo chunk space₀ read written)) ≡ answers f (ends s₀ (front (length space₀) chunk))

pub begin : (f : List ℕ → List ℕ) {n : ℕ} (s : Held n) (chunk space : List ℕ) → SoFar f s chunk space s 0 0 space
begin f s chunk space = record {
  within = omega arith;
  room = omega arith;
  long = refl;
  kept = refl;
  count = zero-add _ ∙ rw (sub-zero (length space));
  lines = rw (sub-zero (length space));
  bytes = rw (sub-zero (length space));
}

-- what is left in the space when a part from a place on was lent for an answer
lent : (w : ℕ) (space ys bytes : List ℕ) → 11 ≤ length space - w → ys ≡ left_with bytes (take (length space - w) (drop w space))
    → put_mid w (length space - w) space ys ≡ take w space ++ (bytes ++ drop (w + 11) space)
lent w space ys bytes h e =
    let n = length-drop w space in
    let k : length (drop w space) ≤ length space - w = omega arith in
    let m : 11 ≤ length (drop w space) = omega arith in
    let a : ys ≡ bytes ++ drop 11 (drop w space) = e ∙ rw (take_all (length space - w) (drop w space) k, le-ltb (length (drop w space)) 11 m) in
    rw (drop_of_length-le (drop w space) {i = length space - w} k, a, append-nil, drop-drop 11 w space)

-- ---- one byte more

module _ (chunk space₀ : List ℕ) (read written : ℕ) (more : read < length chunk) where
  next : drop read chunk ≡ get_or chunk read 0 ∷ drop (read + 1) chunk
  next = rw add-one (drop-cons chunk read 0 more)

  -- a newline whose answer has room
  todo_line : get_or chunk read 0 ≡ newline → 11 ≤ length space₀ - written
      → todo chunk space₀ read written ≡ newline ∷ todo chunk space₀ (read + 1) (written + 11)
  todo_line e h =
      let k : length space₀ - written - 11 ≡ length space₀ - (written + 11) = omega arith in
      rw (next, e, le-ltb (length space₀ - written) 11 h, k)

  -- one whose answer has none
  todo_full : get_or chunk read 0 ≡ newline → length space₀ - written < 11 → todo chunk space₀ read written ≡ []
  todo_full e h = rw (next, e, lt-ltb (length space₀ - written) 11 h)

  -- any other byte
  todo_byte : (get_or chunk read 0 ≡ newline → ⊥) → todo chunk space₀ read written ≡ get_or chunk read 0 ∷ todo chunk space₀ (read + 1) written
  todo_byte n = rw (next, ne_eqb (get_or chunk read 0) newline n)

module _ {n : ℕ} {f : List ℕ → List ℕ} (an : Answering n f) (s₀ : Held n) (chunk space₀ : List ℕ) (s : Held n) (read written : ℕ) (space : List ℕ)
    (sf : SoFar f s₀ chunk space₀ s read written space) where
  -- a line ends, and its answer is written after those before
  pub line : (ys : List ℕ) → read < length chunk → get_or chunk read 0 ≡ newline → 11 ≤ length space - written
      → ys ≡ left_with (f (line_of s)) (take (length space - written) (drop written space))
      → SoFar f s₀ chunk space₀ (ended s) (read + 1) (written + 11) (put_mid written (length space - written) space ys)
  line ys more e h y =
      let t = todo_line chunk space₀ read written more e (omega (arith, sf.long)) in
      let old : List ℕ = take written space in
      let new : List ℕ = f (line_of s) in
      let kept : List ℕ = drop (written + 11) space in
      let later : List ℕ = answers f (ends (ended s) (todo chunk space₀ (read + 1) (written + 11))) in
      let a : length old ≡ written = length-take-le written space (omega (arith, sf.long, sf.room)) in
      let m : length (old ++ new) ≡ written + 11 = length-append old new ∙ rw (a, an.each (line_of s)) in
      let q = lent written space ys (f (line_of s)) h y ∙ sym (append_assoc old new kept) in
      record {
        within = omega arith;
        room = omega (arith, sf.long);
        long = ap length q ∙ length-append (old ++ new) kept ∙ rw (m, length-drop) (omega (arith, sf.long));
        kept = rw (q, drop_at (old ++ new) kept (written + 11) m) (sym (drop-drop 11 written space) ∙ ap (drop 11) sf.kept ∙ drop-drop 11 written space₀);
        count = omega (arith, sf.count, ap length t);
        lines = sym (ap (after s) t) ∙ sf.lines;
        bytes =
            ap (λ (l : List ℕ). l ++ later) (ap (take (written + 11)) q ∙ take_at (old ++ new) kept (written + 11) m)
            ∙ append_assoc old new later
            ∙ sym (ap (λ (l : List ℕ). old ++ answers f (ends s l)) t)
            ∙ sf.bytes;
      }

  -- a byte joins the line
  pub byte : read < length chunk → (get_or chunk read 0 ≡ newline → ⊥) → SoFar f s₀ chunk space₀ (pushed s (get_or chunk read 0)) (read + 1) written space
  byte more ne =
      let t = todo_byte chunk space₀ read written more ne in
      let k = ne_eqb (get_or chunk read 0) newline ne in
      record {
        within = omega arith;
        room = sf.room;
        long = sf.long;
        kept = sf.kept;
        count = omega (arith, sf.count, ap length t);
        lines = rw (t, k) at sf.lines;
        bytes = rw (t, k) at sf.bytes;
      }

  -- nothing is left to read
  module _ (held : length s₀.held ≡ n) where
    stop : todo chunk space₀ read written ≡ [] → Feeds f s₀ chunk space₀ s read written space
    stop t =
        let a : length (take written space) ≡ written = length-take-le written space (omega (arith, sf.long, sf.room)) in
        let b : take written space ≡ answers_from f s₀ (front (length space₀) chunk) =
        sym (append-nil (take written space)) ∙ (rw t at sf.bytes) ∙ as_held an s₀ (front (length space₀) chunk) held in
        record {
          read_is = omega (arith, sf.count, ap length t);
          written_is = sym a ∙ ap length b;
          bytes = sym (take-append-drop written space) ∙ rw (b, sf.kept);
          lines = rw t at sf.lines;
        }

    pub done : length chunk ≤ read → Feeds f s₀ chunk space₀ s (length chunk) written space
    done h = let e : read ≡ length chunk = omega (arith, sf.within) in rw e at (stop (rw (drop_of_length-le chunk {i = read} h)))

    pub full : read < length chunk → get_or chunk read 0 ≡ newline → length space - written < 11 → Feeds f s₀ chunk space₀ s read written space
    full more e h = stop (todo_full chunk space₀ read written more e (omega (arith, sf.long)))
