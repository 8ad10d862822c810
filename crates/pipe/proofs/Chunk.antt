-- A chunk answered in steps: each step reads something, and what is held after all of them is what the whole chunk leaves. Assumes nothing.
use Prim.Native.Nat.{ℕ, ◌≤◌, ◌<◌}
use native.Mathlib.Omega.{arith}
use mathlib.Core.Path.{◌≡◌, refl, sym, ap, ◌∙◌}
use mathlib.Core.List.{List, ◌++◌}
use lib.ListN.{length, drop, length-drop, take-append-drop}
use Rattle.lines.specs.declared.Held.{Held}
use Rattle.lines.specs.Answering.{Answering}
use Rattle.lines.specs.Held.{after, front, answers_from}
use Rattle.lines.proofs.Holding.{after_cut}
use Rattle.lines.proofs.Front.{begins, no_further, goes_on}
use Rattle.std.specs.Prelude.{Option}
use Rattle.std.specs.Io.KnownBytes.{Appends}
use Rattle.std.proofs.KnownBytes.{Appends-trans}
use Rattle.pipe.specs.Chunk.{Steps}
use Rattle.pipe.specs.Known.{AppendsFront}
use Rattle.pipe.proofs.Written.{held_long, from_cut}
use Rattle.pipe.proofs.Front.{front_after, front_of_more}

-- s is held, and what it and the bytes that are left have to say makes up the whole, where s₀ was held at first
pub record Begun (f : List ℕ → List ℕ) {n : ℕ} (s₀ : Held n) (chunk : List ℕ) (before : Option (List ℕ)) (s : Held n) (rest : List ℕ) (now : Option (List ℕ)) : Type 0 where
  pub long : length s.held ≡ n
  pub lines : after s rest ≡ after s₀ chunk
  pub all : (o : Option (List ℕ)) → Appends now o (answers_from f s rest) → Appends before o (answers_from f s₀ chunk)
  pub first : (o : Option (List ℕ)) → AppendsFront now o (answers_from f s rest) → AppendsFront before o (answers_from f s₀ chunk)

-- ---- a step

module _ (room : ℕ) (rest : List ℕ) where
  -- what it leaves of the bytes that are left
  abbrev later : List ℕ
  later = drop (length (front room rest)) rest

  cut : rest ≡ front room rest ++ later
  cut = sym (take-append-drop (length (front room rest)) rest) ∙ ap (λ (l : List ℕ). l ++ later) (sym (begins room rest))

  module _ {n : ℕ} (f : List ℕ → List ℕ) (a : Answering n f) (s₀ : Held n) (chunk : List ℕ) (before : Option (List ℕ)) (s : Held n) (now : Option (List ℕ))
      (b : Begun f s₀ chunk before s rest now) where
    parts : answers_from f s rest ≡ answers_from f s (front room rest) ++ answers_from f (after s (front room rest)) later
    parts = ap (answers_from f s) cut ∙ from_cut a s (front room rest) later b.long

    -- the first of what it answers are the first of what is due
    pub cut_short : (o : Option (List ℕ)) → AppendsFront now o (answers_from f s (front room rest)) → AppendsFront before o (answers_from f s₀ chunk)
    cut_short o p = b.first o (rw parts (front_of_more now o _ _ p))

    module _ (read : ℕ) (t : Held n) (st : Steps room s rest read t) where
      pub onward : (now' : Option (List ℕ)) → Appends now now' (answers_from f s (front room rest)) → Begun f s₀ chunk before t (drop read rest) now'
      onward now' w = rw (st.read_is, st.lines) (record {
        long = held_long s (front room rest) b.long;
        lines = sym (after_cut s (front room rest) later) ∙ ap (after s) (sym cut) ∙ b.lines;
        all = λ o p. b.all o (rw parts (Appends-trans now now' o _ _ w p));
        first = λ o p. b.first o (rw parts (front_after now now' o _ _ w p));
      })

module _ (room : ℕ) {n : ℕ} (s : Held n) (rest : List ℕ) (read : ℕ) (t : Held n) (st : Steps room s rest read t) where
  pub within : read ≤ length rest
  within = omega (arith, st.read_is, no_further room rest)

  pub fewer : 11 ≤ room → 0 < length rest → length (drop read rest) < length rest
  fewer h k = omega (arith, st.read_is, goes_on room rest h k, no_further room rest, length-drop read rest)

-- ---- before the first step

pub begin : (f : List ℕ → List ℕ) {n : ℕ} (s : Held n) (chunk : List ℕ) (now : Option (List ℕ)) → length s.held ≡ n → Begun f s chunk now s chunk now
begin f s chunk now h = record { long = h; lines = refl; all = λ o p. p; first = λ o p. p }
