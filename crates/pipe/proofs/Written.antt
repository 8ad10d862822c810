-- What is written: the answers to some bytes and then to others are those to all of them, and the first of what is due. Assumes nothing.
use Prim.Native.Nat.{ℕ, zero, suc, ◌<◌, min}
use native.Mathlib.Omega.{arith}
use mathlib.Core.Path.{◌≡◌, refl, sym, ap, subst, ◌∙◌}
use mathlib.Core.List.{List, [], ◌∷◌, ◌++◌, append-nil, append_assoc}
use lib.ListN.{length, take}
use Rattle.std.specs.Prelude.{Option, Some, None, Result, Ok, Err, IfSome, OnErr}
use Rattle.std.specs.Io.{ReadsAtMost}
use Rattle.std.specs.Io.KnownBytes.{Appends, ReadConsumes}
use Rattle.std.proofs.KnownBytes.{Appends-trans, Consumes-trans}
use Rattle.lines.specs.declared.Held.{Held}
use Rattle.lines.specs.Lines.{pending, answers_of}
use Rattle.lines.specs.Answering.{Answering}
use Rattle.lines.specs.Held.{line_of, fresh, after, answers_from, last_answer}
use Rattle.lines.proofs.Cutting.{answers_cut}
use Rattle.lines.proofs.Holding.{fresh_holds, own_line, after_holds, from_line, after_cut}
use Rattle.lines.proofs.Runs.{whole_run}
use Rattle.pipe.specs.Written.{Answered, due, due_for}
use Rattle.pipe.specs.Known.{AppendsFront}
use Rattle.pipe.proofs.Front.{all_in_front, none_in_front, front_after, front_of_more}

-- ---- the answers to bytes that are cut in two

pub held_long : {n : ℕ} (s : Held n) (x : List ℕ) → length s.held ≡ n → length (after s x).held ≡ n
held_long s x h = (after_holds (line_of s) s x (own_line s h)).long

module _ {n : ℕ} {f : List ℕ → List ℕ} (a : Answering n f) where
  pub from_cut : (s : Held n) (x y : List ℕ) → length s.held ≡ n → answers_from f s (x ++ y) ≡ answers_from f s x ++ answers_from f (after s x) y
  from_cut s x y h =
      answers_cut f (line_of s) x y
      ∙ ap (λ (l : List ℕ). answers_from f s x ++ l) (sym (from_line a (pending (line_of s) x) (after s x) y (after_holds (line_of s) s x (own_line s h))))

  pub due_cut : (s : Held n) (x y : List ℕ) → length s.held ≡ n → due f s (x ++ y) ≡ answers_from f s x ++ due f (after s x) y
  due_cut s x y h =
      rw (from_cut s x y h, after_cut s x y) (append_assoc (answers_from f s x) (answers_from f (after s x) y) (last_answer f (after (after s x) y)))

  -- from no line begun it is the answers of the whole input
  pub due_all : (input : List ℕ) → due f (fresh n) input ≡ answers_of f input
  due_all input = whole_run a (input ∷ []) ∙ ap (answers_of f) (append-nil input)

  -- ---- a read

  -- what is due for what it answered comes first of what is due for the bytes that were left
  pub read_due : {E : Type 0} (s : Held n) (got : Result ℕ E) (buffer : List ℕ) (left left' held held' : Option (List ℕ)) → length s.held ≡ n → 0 < length buffer
      → ReadsAtMost got buffer → ReadConsumes left left' got buffer → AppendsFront held held' (due_for f s got buffer)
      → IfSome left (λ bytes. AppendsFront held held' (due f s bytes))
  read_due s got buffer None left' held held' h k m r p = tt
  read_due s (Err e) buffer (Some xs) left' held held' h k m r p = front_of_more held held' [] (due f s xs) p
  read_due s (Ok m') buffer (Some xs) None held held' h k m r p = absurd r.0
  read_due s (Ok zero) buffer (Some xs) (Some ys) held held' h k m r p =
      let none : xs ≡ [] = r.0 ∙ r.1 refl k in
      rw none p
  read_due s (Ok (suc i)) buffer (Some xs) (Some ys) held held' h k m r p =
      let part : List ℕ = take (suc i) buffer in
      let q : AppendsFront held held' (answers_from f s part) = let e : min (suc i) (length buffer) ≡ suc i = omega (arith, m.0) in rw e at p in
      rw (r.0, due_cut s part ys h) (front_of_more held held' (answers_from f s part) (due f (after s part) ys) q)

  pub call_due : {E T E' : Type 0} (r : Result T E') (s : Held n) (got : Result ℕ E) (buffer buffer' : List ℕ) (left left' held held' : Option (List ℕ)) → length s.held ≡ n
      → length buffer' ≡ length buffer → ReadsAtMost got buffer' → ReadConsumes left left' got buffer' → OnErr r (AppendsFront held held' (due_for f s got buffer'))
      → OnErr r (0 < length buffer → IfSome left (λ bytes. AppendsFront held held' (due f s bytes)))
  call_due (Ok v) s got buffer buffer' left left' held held' h e m r p = tt
  call_due (Err x) s got buffer buffer' left left' held held' h e m r p = λ k. read_due s got buffer' left left' held held' h (omega (arith, e, k)) m r p

  -- ---- what was read and written so far

  pub onward : (left left' left'' held held' held'' : Option (List ℕ)) (s t u : Held n) → length s.held ≡ n
      → Answered f s left left' held held' t → Answered f t left' left'' held' held'' u → Answered f s left left'' held held'' u
  onward left left' left'' held held' held'' s t u h x y = record {
    bytes = x.bytes ++ y.bytes;
    read = Consumes-trans left left' left'' x.bytes y.bytes x.read y.read;
    written =
        rw (from_cut s x.bytes y.bytes h, ← x.lines)
        (Appends-trans held held' held'' (answers_from f s x.bytes) (answers_from f t y.bytes) x.written y.written);
    lines = y.lines ∙ ap (λ (l : Held n). after l y.bytes) x.lines ∙ sym (after_cut s x.bytes y.bytes);
  }

  -- what was answered so far and then what is due for the rest are what is due
  so_due : (t : Held n) (xs bytes ys : List ℕ) → t ≡ after (fresh n) bytes → xs ≡ bytes ++ ys → answers_from f (fresh n) bytes ++ due f t ys ≡ answers_of f xs
  so_due t xs bytes ys e k =
      ap (λ (l : Held n). answers_from f (fresh n) bytes ++ due f l ys) e
      ∙ sym (due_cut (fresh n) bytes ys (fresh_holds n).long)
      ∙ ap (due f (fresh n)) (sym k)
      ∙ due_all xs

  pub all_due : (left left' held held' held'' : Option (List ℕ)) (t : Held n) → Answered f (fresh n) left left' held held' t
      → IfSome left' (λ bytes. Appends held' held'' (due f t bytes)) → IfSome left (λ bytes. Appends held held'' (answers_of f bytes))
  all_due None left' held held' held'' t x p = tt
  all_due (Some xs) None held held' held'' t x p = absurd x.read
  all_due (Some xs) (Some ys) held held' held'' t x p =
      subst (Appends held held'') (so_due t xs x.bytes ys x.lines x.read)
      (Appends-trans held held' held'' (answers_from f (fresh n) x.bytes) (due f t ys) x.written p)

  -- and the first of it are the first of all
  pub first_due : (left left' held held' held'' : Option (List ℕ)) (t : Held n) → Answered f (fresh n) left left' held held' t
      → IfSome left' (λ bytes. AppendsFront held' held'' (due f t bytes)) → IfSome left (λ bytes. AppendsFront held held'' (answers_of f bytes))
  first_due None left' held held' held'' t x p = tt
  first_due (Some xs) None held held' held'' t x p = absurd x.read
  first_due (Some xs) (Some ys) held held' held'' t x p =
      subst (AppendsFront held held'') (so_due t xs x.bytes ys x.lines x.read)
      (front_after held held' held'' (answers_from f (fresh n) x.bytes) (due f t ys) x.written p)

  -- with nothing more written they are so too
  pub so_far : (left left' held held' : Option (List ℕ)) (t : Held n) → Answered f (fresh n) left left' held held' t
      → IfSome left (λ bytes. AppendsFront held held' (answers_of f bytes))
  so_far left left' held held' t x = first_due left left' held held' held' t x (none left')
    where
      none : (o : Option (List ℕ)) → IfSome o (λ bytes. AppendsFront held' held' (due f t bytes))
      none None = tt
      none (Some xs) = none_in_front held' (due f t xs)

  -- all of it is the first of it
  pub all_is_first : (left held held' : Option (List ℕ)) → IfSome left (λ bytes. Appends held held' (answers_of f bytes))
      → IfSome left (λ bytes. AppendsFront held held' (answers_of f bytes))
  all_is_first None held held' p = tt
  all_is_first (Some xs) held held' p = all_in_front held held' (answers_of f xs) p
