-- What is held of a line is enough of it: the lines held when they end have the answers of the lines themselves. Assumes nothing.
use Prim.Native.Nat.{ℕ, ◌+◌}
use native.Mathlib.Omega.{arith}
use mathlib.Core.Path.{◌≡◌, refl, sym, ap, ◌∙◌}
use mathlib.Core.Bool.{Bool, true, false, cond}
use mathlib.Core.List.{List, [], ◌∷◌, ◌++◌}
use borrow.Author.Tests.{ltb-true, ltb-false}
use lib.Dec.{eqb, ltb}
use lib.ListN.{length, set, length-take, length-set, length-replicate}
use lib.Seq.{take-nil, take_all}
use Rattle.lines.specs.declared.Held.{Held}
use Rattle.lines.specs.Answering.{Answering}
use Rattle.lines.specs.Lines.{newline, answers, completed, pending}
use Rattle.lines.specs.Held.{line_of, fresh, Holds, pushed, ended, after, answers_from}
use Rattle.lines.proofs.Kept.{with_room, with_none}

pub fresh_holds : (n : ℕ) → Holds [] (fresh n)
fresh_holds n = record { long = length-replicate n 0; line = sym (take-nil n) }

pub own_line : {n : ℕ} (s : Held n) → length s.held ≡ n → Holds (line_of s) s
own_line {n} s h = record { long = h; line = sym (take_all n (line_of s) (omega (arith, length-take s.count s.held))) }

ended_holds : {n : ℕ} {p : List ℕ} {s : Held n} → Holds p s → Holds [] (ended s)
ended_holds {n} h = record { long = h.long; line = sym (take-nil n) }

pushed_holds : {n : ℕ} (p : List ℕ) (s : Held n) (b : ℕ) → Holds p s → Holds (p ++ b ∷ []) (pushed s b)
pushed_holds {n} p s b h = go (ltb s.count n) refl
  where
    go : (t : Bool) → ltb s.count n ≡ t
        → Holds (p ++ b ∷ []) (cond t (record { held = set s.held s.count b; count = s.count + 1 }) s)
    go true e =
        record {
          long = length-set s.held s.count b ∙ h.long;
          line = with_room n s.held p s.count b h.long h.line (ltb-true s.count n e);
        }
    go false e =
        record {
          long = h.long;
          line = with_none n s.held p s.count b h.long h.line (ltb-false s.count n e);
        }

-- what is held after some bytes is what the line then begun begins with
pub after_holds : {n : ℕ} (p : List ℕ) (s : Held n) (c : List ℕ) → Holds p s → Holds (pending p c) (after s c)
after_holds p s [] h = h
after_holds {n} p s (b ∷ bs) h = go (eqb b newline) (after_holds [] (ended s) bs (ended_holds h)) (after_holds (p ++ b ∷ []) (pushed s b) bs (pushed_holds p s b h))
  where
    go : (t : Bool) {x y : List ℕ} {u v : Held n} → Holds x u → Holds y v → Holds (cond t x y) (cond t u v)
    go true a b = a
    go false a b = b

-- what is held after some bytes and then others
pub after_cut : {n : ℕ} (s : Held n) (a b : List ℕ) → after s (a ++ b) ≡ after (after s a) b
after_cut s [] b = refl
after_cut s (x ∷ a) b = go (eqb x newline) (after_cut (ended s) a b) (after_cut (pushed s x) a b)
  where
    go : (t : Bool) → after (ended s) (a ++ b) ≡ after (after (ended s) a) b → after (pushed s x) (a ++ b) ≡ after (after (pushed s x) a) b
        → cond t (after (ended s) (a ++ b)) (after (pushed s x) (a ++ b)) ≡ after (cond t (after (ended s) a) (after (pushed s x) a)) b
    go true e k = e
    go false e k = k

-- the lines as they are held when they end
abbrev pub ends : {n : ℕ} → Held n → List ℕ → List (List ℕ)
ends s [] = []
ends s (b ∷ bs) = cond (eqb b newline) (line_of s ∷ ends (ended s) bs) (ends (pushed s b) bs)

module _ {n : ℕ} {f : List ℕ → List ℕ} (a : Answering n f) where
  -- a line has the answer of what is held of it
  pub same_answer : (p : List ℕ) (s : Held n) → Holds p s → f (line_of s) ≡ f p
  same_answer p s h = ap f h.line ∙ a.enough p

  same_answers : (p : List ℕ) (s : Held n) (c : List ℕ) → Holds p s → answers f (ends s c) ≡ answers f (completed p c)
  same_answers p s [] h = refl
  same_answers p s (b ∷ bs) h =
      go (eqb b newline) (same_answer p s h) (same_answers [] (ended s) bs (ended_holds h)) (same_answers (p ++ b ∷ []) (pushed s b) bs (pushed_holds p s b h))
    where
      go : (t : Bool) → f (line_of s) ≡ f p
          → answers f (ends (ended s) bs) ≡ answers f (completed [] bs)
          → answers f (ends (pushed s b) bs) ≡ answers f (completed (p ++ b ∷ []) bs)
          → answers f (cond t (line_of s ∷ ends (ended s) bs) (ends (pushed s b) bs)) ≡ answers f (cond t (p ∷ completed [] bs) (completed (p ++ b ∷ []) bs))
      go true e x y = rw (e, x)
      go false e x y = y

  pub as_held : (s : Held n) (c : List ℕ) → length s.held ≡ n → answers f (ends s c) ≡ answers_from f s c
  as_held s c h = same_answers (line_of s) s c (own_line s h)

  pub from_line : (p : List ℕ) (s : Held n) (c : List ℕ) → Holds p s → answers_from f s c ≡ answers f (completed p c)
  from_line p s c h = sym (as_held s c h.long) ∙ same_answers p s c h
