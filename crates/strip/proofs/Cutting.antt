-- Cutting a strip anywhere and running the pieces gives the same lists, whatever the operation: of two pieces, and of any number of them.
-- Both are read off what the runs promise, the whole and the pieces alike.
--
-- The whole is not refused with 10. Else a piece may be answered where the whole is refused: of lists of 2, 1, 2 and 2 words, cut after
-- the first, the first piece is answered (`cut_where_they_differ` of Examples.antt). Assumes nothing.
use Prim.Native.Nat.{ℕ, zero, suc, ◌-◌, min}
use mathlib.Core.Path.{◌≡◌, refl, sym, ap, ◌∙◌}
use mathlib.Core.Bool.{Bool, true, false, cond}
use mathlib.Core.List.{List, [], ◌∷◌, ◌++◌}
use lib.Dec.{eqb}
use lib.ListN.{length, take, drop, replicate, length-take, length-drop, take-append-drop}
use Rattle.strip.specs.Strip.{operands_in, word_at, refusal_at, zipped, Agree, strip_refusal, strip_leaves, Strips}
use Rattle.strip.proofs.Runs.{is_agree, agreed}

-- ---- lists that agree are cut into lists that agree

take_length : (k : ℕ) (xs ys : List ℕ) → length xs ≡ length ys → length (take k xs) ≡ length (take k ys)
take_length k xs ys e = length-take k xs ∙ ap (min k) e ∙ sym (length-take k ys)

drop_length : (k : ℕ) (xs ys : List ℕ) → length xs ≡ length ys → length (drop k xs) ≡ length (drop k ys)
drop_length k xs ys e = length-drop k xs ∙ ap (λ (n : ℕ). n - k) e ∙ sym (length-drop k ys)

agree_take : (k : ℕ) {a b o r : List ℕ} → Agree a b o r → Agree (take k a) (take k b) (take k o) (take k r)
agree_take k {a} {b} {o} {r} h = record { seconds = take_length k b a h.seconds; words = take_length k o a h.words; numbers = take_length k r a h.numbers }

agree_drop : (k : ℕ) {a b o r : List ℕ} → Agree a b o r → Agree (drop k a) (drop k b) (drop k o) (drop k r)
agree_drop k {a} {b} {o} {r} h = record { seconds = drop_length k b a h.seconds; words = drop_length k o a h.words; numbers = drop_length k r a h.numbers }

-- ---- the definition, cut

-- a strip of lists that agree is refused by its operation alone
abbrev by_operation : ℕ → ℕ
by_operation op = cond (eqb (operands_in op) 0) 6 0

by_operation_is : {a b o r : List ℕ} (op : ℕ) → Agree a b o r → strip_refusal op a b o r ≡ by_operation op
by_operation_is op h = rw (is_agree h)

zipped_cut : (f : ℕ → ℕ → ℕ) (k : ℕ) (xs ys : List ℕ) → zipped f xs ys ≡ zipped f (take k xs) (take k ys) ++ zipped f (drop k xs) (drop k ys)
zipped_cut f zero xs ys = refl
zipped_cut f (suc k) [] ys = refl
zipped_cut f (suc k) (x ∷ xs) [] = nothing (drop k xs)
  where
    nothing : (vs : List ℕ) → [] ≡ zipped f vs []
    nothing [] = refl
    nothing (v ∷ vs) = refl
zipped_cut f (suc k) (x ∷ xs) (y ∷ ys) = ap (λ (l : List ℕ). f x y ∷ l) (zipped_cut f k xs ys)

leaves_cut : (f : ℕ → ℕ → ℕ) (n k : ℕ) (a b was : List ℕ) → strip_leaves f n a b was ≡ strip_leaves f n (take k a) (take k b) (take k was) ++ strip_leaves f n (drop k a) (drop k b) (drop k was)
leaves_cut f n k a b was = go (eqb n 0)
  where
    go : (t : Bool) → cond t (zipped f a b) was ≡ cond t (zipped f (take k a) (take k b)) (take k was) ++ cond t (zipped f (drop k a) (drop k b)) (drop k was)
    go true = zipped_cut f k a b
    go false = sym (take-append-drop k was)

-- ---- two pieces

-- pieces that return m and l and leave two lists each, beside a whole that returns n and leaves two
pub record Joined (n m l : ℕ) (answered refused answered₁ refused₁ answered₂ refused₂ : List ℕ) : Type 0 where
  pub left : m ≡ n
  pub right : l ≡ n
  pub words : answered ≡ answered₁ ++ answered₂
  pub numbers : refused ≡ refused₁ ++ refused₂

-- each piece returns what the whole does, and they leave what it does
pub record Alike (n : ℕ) (ns answered refused answered' refused' : List ℕ) : Type 0 where
  pub returned : ns ≡ replicate (length ns) n
  pub words : answered' ≡ answered
  pub numbers : refused' ≡ refused

module _ (op : ℕ) where
  pub cut : {a b o r : List ℕ} {n m l : ℕ} {answered refused answered₁ refused₁ answered₂ refused₂ : List ℕ} (k : ℕ)
      → Strips op a b o r n answered refused → (n ≡ 10 → ⊥)
      → Strips op (take k a) (take k b) (take k o) (take k r) m answered₁ refused₁
      → Strips op (drop k a) (drop k b) (drop k o) (drop k r) l answered₂ refused₂
      → Joined n m l answered refused answered₁ refused₁ answered₂ refused₂
  cut {a} {b} {o} {r} {n} {m} {l} k whole not_ten left right =
      let h = agreed whole not_ten in
      let e : n ≡ by_operation op = whole.refusal ∙ by_operation_is op h in
      let d : m ≡ n = left.refusal ∙ by_operation_is op (agree_take k h) ∙ sym e in
      let c : l ≡ n = right.refusal ∙ by_operation_is op (agree_drop k h) ∙ sym e in
      record {
        left = d;
        right = c;
        words = whole.words ∙ leaves_cut (word_at op) n k a b o ∙ sym (rw (left.words, right.words, d, c));
        numbers = whole.numbers ∙ leaves_cut (refusal_at op) n k a b r ∙ sym (rw (left.numbers, right.numbers, d, c));
      }

  -- ---- any number of pieces

  -- runs over one piece after another, the numbers that they return, and what they leave put together
  pub data Pieces : List ℕ → List ℕ → List ℕ → List ℕ → List ℕ → List ℕ → List ℕ → Type 0 where
    rest : {a b o r answered refused : List ℕ} {n : ℕ} → Strips op a b o r n answered refused → Pieces a b o r (n ∷ []) answered refused
    piece : {a b o r answered refused answered' refused' ns : List ℕ} {n : ℕ} (k : ℕ)
        → Strips op (take k a) (take k b) (take k o) (take k r) n answered refused
        → Pieces (drop k a) (drop k b) (drop k o) (drop k r) ns answered' refused'
        → Pieces a b o r (n ∷ ns) (answered ++ answered') (refused ++ refused')

  as_defined : (a b o r : List ℕ) → let n = strip_refusal op a b o r in Strips op a b o r n (strip_leaves (word_at op) n a b o) (strip_leaves (refusal_at op) n a b r)
  as_defined a b o r = record { refusal = refl; words = refl; numbers = refl }

  pub pieces : {a b o r answered refused answered' refused' ns : List ℕ} {n : ℕ}
      → Strips op a b o r n answered refused → (n ≡ 10 → ⊥) → Pieces a b o r ns answered' refused' → Alike n ns answered refused answered' refused'
  pieces whole not_ten (rest run) =
      let e = run.refusal ∙ sym whole.refusal in
      record { returned = rw e; words = run.words ∙ rw e (sym whole.words); numbers = run.numbers ∙ rw e (sym whole.numbers) }
  pieces {a} {b} {o} {r} {n = n} whole not_ten (piece {ns = ns} k run more) =
      let last = as_defined (drop k a) (drop k b) (drop k o) (drop k r) in
      let j = cut k whole not_ten run last in
      let s = pieces last (λ e. not_ten (sym j.right ∙ e)) more in
      record {
        returned = rw j.left (ap (λ (l : List ℕ). n ∷ l) (s.returned ∙ ap (λ (m : ℕ). replicate (length ns) m) j.right));
        words = rw s.words (sym j.words);
        numbers = rw s.numbers (sym j.numbers);
      }
