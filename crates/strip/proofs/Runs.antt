-- What holds of every run of the strip call, whatever the operation. `Strips op first second answers refusals n answered refused` is what
-- each promises. Assumes nothing.
use Prim.Native.Nat.{ℕ, ◌/◌, ◌%◌, ◌^◌, ◌<◌}
use native.Mathlib.Nat.{suc-ne-zero, mod-lt, div-add-mod'}
use native.Mathlib.Omega.{arith}
use mathlib.Core.Path.{◌≡◌, refl, sym, ap, ◌∙◌}
use mathlib.Core.Bool.{Bool, true, false, cond, ◌&&◌, false≢true}
use mathlib.Core.List.{List}
use borrow.Author.Tests.{eq-eqb, ne_eqb, eqb-true}
use lib.Dec.{eqb}
use lib.ListN.{length, get_or}
use Rattle.frame.specs.Words.{packed, words_of}
use Rattle.strip.specs.Strip.{operands_in, used, place_words, word_at, refusal_at, Agree, agree, Strips}
use Rattle.strip.proofs.Places.{zipped_at, zipped_alike}

-- ---- lists that agree

agree_is : (first second answers refusals : List ℕ) → agree first second answers refusals ≡ true → Agree first second answers refusals
agree_is first second answers refusals e = go _ _ _ refl refl refl e
  where
    go : (p q r : Bool) → eqb (length second) (length first) ≡ p → eqb (length answers) (length first) ≡ q → eqb (length refusals) (length first) ≡ r → (p && q && r) ≡ true
        → Agree first second answers refusals
    go true true true p q r e = record { seconds = eqb-true _ _ p; words = eqb-true _ _ q; numbers = eqb-true _ _ r }
    go true true false p q r e = absurd (false≢true e)
    go true false r p q s e = absurd (false≢true e)
    go false q r p s t e = absurd (false≢true e)

pub is_agree : {first second answers refusals : List ℕ} → Agree first second answers refusals → agree first second answers refusals ≡ true
is_agree a = rw (eq-eqb _ _ a.seconds, eq-eqb _ _ a.words, eq-eqb _ _ a.numbers)

-- ---- a place

pub word_lt : (op a b : ℕ) → word_at op a b < 2 ^ 32
unfolding word_at
word_lt op a b = mod-lt (place_words op a b) (let z : 0 < 2 ^ 32 = omega arith in z)

-- put together they are the single call's answer
pub halves : (op a b : ℕ) → packed (refusal_at op a b) (word_at op a b) ≡ place_words op a b
unfolding word_at refusal_at
halves op a b = div-add-mod' (place_words op a b) (2 ^ 32)

-- ---- any run

module _ {op : ℕ} {first second answers refusals : List ℕ} {n : ℕ} {answered refused : List ℕ} (run : Strips op first second answers refusals n answered refused) where
  -- one that is refused as a whole writes nothing
  pub refused_writes_nothing : (n ≡ 0 → ⊥) → (answered ≡ answers) × (refused ≡ refusals)
  refused_writes_nothing h = let e = ne_eqb n 0 h in (run.words ∙ rw e, run.numbers ∙ rw e)

  -- the lists of one that is not refused with 10 have one length
  pub agreed : (n ≡ 10 → ⊥) → Agree first second answers refusals
  agreed h = go (agree first second answers refusals) refl run.refusal
    where
      go : (t : Bool) → agree first second answers refusals ≡ t → n ≡ cond t (cond (eqb (operands_in op) 0) 6 0) 10 → Agree first second answers refusals
      go true e d = agree_is first second answers refusals e
      go false e d = absurd (h d)

-- ---- a run that is not refused

module _ {op : ℕ} {first second answers refusals answered refused : List ℕ} (run : Strips op first second answers refusals 0 answered refused) where
  long : length second ≡ length first
  long = (agreed run (λ e. suc-ne-zero 9 (sym e))).seconds

  module _ (i : ℕ) (h : i < length first) where
    pub each_word : get_or answered i 0 ≡ word_at op (get_or first i 0) (get_or second i 0)
    each_word = ap (λ (l : List ℕ). get_or l i 0) run.words ∙ zipped_at (word_at op) first second i long h

    pub each_number : get_or refused i 0 ≡ refusal_at op (get_or first i 0) (get_or second i 0)
    each_number = ap (λ (l : List ℕ). get_or l i 0) run.numbers ∙ zipped_at (refusal_at op) first second i long h

    -- the two are the halves of what the single call answers there
    pub each_place : packed (get_or refused i 0) (get_or answered i 0) ≡ words_of op (get_or first i 0) (used (operands_in op) (get_or second i 0))
    each_place = rw (each_word, each_number) (halves op (get_or first i 0) (get_or second i 0))

-- ---- a place is told by its own two words: no other place changes it, refused or not

pub each_alone : {op : ℕ} {first second answers refusals answered refused first' second' answers' refusals' answered' refused' : List ℕ}
    → Strips op first second answers refusals 0 answered refused → Strips op first' second' answers' refusals' 0 answered' refused'
    → (i j : ℕ) → i < length first → j < length first' → get_or first i 0 ≡ get_or first' j 0 → get_or second i 0 ≡ get_or second' j 0
    → (get_or answered i 0 ≡ get_or answered' j 0) × (get_or refused i 0 ≡ get_or refused' j 0)
each_alone r s i j h k a b = (each_word r i h ∙ rw (a, b) (sym (each_word s j k)), each_number r i h ∙ rw (a, b) (sym (each_number s j k)))

-- ---- what the second list holds does not matter to an operation that does not read two words

module _ (op : ℕ) (h : operands_in op ≡ 2 → ⊥) where
  unused : (b c : ℕ) → used (operands_in op) b ≡ used (operands_in op) c
  unused b c = rw (ne_eqb (operands_in op) 2 h)

  pub same_word : (a b c : ℕ) → word_at op a b ≡ word_at op a c
  unfolding word_at
  same_word a b c = ap (λ (u : ℕ). words_of op a u % 2 ^ 32) (unused b c)

  pub same_number : (a b c : ℕ) → refusal_at op a b ≡ refusal_at op a c
  unfolding refusal_at
  same_number a b c = ap (λ (u : ℕ). words_of op a u / 2 ^ 32) (unused b c)

  pub second_list_is_ignored : {first second other answers refusals : List ℕ} {n m : ℕ} {answered refused answered' refused' : List ℕ} → length second ≡ length other
      → Strips op first second answers refusals n answered refused → Strips op first other answers refusals m answered' refused'
      → (n ≡ m) × (answered ≡ answered') × (refused ≡ refused')
  second_list_is_ignored {first} {second} {other} {answers} {refusals} {n} {m} e r s =
      let d : n ≡ m = r.refusal ∙ rw e (sym s.refusal) in (
        d,
        r.words ∙ rw (d, zipped_alike (word_at op) same_word first second other e) (sym s.words),
        r.numbers ∙ rw (d, zipped_alike (refusal_at op) same_number first second other e) (sym s.numbers),
      )
