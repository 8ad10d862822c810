-- An entry by what stands at its front. Of an entry the first 250 bytes are enough: eight digits, a blank, and one byte more than a
-- recipe has. And an entry has one answer. Assumes nothing.
use Prim.Native.Nat.{ℕ, zero, suc, ◌+◌, ◌≤◌, ◌<◌}
use native.Mathlib.Nat.{le_of_suc-le-suc}
use native.Mathlib.Omega.{arith}
use mathlib.Core.Path.{◌≡◌, refl, sym, ap, subst, ◌∙◌}
use mathlib.Core.Bool.{Bool, true, false, ◌&&◌, false≢true}
use mathlib.Core.Logic.{◌⊎◌, inl, inr}
use mathlib.Core.List.{List, [], ◌∷◌}
use lib.Dec.{eqb}
use lib.ListN.{length, take, drop, length-take, length-drop}
use lib.Seq.{take_all, drop-drop}
use lib.Ieee.{Float, binary32, of_bits}
use Rattle.format.proofs.Order.{either}
use Rattle.refusals.specs.Given.{refusal_given}
use Rattle.guard.specs.Guarded.{Answer, word_of}
use Rattle.frame.specs.Frame.{is_digit, number_after, number_at}
use Rattle.frame.specs.Words.{packed}
use Rattle.recipe.specs.Text.{bytes}
use Rattle.recipe.specs.Begins.{digits, begins}
use Rattle.recipe.specs.Answers.{Answers, AnswersWords}
use Rattle.recipe.specs.Entry.{is_entry, AnswersEntry}
use Rattle.recipe.proofs.Fronts.{first_is, begins_is}
use Rattle.recipe.proofs.Answers.{too_long, one_answer}

-- ---- an entry by what stands at its front

pub an_entry : (line rest recipe : List ℕ) → digits 8 line ≡ true → rest ≡ drop 8 line → first_is (bytes " ") rest ≡ true → recipe ≡ drop 1 rest
    → (x : ℕ) → x ≡ number_after 0 (take 8 line) → (r : Answer) → Answers recipe (of_bits binary32 x) r → (w : ℕ) → w ≡ packed (refusal_given r) (word_of r) → AnswersEntry line w
an_entry line rest recipe d q b p x n r a w e =
    let is : is_entry line ≡ true = rw (d, sym q, sym (begins_is (bytes " ") rest) ∙ b) in
    let from : recipe ≡ drop 9 line = p ∙ ap (drop 1) q ∙ drop-drop 1 8 line in
    record { malformed = λ h. absurd (false≢true (sym h ∙ is)); worked = λ h. record { answer = r; answers = rw (sym from, sym n) a; words = e } }

-- ---- the first 250 bytes of an entry

digits_first : (k n : ℕ) (l : List ℕ) → k ≤ n → digits k (take n l) ≡ digits k l
digits_first zero n l h = refl
digits_first (suc k) zero l h = absurd (let z : ⊥ = omega arith in z)
digits_first (suc k) (suc n) [] h = refl
digits_first (suc k) (suc n) (b ∷ l) h = ap (λ (t : Bool). is_digit b && t) (digits_first k n l (le_of_suc-le-suc h))

word_first : (w : List ℕ) (n m : ℕ) (l : List ℕ) → n + length w ≤ m → begins w (drop n (take m l)) ≡ begins w (drop n l)
word_first [] n m l h = refl
word_first (c ∷ w) zero zero l h = absurd (let z : ⊥ = omega arith in z)
word_first (c ∷ w) zero (suc m) [] h = refl
word_first (c ∷ w) zero (suc m) (b ∷ l) h = ap (λ (t : Bool). eqb b c && t) (word_first w zero m l (omega arith))
word_first (c ∷ w) (suc n) zero l h = absurd (let z : ⊥ = omega arith in z)
word_first (c ∷ w) (suc n) (suc m) [] h = refl
word_first (c ∷ w) (suc n) (suc m) (b ∷ l) h = word_first (c ∷ w) n m l (omega arith)

pub first_bytes : (p : List ℕ) (w : ℕ) → AnswersEntry (take 250 p) w → AnswersEntry p w
first_bytes p w a = by (either (length p) 250)
  where
    same : is_entry (take 250 p) ≡ is_entry p
    same = rw (digits_first 8 250 p (omega arith), word_first (bytes " ") 8 250 p (omega arith))

    by : (length p ≤ 250) ⊎ (250 < length p) → AnswersEntry p w
    by (inl h) = subst (λ (l : List ℕ). AnswersEntry l w) (take_all 250 p h) a
    by (inr h) = record { malformed = λ e. a.malformed (same ∙ e); worked = λ e. long (a.worked (same ∙ e)) }
      where
        long : {x : Float} → AnswersWords (drop 9 (take 250 p)) x w → AnswersWords (drop 9 p) (of_bits binary32 (number_at 0 8 p)) w
        long v =
            let k : 240 < length (drop 9 (take 250 p)) = rw (length-drop, length-take) (omega arith) in
            record { answer = v.answer; answers = too_long (drop 9 p) _ v.answer (rw length-drop (omega arith)) (v.answers.long k); words = v.words }

-- ---- an entry has one answer

pub one_words : (line : List ℕ) (x : Float) (v w : ℕ) → AnswersWords line x v → AnswersWords line x w → v ≡ w
one_words line x v w a b =
    a.words ∙ ap (λ (r : Answer). packed (refusal_given r) (word_of r)) (one_answer line x a.answer b.answer a.answers b.answers) ∙ sym b.words

pub one_entry : (line : List ℕ) (v w : ℕ) → AnswersEntry line v → AnswersEntry line w → v ≡ w
one_entry line v w a b = go (is_entry line) refl
  where
    go : (t : Bool) → is_entry line ≡ t → v ≡ w
    go true e = one_words _ _ v w (a.worked e) (b.worked e)
    go false e = a.malformed e ∙ sym (b.malformed e)
