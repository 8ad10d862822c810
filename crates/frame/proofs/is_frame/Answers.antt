-- `frame::is_frame` meets its contract. Assumes nothing.
use Rattle.std.proofs.Common.{rules, arith, ℕ, ◌<◌, ◌≡◌, Bool, true, false, sym, List, length}
use borrow.Author.Tests.{tests, eq-eqb}
use Rattle.std.specs.Bool.{MatchBool}
use Rattle.std.specs.List.{AllWithin, HoldsAt}
use Rattle.std.proofs.lemmas.Iterator.{cases_from_all, YieldsList-from_slice}
use Rattle.frame.specs.Frame.{is_digit, is_frame}
use Rattle.frame.proofs.Digits.{not_all, all_of}
use Rattle.frame.proofs.is_frame.Goals as goal

-- a test of every byte, of a line of the right length
told : (line : List ℕ) (t : Bool) → length line ≡ 18
    → MatchBool t (AllWithin (λ b. is_digit b ≡ true) line 0 (length line)) ((i : ℕ) × i < length line × HoldsAt (λ b. is_digit b ≡ false) line i) → t ≡ is_frame line
told line true e h = rw (eq-eqb (length line) 18 e) (sym (all_of line (λ i k. h i 0 (omega arith) k)))
told line false e h = rw (eq-eqb (length line) 18 e) (sym (not_all line h.0 h.1 (h.2 0)))

pub returns-then-line-eq18 : goal.returns-then-line-eq18
returns-then-line-eq18 c =
    told c.args.line.now c.all.result c.if-line-eq18.true
    (cases_from_all _ _ _ (λ b. is_digit b ≡ true) (λ b. is_digit b ≡ false) c.all.ensures.ran (YieldsList-from_slice c.args.line.now cc) (λ b q k. search (rules, tests)) (λ b q k. search (rules, tests)))
