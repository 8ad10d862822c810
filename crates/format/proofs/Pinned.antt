-- One answer: what it is for a statement to leave one possible answer, and the one law behind every such entry. Assumes nothing.
use mathlib.Core.Path.{◌≡◌, sym, ◌∙◌}

-- Any two answers that the statement allows for the same arguments are seen to be the same. `see` reads off an answer
-- all that a caller can: the result, and what was left in whatever was lent.
abbrev pub OneAnswer : {A R X S : Type 0} → (A → R → X → Type 0) → (R → X → S) → Type 0
OneAnswer {A} {R} {X} post see = (a : A) (r s : R) (x y : X) → post a r x → post a s y → see r x ≡ see s y

-- a statement that gives the answer as a function of the arguments leaves one
pub pinned : {A R X S : Type 0} {post : A → R → X → Type 0} {see : R → X → S} (answer : A → S)
    → ((a : A) (r : R) (x : X) → post a r x → see r x ≡ answer a) → OneAnswer post see
pinned answer gives a r s x y p q = gives a r x p ∙ sym (gives a s y q)
