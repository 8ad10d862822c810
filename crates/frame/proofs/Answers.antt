-- An answer packed is what was unpacked. It is eleven bytes, and lines that are no frames have all the same. Assumes nothing.
use Prim.Native.Nat.{ℕ, ◌+◌, ◌^◌, ◌<◌}
use native.Mathlib.Omega.{arith}
use mathlib.Core.Path.{◌≡◌, sym, ap, ◌∙◌}
use mathlib.Core.Bool.{false}
use mathlib.Core.List.{List, [], ◌∷◌, ◌++◌}
use borrow.Author.Tests.{ne_eqb}
use lib.ListN.{length, length-append}
use Rattle.std.specs.Prelude.{Result}
use Rattle.std.specs.Result.{result_unwrap_or}
use Rattle.std.proofs.lemmas.Nat.{div-add-mod'}
use Rattle.refusals.specs.declared.Refusal.{Refusal}
use Rattle.refusals.specs.Given.{refusal_given}
use Rattle.frame.specs.Words.{packed, Unpacks}
use Rattle.frame.specs.Frame.{is_frame, hex_bytes, line_words, answer_bytes}
use Rattle.frame.proofs.Digits.{hex_length}

pub repacked : (n : ℕ) (r : Result ℕ Refusal) → Unpacks n r → packed (refusal_given r) (result_unwrap_or r 0) ≡ n
repacked n r u = rw (u.refusal, u.word) (div-add-mod' n (2 ^ 32))

pub answer_length : (line : List ℕ) → length (answer_bytes line) ≡ 11
unfolding answer_bytes
answer_length line = length-append (hex_bytes 10 (line_words line)) (10 ∷ []) ∙ ap (λ (n : ℕ). n + 1) (hex_length 10 (line_words line))

no_frame : (line : List ℕ) → is_frame line ≡ false → line_words line ≡ packed 7 0
unfolding line_words
no_frame line e = rw e

pub no_frames_alike : (line other : List ℕ) → is_frame line ≡ false → is_frame other ≡ false → answer_bytes line ≡ answer_bytes other
unfolding answer_bytes
no_frames_alike line other e d = ap (λ (x : ℕ). hex_bytes 10 x ++ (10 ∷ [])) (no_frame line e ∙ sym (no_frame other d))

long_is_none : (line : List ℕ) → 18 < length line → is_frame line ≡ false
long_is_none line h = rw (ne_eqb (length line) 18 (λ e. let z : ⊥ = omega arith in z))

pub too_long : (line other : List ℕ) → 18 < length line → 18 < length other → answer_bytes line ≡ answer_bytes other
too_long line other h k = no_frames_alike line other (long_is_none line h) (long_is_none other k)
