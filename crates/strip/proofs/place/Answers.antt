-- The word and the refusal are the halves of what the single call answers.
use Rattle.std.proofs.Common.{ap, ◌∙◌, ◌/◌, ◌%◌, ◌^◌, ℕ}
use Rattle.frame.specs.Words.{words_of}
use Rattle.frame.proofs.Answers.{repacked}
use Rattle.strip.specs.Strip.{used, word_at, refusal_at}
use Rattle.strip.proofs.place.Goals as goal

pub returns : goal.returns
unfolding word_at refusal_at
returns c =
    let p = c.packed-words.ensures ∙ repacked _ _ c.answer.ensures ∙ ap (λ (b : ℕ). words_of c.args.op c.args.a b) (c.used.ensures ∙ ap (λ (n : ℕ). used n c.args.b) c.requires) in
    (ap (λ (x : ℕ). x % 2 ^ 32) p, ap (λ (x : ℕ). x / 2 ^ 32) p)
