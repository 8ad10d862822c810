-- `grain::Grain::offer` meets its contract: each way out is one of the five answers. Assumes nothing.
use Rattle.std.proofs.Common.{arith, ◌≡◌, ap, ℕ}
use Rattle.grain.specs.declared.Grain.{Grain}
use Rattle.grain.specs.Grain.{Offered, offered, Leaves}
use Rattle.grain.proofs.Answers.{worn_out, no_number, too_large, full, answered}
use Rattle.grain.proofs.Grain.offer.Goals as goal

leaves : (g : Grain) (w n : ℕ) (h : Grain) → record { refusal = n; grain = h } ≡ offered g w → Leaves g w n h
leaves g w n h e = (ap (λ (o : Offered). o.refusal) e, ap (λ (o : Offered). o.grain) e)

pub returns-then-self-ge-MOST_OFFERS : goal.returns-then-self-ge-MOST_OFFERS
returns-then-self-ge-MOST_OFFERS c = leaves _ _ _ _ (worn_out c.args.self.now c.args.sample.0 (omega arith))

pub returns-then-extract_exponent_bits-eq255 : goal.returns-then-extract_exponent_bits-eq255
returns-then-extract_exponent_bits-eq255 c = leaves _ _ _ _ (no_number c.args.self.now c.args.sample.0 _ c.turned_away.ensures (omega arith) (omega arith))

pub returns-then-without_sign-gt-LARGEST : goal.returns-then-without_sign-gt-LARGEST
returns-then-without_sign-gt-LARGEST c = leaves _ _ _ _ (too_large c.args.self.now c.args.sample.0 _ c.turned_away-then-without_sign-gt-LARGEST.ensures (omega arith) (λ e. omega arith) (omega arith))

pub returns-then-self-ge-MOST_SAMPLES : goal.returns-then-self-ge-MOST_SAMPLES
returns-then-self-ge-MOST_SAMPLES c = leaves _ _ _ _ (full c.args.self.now c.args.sample.0 _ c.turned_away-then-self-ge-MOST_SAMPLES.ensures (omega arith) (λ e. omega arith) (omega arith) (omega arith))

pub returns : goal.returns
returns c = leaves _ _ _ _ (answered c.args.self.now c.args.sample.0 _ _ c.value.ensures c.taken.ensures (omega arith) (λ e. omega arith) (omega arith) (omega arith))
