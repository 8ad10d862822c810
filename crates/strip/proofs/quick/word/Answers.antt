-- In reach the single call answers with the kernel's word.
use Rattle.std.proofs.Common.{ℕ, ◌≡◌, sym, ◌∙◌, inl, inr, lit≤, le_trans}
use borrow.Author.Tests.{leb-true}
use Rattle.guard.proofs.Open.{both}
use Rattle.strip.specs.Strip.{word_at, refusal_at}
use Rattle.strip.proofs.InReach.{Answered, angle_reached, no_nan, in_reach, atan_answered, angle_answered, cos_answered, sin_answered, hypot_answered, raw_atan, raw_angle, raw_cos, raw_sin, raw_hypot}
use Rattle.strip.proofs.quick.word.Goals as goal

given : {op a b w r : ℕ} → r ≡ w → Answered op a b w → (r ≡ word_at op a b) × (refusal_at op a b ≡ 0)
given e p = (e ∙ sym p.word, p.number)

pub of_numbers-requires : goal.of_numbers-requires
of_numbers-requires g c =
    elim c.in-21.is [
      | inl e ↦ let r = angle_reached _ _ (rw e at c.requires.0) in (no_nan _ (le_trans r.height (lit≤ tt)), no_nan _ (le_trans r.across (lit≤ tt)))
      | inr e ↦ let h = both _ _ (rw e at c.requires.0) in (no_nan _ (leb-true _ _ h.0), no_nan _ (leb-true _ _ h.1))
    ]

pub returns-in-17 : goal.returns-in-17
returns-in-17 g c =
    elim c.in-17.is [
      | inl e ↦ rw e (given c.within_gate.ensures (atan_answered c.args.a c.args.b c.ranges.a.fits c.ranges.b.fits (in_reach c.args.a c.args.b c.ranges.a.fits c.ranges.b.fits 0x11 (rw e at c.requires.0))))
      | inr e ↦ rw e (given c.within_gate.ensures (raw_atan c.args.a c.args.b c.ranges.a.fits c.ranges.b.fits))
    ]

pub returns-in-18 : goal.returns-in-18
returns-in-18 g c =
    elim c.in-18.is [
      | inl e ↦ rw e (given c.within_gate-in-18.ensures (angle_answered c.args.a c.args.b c.ranges.a.fits c.ranges.b.fits (in_reach c.args.a c.args.b c.ranges.a.fits c.ranges.b.fits 0x12 (rw e at c.requires.0))))
      | inr e ↦ rw e (given c.within_gate-in-18.ensures (raw_angle c.args.a c.args.b c.ranges.a.fits c.ranges.b.fits))
    ]

pub returns-in-19 : goal.returns-in-19
returns-in-19 g c =
    elim c.in-19.is [
      | inl e ↦ rw e (given c.cos.ensures (cos_answered c.args.a c.args.b c.ranges.a.fits c.ranges.b.fits (in_reach c.args.a c.args.b c.ranges.a.fits c.ranges.b.fits 0x13 (rw e at c.requires.0))))
      | inr e ↦ rw e (given c.cos.ensures (raw_cos c.args.a c.args.b c.ranges.a.fits c.ranges.b.fits))
    ]

pub returns-in-20 : goal.returns-in-20
returns-in-20 g c =
    elim c.in-20.is [
      | inl e ↦ rw e (given c.sin.ensures (sin_answered c.args.a c.args.b c.ranges.a.fits c.ranges.b.fits (in_reach c.args.a c.args.b c.ranges.a.fits c.ranges.b.fits 0x14 (rw e at c.requires.0))))
      | inr e ↦ rw e (given c.sin.ensures (raw_sin c.args.a c.args.b c.ranges.a.fits c.ranges.b.fits))
    ]

pub returns-in-21 : goal.returns-in-21
returns-in-21 g c =
    elim c.in-21.is [
      | inl e ↦ rw e (given c.of_numbers.ensures (hypot_answered c.args.a c.args.b c.ranges.a.fits c.ranges.b.fits (in_reach c.args.a c.args.b c.ranges.a.fits c.ranges.b.fits 0x15 (rw e at c.requires.0))))
      | inr e ↦ rw e (given c.of_numbers.ensures (raw_hypot c.args.a c.args.b c.ranges.a.fits c.ranges.b.fits))
    ]
