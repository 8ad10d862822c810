-- The sum does not wrap, and the bound is the format's law. Assumes nothing.
use Rattle.std.proofs.Common.{◌≡◌, true, rules}
use Rattle.format.specs.Estimates.{at_least_zero}
use Rattle.format.proofs.Halved.{no_carry, halved}
use Rattle.format.proofs.Sqrt.{sqrt_bound}
use Rattle.format.proofs.Number.sqrt.Goals as goal

pub add-requires : goal.add-requires
add-requires g c =
    let law = g.met.Self.Word.Word in
    let num = g.met.Self.Number in
    let f = g.Self.Number.format in
    let w = g.Self.Number.word c.args.self in
    let passed : at_least_zero f w ≡ true = search rules in
    law.can_add_law _ _ (rw (c.to_bits.ensures.word, c.to_bits-then-is_at_least_zero.ensures.word, c.ONE.ensures, num.one_law, num.width_law) (no_carry f w c.to_bits.ensures.fits passed))

pub returns-then-is_at_least_zero-clause-steps : goal.returns-then-is_at_least_zero-clause-steps
returns-then-is_at_least_zero-clause-steps g c =
    let law = g.met.Self.Word.Word in
    let num = g.met.Self.Number in
    let f = g.Self.Number.format in
    let w = g.Self.Number.word c.args.self in
    let passed : at_least_zero f w ≡ true = search rules in
    rw (c.from_bits.ensures, c.half.ensures, law.add_law _ _ _ c.add.ensures, c.to_bits.ensures.word, c.to_bits-then-is_at_least_zero.ensures.word, c.ONE.ensures, num.one_law) (halved f w c.to_bits.ensures.fits passed)

pub returns-then-is_at_least_zero-clause-bound : goal.returns-then-is_at_least_zero-clause-bound
returns-then-is_at_least_zero-clause-bound g c = λ n. rw (returns-then-is_at_least_zero-clause-steps g c) (sqrt_bound g.Self.Number.format (g.Self.Number.word c.args.self) n)
