-- The subtraction is the definition's, and its bound and its sign are the format's laws. Assumes nothing.
use Rattle.std.proofs.Common.{◌≡◌, rules}
use Rattle.format.specs.Estimates.{inv_word}
use Rattle.format.proofs.Inv.{inv_promises}
use Rattle.format.proofs.Number.inv.Goals as goal

pub returns-clause-bound : goal.returns-clause-bound
returns-clause-bound g c =
    let w = g.Self.Number.word c.args.self in
    let e : g.Self.Number.word c.from_bits.result ≡ inv_word g.Self.Number.format w = search rules in
    (inv_promises g.Self.Number.format w _ c.to_bits.ensures.fits e).1.0

pub returns-clause-sign : goal.returns-clause-sign
returns-clause-sign g c =
    let w = g.Self.Number.word c.args.self in
    let e : g.Self.Number.word c.from_bits.result ≡ inv_word g.Self.Number.format w = search rules in
    (inv_promises g.Self.Number.format w _ c.to_bits.ensures.fits e).1.1
