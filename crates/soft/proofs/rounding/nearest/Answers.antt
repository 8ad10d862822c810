-- The rest against what is left of a part.
use Rattle.std.proofs.Common.{◌^◌, sym}
use lib.Pow.{pow_pos}
use Rattle.soft.proofs.Shifted.{unit_is, rest_is, closest_low, closest_high, closest_tie}
use Rattle.soft.proofs.rounding.nearest.Goals as goal

pub returns-then-rest-other : goal.returns-then-rest-other
returns-then-rest-other c =
    let x = c.args.x in
    let n = c.args.count in
    sym (closest_low x (2 ^ n) (pow_pos n) (rw (rest_is x n c.requires.few, unit_is x n c.requires.few) at c.if-rest-other.true))

pub returns-then-other-rest : goal.returns-then-other-rest
returns-then-other-rest c =
    let x = c.args.x in
    let n = c.args.count in
    sym (closest_high x (2 ^ n) (pow_pos n) (rw (rest_is x n c.requires.few, unit_is x n c.requires.few) at c.if-other-rest.true))

pub returns : goal.returns
returns c =
    let x = c.args.x in
    let n = c.args.count in
    let p = c.requires.few in
    sym (closest_tie x (2 ^ n) (pow_pos n) (rw (rest_is x n p, unit_is x n p) at c.if-rest-other.false) (rw (rest_is x n p, unit_is x n p) at c.if-other-rest.false))
