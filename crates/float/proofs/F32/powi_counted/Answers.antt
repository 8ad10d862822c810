-- An early answer takes no product, and every other is the end of the list of products.
use Rattle.std.proofs.Common.{sym, to_z-of_z, rules}
use Rattle.float.proofs.Products.{early_takes_none, squaring_takes_all}
use Rattle.float.proofs.F32.powi_counted.Goals as goal

pub returns-in-Some : goal.returns-in-Some
returns-in-Some c =
    let due = early_takes_none c.args.self.0 c.args.n _ (rw (to_z-of_z c.ranges.n) at c.in-Some.ensures) in
    record { number = sym due.1; products = sym due.0 }

pub returns-in-None : goal.returns-in-None
returns-in-None c =
    let due = squaring_takes_all c.args.self.0 c.args.n (rw (to_z-of_z c.ranges.n) at c.in-None.ensures) in
    record { number = search (rules, due.1); products = search (rules, due.0) }
