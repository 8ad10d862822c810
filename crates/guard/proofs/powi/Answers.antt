-- `guard::powi` meets its contract: the power is judged as the word that it is in two's complement. Assumes nothing.
use Rattle.std.proofs.Common.{rules, of_z, sym, ap, ◌≡◌, ◌∙◌}
use Rattle.std.specs.Int.{w32}
use mir.Facts.{to_z-of_z}
use Rattle.guard.specs.Operations.{op_powi}
use Rattle.guard.proofs.Guards.{answers}
use Rattle.guard.proofs.powi.Goals as goal

pub returns : goal.returns
returns c =
    let word : c.bits_of_i32.result ≡ of_z w32 c.args.n = c.bits_of_i32.ensures ∙ ap (of_z w32) (to_z-of_z c.ranges.n) in
    let power = c.powi_counted-power.ensures in
    let g = answers op_powi c.args.x.0 (of_z w32 c.args.n) _ c.of.ensures _ (search rules) (rw (sym word) (search rules)) (search rules) power.number (rw word at c.in_ok-first.ensures) in
    rw (c.value.ensures, power.products) g
