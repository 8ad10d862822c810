-- The integer's size, rounded with its sign.
use Rattle.std.proofs.Common.{ℤ, sym, ap, ◌∙◌, to_z-of_z, w32, to_z, of_z}
use lib.Ieee.{binary32, of_int, to_bits}
use Rattle.soft.proofs.Less.{integer_word}
use Rattle.soft.proofs.floor.from_integer.Goals as goal

pub returns-then-n-lt0 : goal.returns-then-n-lt0
returns-then-n-lt0 c =
    c.rounded.ensures
    ∙ integer_word (to_z w32 (of_z w32 c.args.n)) _ _ (sym c.if-n-lt0.true) c.unsigned_abs-size.ensures.value
    ∙ ap (λ (z : ℤ). to_bits binary32 (of_int binary32 z)) (to_z-of_z c.ranges.n)

pub returns-else-n-lt0 : goal.returns-else-n-lt0
returns-else-n-lt0 c =
    c.rounded-else-n-lt0.ensures
    ∙ integer_word (to_z w32 (of_z w32 c.args.n)) _ _ (sym c.if-n-lt0.false) c.unsigned_abs-size.ensures.value
    ∙ ap (λ (z : ℤ). to_bits binary32 (of_int binary32 z)) (to_z-of_z c.ranges.n)
