-- The cast there and back, and one less where that is above the number.
use Rattle.std.proofs.Common.{ℤ, ap, sym, ◌∙◌, to_z-of_z, w32}
use lib.Ieee.{binary32, of_int, to_bits}
use Rattle.soft.proofs.Steps.{floor_below, floor_whole}
use Rattle.soft.proofs.floor.floor.Goals as goal

pub returns-then-is_less : goal.returns-then-is_less
returns-then-is_less c =
    c.sub.ensures.word
    ∙ floor_below c.args.w _ _ (c.from_integer-whole.ensures ∙ ap (λ (z : ℤ). to_bits binary32 (of_int binary32 z)) (to_z-of_z {w = w32} (record { sfits = c.to_i32.type_inv }))) c.to_i32.ensures
    (sym c.if-is_less.ensures)

pub returns-else-is_less : goal.returns-else-is_less
returns-else-is_less c =
    floor_whole c.args.w _ _ (c.from_integer-whole.ensures ∙ ap (λ (z : ℤ). to_bits binary32 (of_int binary32 z)) (to_z-of_z {w = w32} (record { sfits = c.to_i32.type_inv }))) c.to_i32.ensures
    (sym c.if-is_less.ensures)
