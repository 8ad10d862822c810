-- `frame::of_line` meets its contract. Assumes nothing.
use Rattle.std.proofs.Common.{arith, refl, sym, ◌∙◌, length-take}
use Rattle.frame.proofs.Digits.{digits_in}
use Rattle.frame.specs.Frame.{line_words}
use Rattle.frame.proofs.of_line.Goals as goal

pub returns-then-not-is_frame : goal.returns-then-not-is_frame
unfolding line_words
returns-then-not-is_frame c = rw (sym c.is_frame.ensures, c.if-not-is_frame.true) (record { refusal = refl; word = refl })

pub number-requires-2 : goal.number-requires-2
number-requires-2 c = (rw length-take (omega arith), digits_in 2 8 c.args.line.now (sym c.is_frame.ensures ∙ c.if-not-is_frame.false))

pub number-requires-3 : goal.number-requires-3
number-requires-3 c = (rw length-take (omega arith), digits_in 10 8 c.args.line.now (sym c.is_frame.ensures ∙ c.if-not-is_frame.false))

pub returns : goal.returns
unfolding line_words
returns c = rw (sym c.is_frame.ensures, c.if-not-is_frame.false) (rw (c.number.ensures, c.number-2.ensures, c.number-3.ensures) at c.answer.ensures)
