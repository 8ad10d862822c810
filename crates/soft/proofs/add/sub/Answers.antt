-- The sign bit turned, and added.
use Rattle.std.proofs.Common.{ap, ◌∙◌}
use lib.Ieee.{binary32}
use Rattle.format.proofs.Masks.{turn_sign}
use Rattle.soft.specs.Words.{add_word}
use Rattle.soft.proofs.Sum.{sub_is_add}
use Rattle.soft.proofs.add.sub.Goals as goal

pub returns-clause-word : goal.returns-clause-word
returns-clause-word c = c.add.ensures.word ∙ ap (add_word binary32 c.args.a) (turn_sign binary32 c.args.b c.ranges.b.fits) ∙ sub_is_add binary32 c.args.a c.args.b
