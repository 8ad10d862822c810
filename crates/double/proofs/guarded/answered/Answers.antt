-- `double::guarded::answered` meets its contract: a word that is answered is no NaN. Assumes nothing.
use Rattle.std.proofs.Common.{rules}
use Rattle.format.proofs.Nan.{not_held}
use Rattle.double.proofs.Guards.{is_number, answers}
use Rattle.double.proofs.guarded.answered.Goals as goal

pub float_from_bits-result : goal.float_from_bits-result
float_from_bits-result c = not_held (is_number c.args.op c.args.x.0 _ _ c.of.ensures c.in_ok-first.ensures c.requires.0 c.requires.1 (search rules))

pub returns : goal.returns
returns c = answers c.args.op c.args.x.0 _ _ c.of.ensures c.in_ok-first.ensures c.requires.0 c.requires.1 (search rules) (search rules)
