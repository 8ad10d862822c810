-- Or-ed marks tell of both words.
use Rattle.strip.proofs.Marks.{numbers_told}
use Rattle.strip.proofs.quick.numbers_mark.Goals as goal

pub returns : goal.returns
returns c = numbers_told c.size_mark.result c.size_mark-2.result _ _ c.size_mark.ensures c.size_mark-2.ensures
