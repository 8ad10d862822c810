-- The mask leaves the magnitude, which is no NaN's where the number is none.
use lib.Ieee.{binary32, to_bits}
use Rattle.format.proofs.Masks.{clear_sign}
use Rattle.sizes.proofs.Words.{number_word}
use Rattle.strip.proofs.Sized.{size_nan}
use Rattle.strip.proofs.cosine.size.Goals as goal

pub float_from_bits-result : goal.float_from_bits-result
float_from_bits-result c = let w = to_bits binary32 c.args.x in rw (clear_sign binary32 w, size_nan binary32 w, number_word binary32 c.args.x c.requires.0 c.requires.1) tt
