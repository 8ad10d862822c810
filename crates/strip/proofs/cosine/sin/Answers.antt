-- A quarter turn back is within what `cos` asks for.
use Prim.Native.Nat.{ℕ, ◌≤◌}
use mathlib.Core.Path.{◌∙◌}
use lib.Dec.{lit<}
use lib.Ieee.{binary32, sub, of_bits}
use lib.Ieee.Bits.{nan_bits_is}
use lib.Ieee.Fits.{sub-fits}
use Rattle.format.specs.Fields.{magnitude}
use Rattle.float.specs.Cos.{sin_word}
use Rattle.sizes.proofs.Size.{AtMost, sub_at_most}
use Rattle.sizes.proofs.Words.{constant, word_at_most, at_most_number, at_most_word}
use Rattle.strip.proofs.cosine.sin.Goals as goal

module _ (w : ℕ) (h : magnitude binary32 w ≤ 0x4380_0000) where
  word_size : AtMost binary32 0x4380_0000 (of_bits binary32 w)
  word_size = word_at_most binary32 w 0x4380_0000 (lit< tt) h

  back_size : AtMost binary32 0x4480_0000 (sub binary32 (of_bits binary32 w) (of_bits binary32 0x3fc9_0fdb))
  back_size = sub_at_most 0x4480_0000 word_size (constant binary32 0x3fc9_0fdb tt) tt

pub float_from_bits-w : goal.float_from_bits-w
float_from_bits-w c = rw (nan_bits_is binary32 c.args.w ∙ at_most_number (word_size c.args.w c.requires)) tt

pub float_to_bits-w : goal.float_to_bits-w
float_to_bits-w c = rw (at_most_number (back_size c.args.w c.requires)) tt

pub cos-requires : goal.cos-requires
cos-requires c = at_most_word binary32 0x4480_0000 _ (sub-fits binary32 _ _) (back_size c.args.w c.requires)

pub returns : goal.returns
unfolding sin_word
returns c = c.cos.ensures
