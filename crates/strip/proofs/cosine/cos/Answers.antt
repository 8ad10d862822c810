-- Each step is its callee's, and small enough to be no NaN.
use Prim.Native.Nat.{ℕ, ◌≤◌}
use native.Mathlib.Nat.{le_trans}
use lib.Dec.{lit<, lit≤}
use lib.Ieee.{binary32, of_bits}
use lib.Ieee.Bits.{nan_bits_is}
use lib.Ieee.Fits.{add-fits, sub-fits, mul-fits}
use mathlib.Core.Path.{◌∙◌}
use Rattle.format.specs.Fields.{magnitude}
use Rattle.float.specs.Engine.{ieee}
use Rattle.float.specs.Cos.{turns, centred, parabola, cos_word}
use Rattle.sizes.proofs.Size.{AtMost, add_at_most}
use Rattle.sizes.proofs.Words.{constant, word_at_most, at_most_number, at_most_word}
use Rattle.sizes.proofs.Cos.{turns_at_most, centred_at_most, parabola_at_most, refined_at_most}
use Rattle.strip.proofs.cosine.cos.Goals as goal

-- how large the steps are
module _ (w : ℕ) (h : magnitude binary32 w ≤ 0x4480_0000) where
  word_size : AtMost binary32 0x4500_0000 (of_bits binary32 w)
  word_size = word_at_most binary32 w 0x4500_0000 (lit< tt) (le_trans h (lit≤ tt))

  turns_size : AtMost binary32 0x4400_0000 (turns ieee (of_bits binary32 w))
  turns_size = turns_at_most word_size

  part_size : AtMost binary32 0x4600_0000 (centred ieee (turns ieee (of_bits binary32 w)))
  part_size = centred_at_most turns_size

  curve_size : AtMost binary32 0x4f00_0000 (parabola ieee (centred ieee (turns ieee (of_bits binary32 w))))
  curve_size = parabola_at_most (sub-fits binary32 _ _) part_size

pub float_from_bits-turns : goal.float_from_bits-turns
float_from_bits-turns c = rw (nan_bits_is binary32 c.args.w ∙ at_most_number (word_size c.args.w c.requires)) tt

pub floor-requires : goal.floor-requires
floor-requires c = (add-fits binary32 _ _, at_most_word binary32 0x4a00_0000 _ (add-fits binary32 _ _) (add_at_most 0x4a00_0000 (turns_size c.args.w c.requires) (constant binary32 0x3e80_0000 tt) tt))

pub size-requires : goal.size-requires
size-requires c = (sub-fits binary32 _ _, rw c.floor.ensures (at_most_number (part_size c.args.w c.requires)))

pub size-requires-2 : goal.size-requires-2
size-requires-2 c = (mul-fits binary32 _ _, rw (c.size.ensures, c.floor.ensures) (at_most_number (curve_size c.args.w c.requires)))

pub float_to_bits-result : goal.float_to_bits-result
float_to_bits-result c = rw (c.size-2.ensures, c.size.ensures, c.floor.ensures, at_most_number (refined_at_most (mul-fits binary32 _ _) (curve_size c.args.w c.requires))) tt

pub returns : goal.returns
unfolding cos_word
returns c = cc
