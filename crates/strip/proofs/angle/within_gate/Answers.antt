-- Within the gate the quotient is no NaN.
use Rattle.std.proofs.Common.{◌∙◌}
use Rattle.strip.proofs.Quadrants.{turned_is, gate_words, gate_ratio, gate_word}
use Rattle.strip.proofs.angle.within_gate.Goals as goal

pub ratio-requires : goal.ratio-requires
ratio-requires c = gate_words _ _ c.requires

pub float_to_bits-ratio : goal.float_to_bits-ratio
float_to_bits-ratio c = rw (c.ratio.ensures, gate_ratio _ _ c.requires) tt

pub turned-requires : goal.turned-requires
turned-requires c = rw c.ratio.ensures (gate_word _ _ c.requires)

pub returns : goal.returns
returns c = c.turned.ensures ∙ turned_is _ _ c.ratio.ensures
