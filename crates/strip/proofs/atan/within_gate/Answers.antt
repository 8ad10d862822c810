-- Within the gate the quotient is no NaN.
use Rattle.std.proofs.Common.{◌∙◌}
use Rattle.strip.proofs.Slopes.{of_number, gate_number, gate_slope, gate_word}
use Rattle.strip.proofs.atan.within_gate.Goals as goal

pub slope-requires : goal.slope-requires
slope-requires c = gate_number _ c.requires

pub float_to_bits-slope : goal.float_to_bits-slope
float_to_bits-slope c = rw (c.slope.ensures, gate_slope _ c.requires) tt

pub signed-requires : goal.signed-requires
signed-requires c = rw c.slope.ensures (gate_word _ c.requires)

pub returns : goal.returns
returns c = c.signed.ensures ∙ of_number _ c.slope.ensures (rw c.slope.ensures (gate_word _ c.requires))
