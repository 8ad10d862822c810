-- A NaN's word is read as the language's NaN. Assumes nothing.
use Rattle.std.proofs.Common.{sym, ◌∙◌}
use lib.Ieee.{binary64}
use Rattle.format.proofs.Nan.{nan_read, zero_over_zero}
use Rattle.double.proofs.F64.value.Goals as goal

pub returns-then-is_nan : goal.returns-then-is_nan
returns-then-is_nan c = zero_over_zero binary64 ∙ sym (nan_read binary64 c.args.self.0 (sym c.is_nan.ensures ∙ c.if-is_nan.true))
