use Rattle.std.proofs.Common.{refl, ap}
use Rattle.raw.specs.Raw.{operands_of}
use Rattle.raw.proofs.Numbers.{unlisted}
use Rattle.raw.proofs.kernel.KernelTryFromU32.try_from.Goals as goal

pub returns-in_default : goal.returns-in_default
returns-in_default c = (refl, ap operands_of (unlisted c.args.number c.in_default.in_default-own.rest))
