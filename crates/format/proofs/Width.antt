-- A format's width beside its fields. Assumes nothing.
use Prim.Native.Nat.{◌-◌, ◌*◌, ◌%◌, ◌^◌}
use mathlib.Core.Path.{◌≡◌, refl}
use lib.Ieee.{Format, binary32, binary64, prec, hid, top}
use Rattle.format.specs.Fields.{width}

pub width_top : (f : Format) → 2 ^ width f ≡ 2 * top f
width_top binary32 = refl
width_top binary64 = refl

-- every bit but the sign
pub but_sign : (f : Format) → 2 ^ width f - 1 - top f ≡ top f - 1
but_sign binary32 = refl
but_sign binary64 = refl

-- a shift by the fraction's digits takes the weight of the field off
pub field_places : (f : Format) → 2 ^ ((prec f - 1) % width f) ≡ hid f
field_places binary32 = refl
field_places binary64 = refl
