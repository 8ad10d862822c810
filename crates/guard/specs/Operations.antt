-- The number of each guarded operation in a frame. Definitions only.
use Rattle.std.specs.Prelude.{ℕ}

abbrev pub op_trunc : ℕ
op_trunc = 0x01

abbrev pub op_fract : ℕ
op_fract = 0x02

abbrev pub op_floor : ℕ
op_floor = 0x03

abbrev pub op_ceil : ℕ
op_ceil = 0x04

abbrev pub op_round : ℕ
op_round = 0x05

abbrev pub op_abs : ℕ
op_abs = 0x06

abbrev pub op_copysign : ℕ
op_copysign = 0x07

abbrev pub op_signum : ℕ
op_signum = 0x08

abbrev pub op_sqrt : ℕ
op_sqrt = 0x09

abbrev pub op_invsqrt : ℕ
op_invsqrt = 0x0a

abbrev pub op_inv : ℕ
op_inv = 0x0b

abbrev pub op_recip : ℕ
op_recip = 0x0c

abbrev pub op_exp : ℕ
op_exp = 0x0d

abbrev pub op_ln : ℕ
op_ln = 0x0e

abbrev pub op_powi : ℕ
op_powi = 0x0f

abbrev pub op_powf : ℕ
op_powf = 0x10

abbrev pub op_atan : ℕ
op_atan = 0x11

abbrev pub op_atan2 : ℕ
op_atan2 = 0x12

abbrev pub op_cos : ℕ
op_cos = 0x13

abbrev pub op_sin : ℕ
op_sin = 0x14

abbrev pub op_hypot : ℕ
op_hypot = 0x15

abbrev pub op_asin : ℕ
op_asin = 0x16

abbrev pub op_acos : ℕ
op_acos = 0x17

abbrev pub op_tan : ℕ
op_tan = 0x18

abbrev pub op_rem_euclid : ℕ
op_rem_euclid = 0x19

abbrev pub op_div_euclid : ℕ
op_div_euclid = 0x1a
