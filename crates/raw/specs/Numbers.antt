-- The number of each kernel that has a name. Definitions only.
use Rattle.std.specs.Prelude.{ℕ, ◌≡◌, Result, MatchResult}
use Rattle.refusals.specs.declared.Refusal.{Refusal}
use Rattle.refusals.specs.declared.Refusal.TheVariants.{NoSuchOperation}
use Rattle.raw.specs.declared.kernel.Kernel.{Kernel}
use Rattle.raw.specs.declared.kernel.Kernel.TheVariants.{Trunc, Fract, Floor, Ceil, Round, Abs, Copysign, Signum, Sqrt, Invsqrt, Inv, Recip, Exp, Ln, Powi, Powf, Atan, Atan2, Cos, Sin, Hypot, Asin, Acos, Tan, RemEuclid, DivEuclid}
use Rattle.raw.specs.Raw.{operands_of, kernel_of}

abbrev pub number_of : Kernel → ℕ
number_of Trunc = 1
number_of Fract = 2
number_of Floor = 3
number_of Ceil = 4
number_of Round = 5
number_of Abs = 6
number_of Copysign = 7
number_of Signum = 8
number_of Sqrt = 9
number_of Invsqrt = 10
number_of Inv = 11
number_of Recip = 12
number_of Exp = 13
number_of Ln = 14
number_of Powi = 15
number_of Powf = 16
number_of Atan = 17
number_of Atan2 = 18
number_of Cos = 19
number_of Sin = 20
number_of Hypot = 21
number_of Asin = 22
number_of Acos = 23
number_of Tan = 24
number_of RemEuclid = 25
number_of DivEuclid = 26

-- the kernel of a number, or 6 where it has none
abbrev pub Named : ℕ → Result Kernel Refusal → Type 0
Named n r = MatchResult r (λ k. number_of k ≡ n) (λ e. (e ≡ NoSuchOperation) × (operands_of (kernel_of n) ≡ 0))
