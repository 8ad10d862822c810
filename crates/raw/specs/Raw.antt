-- Every raw kernel under its number in a frame, without the 80 that marks a raw one, and what it does with two words. Definitions only.
use Rattle.std.specs.Prelude.{ℕ, List, [], ◌∷◌, get_or}
use Rattle.std.specs.Float.{binary32}
use Rattle.std.specs.Int.{w32}
use Rattle.std.proofs.Common.{to_z}
use Rattle.format.specs.Sign.{abs_word, copysign_word, signum_word}
use Rattle.format.specs.Parts.{trunc_word, fract_word}
use Rattle.format.specs.Whole.{floor_word, ceil_word, round_word}
use Rattle.format.specs.Estimates.{sqrt_word, inv_word, invsqrt_word}
use Rattle.float.specs.Recip.{recip_word}
use Rattle.float.specs.Engine.{ieee}
use Rattle.float.specs.Exp.{exp_word}
use Rattle.float.specs.Ln.{ln_word}
use Rattle.float.specs.Powi.{powi_word}
use Rattle.float.specs.Powf.{powf_word}
use Rattle.float.specs.Atan.{atan_word}
use Rattle.float.specs.Atan2.{atan2_word}
use Rattle.float.specs.Cos.{cos_word, sin_word}
use Rattle.float.specs.Hypot.{hypot_word}
use Rattle.float.specs.Asin.{asin_word}
use Rattle.float.specs.Acos.{acos_word}
use Rattle.float.specs.Tan.{tan_word}
use Rattle.float.specs.RemEuclid.{rem_euclid_word}
use Rattle.float.specs.DivEuclid.{div_euclid_word}

pub data Kernel : Type 0 where
  none : Kernel
  one : (ℕ → ℕ) → Kernel
  two : (ℕ → ℕ → ℕ) → Kernel

-- the kernels in order, from number 00; a number past the end has none either
abbrev pub kernels : List Kernel
kernels =
    none
    ∷ one (trunc_word binary32)
    ∷ one (fract_word binary32)
    ∷ one (floor_word binary32)
    ∷ one (ceil_word binary32)
    ∷ one (round_word binary32)
    ∷ one (abs_word binary32)
    ∷ two (copysign_word binary32)
    ∷ one (signum_word binary32)
    ∷ one (sqrt_word binary32)
    ∷ one invsqrt_word
    ∷ one (inv_word binary32)
    ∷ one recip_word
    ∷ one exp_word
    ∷ one ln_word
    ∷ two (λ a b. powi_word a (to_z w32 b))
    ∷ two powf_word
    ∷ one (atan_word ieee)
    ∷ two atan2_word
    ∷ one (cos_word ieee)
    ∷ one (sin_word ieee)
    ∷ two hypot_word
    ∷ one asin_word
    ∷ one acos_word
    ∷ one tan_word
    ∷ two rem_euclid_word
    ∷ two div_euclid_word
    ∷ []

abbrev pub kernel_of : ℕ → Kernel
kernel_of n = get_or kernels n none

-- how many of the two words a kernel reads
abbrev pub operands_of : Kernel → ℕ
operands_of none = 0
operands_of (one f) = 1
operands_of (two f) = 2

-- its answer; where there is no kernel, 0
abbrev pub raw_of : Kernel → ℕ → ℕ → ℕ
raw_of none a b = 0
raw_of (one f) a b = f a
raw_of (two f) a b = f a b
