-- The gates, one for each operation: the lowest and the highest word that pass, both allowed, and a word that is judged the other way: between
-- the ends it does not pass, and elsewhere it does. Words are ordered as the numbers that they are, -0 just below +0. Definitions only.
use Rattle.std.specs.Prelude.{ℕ, ◌+◌, ◌-◌, ◌*◌, Bool, cond, ◌&&◌, List, [], ◌∷◌, get_or, leb, eqb}
use Rattle.std.specs.Float.{binary32}
use Rattle.std.specs.Float.Ieee.{top, unlike}
use Rattle.format.specs.Fields.{negative, magnitude, inf_word}
use Rattle.format.specs.Classes.{is_zero}
use Rattle.format.specs.First.{among}
use Rattle.float.specs.Engine.{ieee}
use Rattle.float.specs.Cos.{cos_word}
use Rattle.float.specs.Powf.{product_word}
use Rattle.float.specs.DivEuclid.{quotient_word}
use Rattle.guard.specs.declared.gate.Gate.{Gate}
use Rattle.guard.specs.Operations.{op_exp, op_powf, op_atan2, op_hypot, op_tan, op_rem_euclid, op_div_euclid}

abbrev pub low : Gate → ℕ
low g = g.0

abbrev pub high : Gate → ℕ
high g = g.1

abbrev pub other : Gate → ℕ
other g = g.2

-- the whole row; and one with no such word: ffffffff is a NaN, which refusal 1 has turned away before
abbrev pub row : ℕ → ℕ → ℕ → Gate
row l h n = record { 0 = l; 1 = h; 2 = n }

abbrev pub between : ℕ → ℕ → Gate
between l h = row l h 0xffff_ffff

-- every magnitude passes
abbrev pub unbounded : Gate
unbounded = between 0x0000_0000 0x7fff_ffff

-- in the order of the numbers, from 00, which is no operation; an end that is "under" a bound is the word below it
abbrev pub gates : List Gate
gates =
    unbounded  -- no operation
    ∷ between 0x0000_0000 0x4f7f_ffff  -- trunc: |x| under 2 ^ 32
    ∷ between 0x0000_0000 0x4f7f_ffff  -- fract: the same
    ∷ between 0x0000_0000 0x4f00_0000  -- floor: |x| to 2 ^ 31
    ∷ between 0x0000_0000 0x4f00_0000  -- ceil: the same
    ∷ row 0x0000_0000 0x4aff_ffff 0x3eff_ffff  -- round: |x| under 2 ^ 23, and not 3effffff
    ∷ unbounded  -- abs
    ∷ unbounded  -- copysign
    ∷ unbounded  -- signum
    ∷ unbounded  -- sqrt
    ∷ unbounded  -- invsqrt
    ∷ between 0x0000_0000 0x7e80_0000  -- inv: |x| to 2 ^ 126
    ∷ between 0x0000_0000 0x7e00_0000  -- recip: |x| to 2 ^ 125
    ∷ between 0xc2ae_0000 0x42b0_0000  -- exp: from -87 to 88
    ∷ unbounded  -- ln
    ∷ unbounded  -- powi
    ∷ between 0xc2ae_0000 0x42b0_0000  -- powf: the product from -87 to 88
    ∷ between 0x0000_0000 0x5f7f_ffff  -- atan: |x| under 2 ^ 64
    ∷ between 0x2180_0000 0x5e80_0000  -- atan2: from 2 ^ -60 to 2 ^ 62
    ∷ between 0x0000_0000 0x4380_0000  -- cos: |x| to 256
    ∷ between 0x0000_0000 0x4380_0000  -- sin: the same
    ∷ between 0x2180_0000 0x5e80_0000  -- hypot: as atan2
    ∷ between 0x0000_0000 0x3f7f_ffff  -- asin: |x| under 1
    ∷ row 0x2180_0000 0x3f7f_ffff 0x0000_0000  -- acos: |x| from 2 ^ -60 and under 1, and 0
    ∷ between 0x0000_0000 0x4380_0000  -- tan: as cos
    ∷ between 0x0000_0000 0x4aff_ffff  -- rem_euclid: |x / y| under 2 ^ 23
    ∷ between 0x0000_0000 0x4aff_ffff  -- div_euclid: the same
    ∷ []

abbrev pub gate_of : ℕ → Gate
gate_of op = get_or gates op unbounded

-- where a word stands in the order, counted from the NaN that is furthest below 0
abbrev pub place : ℕ → ℕ
place w = cond (negative binary32 w) (2 * top binary32 - 1 - w) (top binary32 + w)

abbrev pub within : Gate → ℕ → Bool
within g w = leb (place (low g)) (place w) && leb (place w) (place (high g))

abbrev pub passes : Gate → ℕ → Bool
passes g w = unlike (within g w) (eqb w (other g))

-- the larger of two magnitudes
abbrev pub larger : ℕ → ℕ → ℕ
larger a b = let x = magnitude binary32 a in let y = magnitude binary32 b in cond (leb x y) y x

-- the magnitude of a, and past every end where w is a zero
abbrev pub unless_zero : ℕ → ℕ → ℕ
unless_zero w a = cond (is_zero binary32 w) (inf_word binary32) (magnitude binary32 a)

-- the magnitude that an operation's gate judges: of atan2 and hypot the larger of the two; of tan its operand's, unless the cosine is a
-- zero; of the two euclids the once rounded quotient's; elsewhere the first operand's
abbrev pub judged_size : ℕ → ℕ → ℕ → ℕ
judged_size op a b =
    cond (among (op_atan2 ∷ op_hypot ∷ []) op) (larger a b)
    (cond (eqb op op_tan) (unless_zero (cos_word ieee a) a)
    (cond (among (op_rem_euclid ∷ op_div_euclid ∷ []) op) (magnitude binary32 (quotient_word a b))
    (magnitude binary32 a)))

-- the word that it judges: exp's operand as it is; powf's once rounded n * ln(x); elsewhere a magnitude
unfoldable pub judged : ℕ → ℕ → ℕ → ℕ
judged op a b = cond (eqb op op_exp) a (cond (eqb op op_powf) (product_word a b) (judged_size op a b))
