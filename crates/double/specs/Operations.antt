-- The operations that doubles have, by the numbers that the same kernels have in a frame, and the word that each answers with. Definitions only.
use Rattle.std.specs.Prelude.{ℕ, ◌+◌, Bool, cond, ◌&&◌, List, [], ◌∷◌, get_or, eqb}
use Rattle.std.specs.Float.{binary64}
use Rattle.format.specs.Classes.{is_zero}
use Rattle.format.specs.First.{among}
use Rattle.format.specs.Parts.{trunc_word, fract_word}
use Rattle.format.specs.Estimates.{sqrt_word, inv_word}

abbrev pub op_trunc : ℕ
op_trunc = 0x01

abbrev pub op_fract : ℕ
op_fract = 0x02

abbrev pub op_sqrt : ℕ
op_sqrt = 0x09

abbrev pub op_inv : ℕ
op_inv = 0x0b

abbrev pub is_known : ℕ → Bool
is_known = among (op_trunc ∷ op_fract ∷ op_sqrt ∷ op_inv ∷ [])

-- a raw form's number is the guarded one's and 80
abbrev pub raw_number : ℕ → ℕ
raw_number op = op + 0x80

abbrev pub is_raw : ℕ → Bool
is_raw = among (raw_number op_trunc ∷ raw_number op_fract ∷ raw_number op_sqrt ∷ raw_number op_inv ∷ [])

-- ---- the words

-- no kernel
abbrev pub none : ℕ → ℕ
none w = 0

-- the raw kernels in the order of the numbers, from 00, which is no operation
abbrev pub kernels : List (ℕ → ℕ)
kernels =
    none
    ∷ trunc_word binary64  -- 01
    ∷ fract_word binary64  -- 02
    ∷ none
    ∷ none
    ∷ none
    ∷ none
    ∷ none
    ∷ none
    ∷ sqrt_word binary64  -- 09
    ∷ none
    ∷ inv_word binary64  -- 0b
    ∷ []

abbrev pub raw_of : ℕ → ℕ → ℕ
raw_of op w = get_or kernels op none w

-- the guarded operation's: the raw kernel's, but that a zero is its own square root
abbrev pub value_of : ℕ → ℕ → ℕ
value_of op w = cond (eqb op op_sqrt && is_zero binary64 w) w (raw_of op w)
