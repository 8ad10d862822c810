-- The words for which the blocks of a strip run an operation's steps without a test: within its gate, and of a raw one words of which it is
-- shown that no step meets a NaN. Guarded sqrt of a zero is that zero and no step on its word, so a zero has no part in it. Definitions only.
use Rattle.std.specs.Prelude.{ℕ, ◌+◌, ◌/◌, ◌%◌, ◌^◌, ◌≤◌, ◌<◌, ◌≡◌, ◌⊎◌, Bool, true, false, cond, ◌&&◌, ◌||◌, List, [], ◌∷◌, ◌++◌, leb, ltb, eqb, length, get_or}
use Rattle.std.specs.Float.{binary32}
use Rattle.format.specs.Fields.{magnitude}
use Rattle.format.specs.Sign.{abs_word}
use Rattle.format.specs.Estimates.{inv_word, invsqrt_word}
use Rattle.format.specs.First.{among}

-- a magnitude up to a limit
abbrev pub up_to : ℕ → ℕ → Bool
up_to limit w = leb (magnitude binary32 w) limit

-- atan2 of a height and what is across: neither above 2 ^ 62, and one of them 2 ^ -60 at least; as a test and as a fact
abbrev pub angle_reach : ℕ → ℕ → Bool
angle_reach y x = up_to 0x5e80_0000 y && up_to 0x5e80_0000 x && (leb 0x2180_0000 (magnitude binary32 y) || leb 0x2180_0000 (magnitude binary32 x))

pub record AngleReach (y x : ℕ) : Type 0 where
  pub height : magnitude binary32 y ≤ 0x5e80_0000
  pub across : magnitude binary32 x ≤ 0x5e80_0000
  pub either : (0x2180_0000 ≤ magnitude binary32 y) ⊎ (0x2180_0000 ≤ magnitude binary32 x)

-- the operations that have blocks: those that are a step on the word itself, abs, sqrt, invsqrt and inv, of which three guarded alone; and atan,
-- atan2, cos, sin and hypot
abbrev pub stepped : List ℕ
stepped = 0x06 ∷ 0x09 ∷ 0x89 ∷ 0x0a ∷ 0x0b ∷ []

abbrev pub computed : List ℕ
computed = 0x11 ∷ 0x91 ∷ 0x12 ∷ 0x92 ∷ 0x13 ∷ 0x93 ∷ 0x14 ∷ 0x94 ∷ 0x15 ∷ 0x95 ∷ []

abbrev pub blocked : List ℕ
blocked = stepped ++ computed

abbrev pub has_blocks : ℕ → Bool
has_blocks = among blocked

-- abs of a finite number; sqrt and invsqrt of a positive normal one, and raw sqrt of a word without the sign that is no NaN; inv of a normal one
-- up to 2 ^ 126; atan under 2 ^ 64; atan2, and hypot guarded, of a pair as above, and raw hypot of no NaN; raw cos to 1024; cos and sin to 256
abbrev pub reach : ℕ → ℕ → ℕ → Bool
reach op a b =
    has_blocks op
    && cond (eqb op 0x06) (up_to 0x7f7f_ffff a)
    (cond (among (0x09 ∷ 0x0a ∷ []) op) (leb 0x0080_0000 a && ltb a 0x7f80_0000)
    (cond (eqb op 0x89) (leb a 0x7f80_0000)
    (cond (eqb op 0x0b) (leb 0x0080_0000 (magnitude binary32 a) && up_to 0x7e80_0000 a)
    (cond (among (0x11 ∷ 0x91 ∷ []) op) (up_to 0x5f7f_ffff a)
    (cond (among (0x12 ∷ 0x92 ∷ 0x15 ∷ []) op) (angle_reach a b)
    (cond (eqb op 0x95) (up_to 0x7f80_0000 a && up_to 0x7f80_0000 b)
    (cond (eqb op 0x93) (up_to 0x4480_0000 a)
    (cond (among (0x13 ∷ 0x14 ∷ 0x94 ∷ []) op) (up_to 0x4380_0000 a) false))))))))

-- of every place of two lists
abbrev pub AllReach : ℕ → List ℕ → List ℕ → Type 0
AllReach op first second = (i : ℕ) → i < length first → reach op (get_or first i 0) (get_or second i 0) ≡ true

-- half of the sum of a word and that of 1, modulo 2 ^ 32
abbrev pub half_word : ℕ → ℕ
half_word w = (w + 0x3f80_0000) % 2 ^ 32 / 2

-- those on the word itself, and the step
abbrev pub on_bits : ℕ → Bool
on_bits = among stepped

abbrev pub bits_word : ℕ → ℕ → ℕ
bits_word op w = cond (eqb op 0x06) (abs_word binary32 w) (cond (eqb op 0x0a) (invsqrt_word w) (cond (eqb op 0x0b) (inv_word binary32 w) (half_word w)))

-- the refusal of a gate that has a highest magnitude alone: 1 of an infinity or a NaN, 4 past it
abbrev pub size_number : ℕ → ℕ → ℕ
size_number limit w = cond (leb 0x7f80_0000 (magnitude binary32 w)) 1 (cond (ltb limit (magnitude binary32 w)) 4 0)
