-- Correct rounding over whole numbers: the nearest word, an even fraction on a tie, an infinity from half a step above the largest. Definitions only.
use Rattle.std.specs.Prelude.{ℕ, suc, ◌+◌, ◌-◌, ◌*◌, ◌%◌, ◌^◌, ◌≤◌, ◌<◌, ◌≡◌, Bool}
use Rattle.std.specs.Float.{Format}
use Rattle.std.specs.Float.Ieee.{prec, emax, low, top}
use Rattle.format.specs.Fields.{negative, sign_bit, inf_word}
use Rattle.format.specs.Value.{units, Finite}

-- how far apart two numbers are
abbrev pub apart : ℕ → ℕ → ℕ
apart a b = (a - b) + (b - a)

-- half a step above the largest finite value, in units: halfway from it to 2 ^ (emax + 1), the next that more room would hold
unfoldable pub past : Format → ℕ
past f = (2 ^ suc (prec f) - 1) * 2 ^ (emax f + low f - prec f)

abbrev pub infinity : Format → Bool → ℕ
infinity f s = sign_bit f s + inf_word f

-- The number n / d, d above 0, counted in units of the format's smallest value and with the sign s, is rounded to the word r.
pub record Rounded (f : Format) (s : Bool) (n d r : ℕ) : Type 0 where
  pub word : r < 2 * top f
  pub sign : negative f r ≡ s
  pub finite : n < past f * d → Finite f r
  pub nearest : n < past f * d → (v : ℕ) → Finite f v → apart (units f r * d) n ≤ apart (units f v * d) n
  pub even : n < past f * d → (v : ℕ) → Finite f v → (units f v ≡ units f r → ⊥) → apart (units f r * d) n ≡ apart (units f v * d) n → r % 2 ≡ 0
  pub outside : past f * d ≤ n → r ≡ infinity f s
