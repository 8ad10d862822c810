-- The number of samples as a divisor, over the format: it is above 0, and at least as large as its own word. And the word of a count of units, for
-- bounds. Assumes nothing.
use Prim.Native.Nat.{ℕ, zero, suc, ◌+◌, ◌*◌, ◌^◌, ◌≤◌, ◌<◌}
use native.Mathlib.Nat.{le_of_eq, lt_of_lt_of_le, mul-one, mul-pos}
use native.Mathlib.Omega.{arith}
use mathlib.Core.Path.{◌≡◌, ap, ◌∙◌}
use mathlib.Core.Bool.{Bool, false}
use lib.IntN.{ℤ, pos}
use lib.Pow.{pow_mono, shl_lt}
use lib.Ieee.{Format, Float, nan, inf, fin, prec, emax, low, up, down, of_int}
use lib.Ieee.Exact.{HasValue}
use lib.Ieee.Fits.{reach, down_pos}
use Rattle.format.specs.Fields.{sign_bit}
use Rattle.format.specs.Parts.{written}
use Rattle.format.proofs.Same.{Counted, counted}
use Rattle.format.proofs.Exact.{whole_value}
use Rattle.sizes.proofs.Size.{AtLeast, round_at_least}

-- ---- a divisor

pub record Divisor (x : Float) : Type 0 where
  pub digits : ℕ
  pub power : ℤ
  pub some : 0 < digits
  pub is : x ≡ fin false digits power

divisor_of : (x : Float) (n : ℕ) → 0 < n → HasValue x false n 1 → Divisor x
divisor_of nan n p v = absurd v
divisor_of (inf s) n p v = absurd v
divisor_of (fin s m e) n p v = record { digits = m; power = e; some = go m v.1; is = ap (λ (t : Bool). fin t m e) v.0 }
  where
    go : (m : ℕ) → m * up e * 1 ≡ n * down e → 0 < m
    go zero h = omega (arith, h, mul-pos p (down_pos e))
    go (suc m) h = omega arith

pub divisor : (f : Format) (n : ℕ) → suc n < 2 ^ prec f → Divisor (of_int f (pos (suc n)))
divisor f n h = divisor_of (of_int f (pos (suc n))) (suc n) (omega arith) (whole_value f (suc n) h)

-- ---- bounds

-- the word of n times 2 ^ j units
abbrev pub times : Format → ℕ → ℕ → ℕ
times f n j = sign_bit f false + written f (n * 2 ^ j)

-- the word of n
pub whole_is : (f : Format) (n : ℕ) → n < 2 ^ prec f → Counted f false (n * 2 ^ low f) (times f n (low f))
whole_is f n h = counted f false n (low f) h (lt_of_lt_of_le (shl_lt (prec f) (low f) h) (pow_mono (let i : prec f + low f ≤ low f + suc (emax f) = omega (arith, reach f) in i)))

pub divisor_reaches : (f : Format) (n : ℕ) → n < 2 ^ prec f → AtLeast f (times f n (low f)) (of_int f (pos n))
unfolding of_int
divisor_reaches f n h =
    let c = whole_is f n h in
    round_at_least f (times f n (low f)) false n 1 c.finite (omega arith) (le_of_eq (mul-one _ ∙ c.count))
