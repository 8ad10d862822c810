-- Long division, eight binary digits at a time: the digits that come next, and what is then left, are those of what was left before. Assumes nothing.
use Prim.Native.Nat.{ℕ, ◌+◌, ◌*◌, ◌/◌, ◌%◌, ◌^◌, ◌≤◌, ◌<◌}
use native.Mathlib.Nat.{lt_of_le_of_lt, mul_assoc, mul-le-mul_left, mul-lt-mul_of_pos_right, div-add-mod', div-le_self, mul-add-div_right, mul-add-mod_self_right}
use native.Mathlib.Omega.{arith}
use mathlib.Core.Path.{◌≡◌, sym, ap, ◌∙◌}
use lib.Dec.{lit<}
use lib.Pow.{pow-add, pow_mono}

module _ (n b : ℕ) where
  parts : n * 256 ≡ n / b * 256 * b + n % b * 256
  parts = omega (arith, div-add-mod' n b)

  pub next_left : n * 256 % b ≡ n % b * 256 % b
  next_left = ap (λ (z : ℕ). z % b) parts ∙ mul-add-mod_self_right (n / b * 256) b (n % b * 256)

  pub next_digits : 0 < b → n * 256 / b ≡ n / b * 256 + n % b * 256 / b
  next_digits B = ap (λ (z : ℕ). z / b) parts ∙ mul-add-div_right B (n / b * 256) (n % b * 256)

-- n over b after so many turns: the quotient by then, and what is left
pub record Turned (n b turn whole rest : ℕ) : Type 0 where
  pub few : turn ≤ 4
  pub digits : whole ≡ n * 2 ^ (8 * turn) / b
  pub left : rest ≡ n * 2 ^ (8 * turn) % b

module _ (n b turn whole rest : ℕ) (h : Turned n b turn whole rest) (l : turn < 4) (B : 0 < b) where
  more : n * 2 ^ (8 * turn) * 256 ≡ n * 2 ^ (8 * (turn + 1))
  more = mul_assoc n (2 ^ (8 * turn)) 256 ∙ ap (λ (z : ℕ). n * z) (sym (pow-add 2 (8 * turn) 8) ∙ ap (λ (z : ℕ). 2 ^ z) (let e : 8 * turn + 8 ≡ 8 * (turn + 1) = omega arith in e))

  longer : whole * 256 + rest * 256 / b ≡ n * 2 ^ (8 * (turn + 1)) / b
  longer =
      ap (λ (z : ℕ). z * 256 + rest * 256 / b) h.digits
      ∙ ap (λ (z : ℕ). n * 2 ^ (8 * turn) / b * 256 + z * 256 / b) h.left
      ∙ sym (next_digits (n * 2 ^ (8 * turn)) b B)
      ∙ ap (λ (z : ℕ). z / b) more

  pub turned : Turned n b (turn + 1) (whole * 256 + rest * 256 / b) (rest * 256 % b)
  turned = record {
    few = omega arith;
    digits = longer;
    left = ap (λ (z : ℕ). z * 256 % b) h.left ∙ sym (next_left (n * 2 ^ (8 * turn)) b) ∙ ap (λ (z : ℕ). z % b) more;
  }

  pub room : n < 2 ^ 32 → whole * 256 + rest * 256 / b < 2 ^ 64
  room N =
      let k : 8 * (turn + 1) ≤ 32 = omega arith in
      rw longer (lt_of_le_of_lt (div-le_self (n * 2 ^ (8 * (turn + 1))) b) (lt_of_le_of_lt (mul-le-mul_left n (pow_mono k)) (mul-lt-mul_of_pos_right N (lit< tt))))
