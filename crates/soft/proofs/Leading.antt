-- A number moved up until it has so many digits, by how many zeros lead it in 64. Assumes nothing.
use Prim.Native.Nat.{ℕ, suc, ◌+◌, ◌-◌, ◌*◌, ◌%◌, ◌^◌, ◌≤◌, ◌<◌}
use native.Mathlib.Nat.{le_trans, lt_of_lt_of_le, lt_of_not-le, not-le_of_lt, mul_comm, mul-le-mul_right, mul-lt-mul_of_pos_right, mod-eq_of_lt}
use native.Mathlib.Omega.{arith}
use mathlib.Core.Path.{◌≡◌, sym, ap, subst, ◌∙◌}
use lib.Count.{count_leading_zeros, leading_top}
use lib.Pow.{pow_pos, pow-add, pow_mono}

-- a number of k digits or fewer has as many zeros in front
pub leads : (x k : ℕ) → 0 < x → x < 2 ^ k → k ≤ 64 → 64 ≤ count_leading_zeros 64 x + k
leads x k P h K =
    let t = leading_top 64 x P (lt_of_lt_of_le h (pow_mono K)) in
    let a : t.0 < k = lt_of_not-le (λ (g : k ≤ t.0). not-le_of_lt h (le_trans (pow_mono g) t.2)) in
    omega (arith, t.1, a)

-- moved up by so many places, it has e digits and one, and nothing of it is lost
pub record Led (e x free : ℕ) : Type 0 where
  pub few : free ≤ e
  pub exact : x * 2 ^ free % 2 ^ 64 ≡ x * 2 ^ free
  pub low : 2 ^ e ≤ x * 2 ^ free
  pub high : x * 2 ^ free < 2 ^ suc e

pub led : (c e x : ℕ) → c + suc e ≡ 64 → 0 < x → x < 2 ^ suc e → Led e x (count_leading_zeros 64 x - c)
led c e x w P h =
    let k : suc e ≤ 64 = omega arith in
    let l = leads x (suc e) P h k in
    let t = leading_top 64 x P (lt_of_lt_of_le h (pow_mono k)) in
    let j = t.0 in
    let free = count_leading_zeros 64 x - c in
    let s : free + j ≡ e = omega (arith, t.1, l, w) in
    let up : (i : ℕ) → 2 ^ i * 2 ^ free ≡ 2 ^ (free + i) = λ i. mul_comm (2 ^ i) (2 ^ free) ∙ sym (pow-add 2 free i) in
    let hi : x * 2 ^ free < 2 ^ suc e = subst (λ (z : ℕ). x * 2 ^ free < z) (up (suc j) ∙ ap (λ (z : ℕ). 2 ^ z) (let i : free + suc j ≡ suc e = omega (arith, s) in i)) (mul-lt-mul_of_pos_right t.3 (pow_pos free)) in
    record {
      few = omega (arith, s);
      exact = mod-eq_of_lt (lt_of_lt_of_le hi (pow_mono k));
      low = subst (λ (z : ℕ). z ≤ x * 2 ^ free) (up j ∙ ap (λ (z : ℕ). 2 ^ z) s) (mul-le-mul_right (2 ^ free) t.2);
      high = hi;
    }
