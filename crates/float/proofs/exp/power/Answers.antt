use Rattle.std.proofs.Common.{◌≡◌, ℕ, ◌-◌, ◌^◌, Bool, true, false, cond, ltb, ltb-true, ltb-false, ℤ, pos, negsuc, ◌+ℤ◌, min, refl, ap, arith, w32, to_z, of_z, rules}
use Rattle.std.specs.Int.{saturate_signed}
use Rattle.float.specs.Exp.{clipped, power_word}
use Rattle.float.proofs.exp.power.Goals as goal

-- past either end the language's own sum stays at that end
not_above : (n : ℕ) (t : Bool) → ltb (2 ^ 31 - 1) n ≡ t → pos (min n (2 ^ 31 - 1)) ≡ cond t (pos (2 ^ 31 - 1)) (pos n)
not_above n true e = ap pos (omega (arith, ltb-true (2 ^ 31 - 1) n e))
not_above n false e = ap pos (omega (arith, ltb-false (2 ^ 31 - 1) n e))

not_below : (n : ℕ) (t : Bool) → ltb (2 ^ 31 - 1) n ≡ t → negsuc (min n (2 ^ 31 - 1)) ≡ cond t (negsuc (2 ^ 31 - 1)) (negsuc n)
not_below n true e = ap negsuc (omega (arith, ltb-true (2 ^ 31 - 1) n e))
not_below n false e = ap negsuc (omega (arith, ltb-false (2 ^ 31 - 1) n e))

kept : (z : ℤ) → saturate_signed w32 z ≡ clipped z
kept (pos n) = not_above n (ltb (2 ^ 31 - 1) n) refl
kept (negsuc n) = not_below n (ltb (2 ^ 31 - 1) n) refl

pub returns : goal.returns
unfolding power_word
returns c = search (rules, kept (to_z w32 (of_z w32 c.extract_exponent_value.result) +ℤ to_z w32 (of_z w32 c.to_i32-whole.result)))
