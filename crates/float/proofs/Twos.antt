-- A 32-bit integer and its word in two's complement: each step that the casts take is defined and gives what it should. Assumes nothing.
use Rattle.std.proofs.Common.{◌≡◌, ℕ, zero, suc, ◌^◌, ◌<◌, ℤ, pos, ◌-ℤ◌, neg_ℤ, sym, ap, ◌∙◌, subst, arith, to_z-of_z, w32, SFits, to_z, of_z}
use lib.IntN.{+ℤ_idl}
use mir.Facts.{to_z_pos}

-- an integer written as its word and read back
abbrev back : ℤ → ℤ
back z = to_z w32 (of_z w32 z)

-- a whole number below 2 ^ 31, negated
pub record Negated (n : ℕ) : Type 0 where
  pub subs : SFits w32 (pos 0 -ℤ to_z w32 n)
  pub is : back (pos 0 -ℤ to_z w32 n) ≡ neg_ℤ (pos n)

negated_fits : (n : ℕ) → n < 2 ^ 31 → SFits w32 (neg_ℤ (pos n))
negated_fits zero h = record { sfits = omega arith }
negated_fits (suc n) h = record { sfits = omega arith }

pub negated : (n : ℕ) → n < 2 ^ 31 → Negated n
negated n h =
    let e : pos 0 -ℤ to_z w32 n ≡ neg_ℤ (pos n) = ap (λ (y : ℤ). pos 0 -ℤ y) (to_z_pos w32 h) ∙ +ℤ_idl (neg_ℤ (pos n)) in
    record { subs = subst (SFits w32) (sym e) (negated_fits n h); is = ap back e ∙ to_z-of_z (negated_fits n h) }
