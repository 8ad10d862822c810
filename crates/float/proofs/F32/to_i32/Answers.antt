-- Up to 2 ^ 31 the whole part is one shift of the significand.
use Rattle.std.proofs.Common.{◌≡◌, ℕ, ◌+◌, ◌-◌, ◌*◌, ◌/◌, ◌%◌, ◌^◌, ◌<◌, ◌≤◌, min, Bool, true, false, cond, pos, neg_ℤ, sym, ap, ◌∙◌, subst, w32}
use lib.Ieee.{binary32}
use mir.Facts.{to_z_pos}
use Rattle.format.specs.Fields.{negative, exponent}
use Rattle.format.proofs.Cast.{Casts, shifted_lt, range_casts}
use Rattle.float.proofs.Twos.{negated}
use Rattle.float.proofs.F32.to_i32.Goals as goal

-- the whole part as the code forms it, by the count of places that it found
abbrev part : ℕ → ℕ → ℕ
part w k = (2 ^ 23 + w % 2 ^ 23) * 2 ^ 8 / 2 ^ k

-- below 2 ^ 31, and what is cast but for the sign
record Whole (w n : ℕ) : Type 0 where
  pub below : n < 2 ^ 31
  pub casts : (s : Bool) → negative binary32 w ≡ s → Casts w (cond s (neg_ℤ (pos n)) (pos n))

whole : (w x k : ℕ) → x ≡ exponent binary32 w → x ≤ 157 → k ≡ min (158 - x) 63 → Whole w (part w k)
whole w x k e h m =
    let here : exponent binary32 w ≤ 157 = subst (λ (y : ℕ). y ≤ 157) e h in
    subst (λ (j : ℕ). Whole w (part w j)) (sym (m ∙ ap (λ (y : ℕ). min (158 - y) 63) e))
    (record { below = shifted_lt w here; casts = λ s d. rw d at (range_casts w here) })

pub overflow_cast-whole-2 : goal.overflow_cast-whole-2
overflow_cast-whole-2 c = record { sfits = (whole _ _ _ c.extract_exponent_bits-exponent.ensures c.if-exponent.false c.min.ensures).below }

pub overflow_sub-result : goal.overflow_sub-result
overflow_sub-result c = (negated _ (whole _ _ _ c.extract_exponent_bits-exponent.ensures c.if-exponent.false c.min.ensures).below).subs

pub returns-then-is_sign_negative : goal.returns-then-is_sign_negative
returns-then-is_sign_negative c =
    let n = whole _ _ _ c.extract_exponent_bits-exponent.ensures c.if-exponent.false c.min.ensures in
    (negated _ n.below).is ∙ sym (n.casts true (sym c.is_sign_negative.ensures ∙ c.if-is_sign_negative.true))

pub returns-else-is_sign_negative : goal.returns-else-is_sign_negative
returns-else-is_sign_negative c =
    let n = whole _ _ _ c.extract_exponent_bits-exponent.ensures c.if-exponent.false c.min.ensures in
    to_z_pos w32 n.below ∙ sym (n.casts false (sym c.is_sign_negative.ensures ∙ c.if-is_sign_negative.false))
