-- `frame::nibble` meets its contract: a place of a hexadecimal digit is four binary ones. Assumes nothing.
use Rattle.std.proofs.Common.{ℕ, zero, suc, ◌+◌, ◌-◌, ◌*◌, ◌^◌, ◌≡◌, ◌∙◌, refl, sym, ap, add-one, arith}
use lib.Pow.{pow-add}
use Rattle.frame.proofs.nibble.Goals as goal

sixteens : (k : ℕ) → 2 ^ (4 * k) ≡ 16 ^ k
sixteens zero = refl
sixteens (suc k) =
    ap (λ (m : ℕ). 2 ^ m) (let z : 4 * suc k ≡ 4 * k + 4 = omega arith in z) ∙ pow-add 2 (4 * k) 4 ∙ ap (λ (m : ℕ). m * 16) (sixteens k) ∙ sym (ap (λ (m : ℕ). 16 ^ m) (sym (add-one k)) ∙ pow-add 16 k 1)

pub returns : goal.returns
returns c = rw (sixteens (9 - c.args.i))
