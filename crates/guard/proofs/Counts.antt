-- How many products an answer took, read at the record that all guarded calls share: none beside a refusal, none but from powi, none where
-- powi answers early, else one at least, and never more than 39. Assumes nothing.
use Prim.Native.Nat.{ℕ, ◌^◌, ◌≤◌}
use native.Mathlib.Omega.{arith}
use mathlib.Core.Path.{◌≡◌, refl, sym, ap, subst, ◌∙◌}
use mathlib.Core.Bool.{Bool, true, false, cond}
use mathlib.Core.List.{List, [], ◌∷◌}
use mathlib.Core.Option.{none, some}
use borrow.Author.Tests.{ne_eqb, eqb-true, ltb-false}
use lib.Dec.{eqb}
use lib.IntN.{nat_abs}
use lib.Ieee.{add, sub, mul, div, lt, le, eq, nan_bits, of_bits, to_bits, of_int, to_signed}
use mir.Syntax.{w32}
use mir.Val.{to_z}
use Rattle.float.specs.Ln.{polynomial, logarithm, ln_word}
use Rattle.float.specs.Powi.{works, early, products_of}
use Rattle.float.proofs.Products.{early_takes_none, squaring_takes_one, takes_at_most_39, power_0_takes_none}
use Rattle.float.proofs.Rows.{Row, ◌gives◌, agree}
use Rattle.raw.specs.Raw.{kernel_of, operands_of}
use Rattle.guard.specs.Operations.{op_ln, op_powi, op_powf}
use Rattle.guard.specs.Gates.{judged}
use Rattle.guard.specs.Refusals.{refusal_behind, refusal_of}
use Rattle.refusals.specs.Given.{Answered}
use Rattle.guard.specs.Guarded.{Answer, products_in, GivesAfter, Gives, products_at, products_given, Guards, refusal_by_number, GuardsByNumber}
use Rattle.guard.proofs.Gives.{none_answered, answered_count}
use Rattle.guard.proofs.Open.{opened}

-- ---- any call

module _ {p : ℕ} (n w : ℕ) (r : Answer) (g : GivesAfter p n w r) where
  -- a refused call counts none, whatever was worked out before it was known
  pub refused_counts_none : (Answered r → ⊥) → products_in r ≡ 0
  refused_counts_none h = g.count ∙ rw (ne_eqb n 0 (λ e. h (none_answered g e)))

  -- what a call may have formed at most, it counts at most
  at_most : (k : ℕ) → (n ≡ 0 → p ≤ k) → products_in r ≤ k
  at_most k h = subst (λ (c : ℕ). c ≤ k) (sym g.count) (go (eqb n 0) refl)
    where
      go : (t : Bool) → eqb n 0 ≡ t → cond t p 0 ≤ k
      go true e = h (eqb-true n 0 e)
      go false e = omega arith

  -- a call that forms none counts none
  none_formed : p ≡ 0 → products_in r ≡ 0
  none_formed e = g.count ∙ ap (cond (eqb n 0) p) (sym e) ∙ same (eqb n 0) ∙ e
    where
      same : (t : Bool) → cond t p p ≡ p
      same true = refl
      same false = refl

-- so each call that is stated with no product, as atan_norm is
pub gives_counts_none : (n w : ℕ) (r : Answer) → Gives n w r → products_in r ≡ 0
gives_counts_none n w r g = none_formed n w r g refl

-- ---- every operation

module _ (op a b : ℕ) where
  -- powi alone forms any
  pub powi_alone : (op ≡ op_powi → ⊥) → products_at op a b ≡ 0
  powi_alone n = rw (ne_eqb op op_powi n)

  -- 39 at most, since the gate takes no power past 2 ^ 20
  within_gate : refusal_of op a b ≡ 0 → products_at op a b ≤ 39
  within_gate e = go (eqb op op_powi) refl
    where
      power : op ≡ op_powi → nat_abs (to_z w32 b) ≤ 2 ^ 20
      power q = ltb-false _ _ (let z = (opened op a b e).power in rw q at z)

      go : (t : Bool) → eqb op op_powi ≡ t → cond t (products_of a (to_z w32 b)) 0 ≤ 39
      go true q = takes_at_most_39 a (to_z w32 b) (power (eqb-true op op_powi q))
      go false q = omega arith

  not_6 : (t : Bool) (m : ℕ) → cond t 6 m ≡ 0 → m ≡ 0
  not_6 true m e = absurd (let z : ⊥ = omega arith in z)
  not_6 false m e = e

  behind : refusal_by_number op a b ≡ 0 → refusal_of op a b ≡ 0
  behind e = not_6 (eqb (operands_of (kernel_of op)) 0) (refusal_of op a b) e

  module _ (r : Answer) (g : Guards op a b r) where
    pub at_most_39_products : products_in r ≤ 39
    at_most_39_products = at_most _ _ r g 39 within_gate

    pub others_count_none : (op ≡ op_powi → ⊥) → products_in r ≡ 0
    others_count_none n = none_formed _ _ r g (powi_alone n)

  module _ (r : Answer) (g : GuardsByNumber op a b r) where
    pub at_most_39_by_number : products_in r ≤ 39
    at_most_39_by_number = at_most _ _ r g 39 (λ e. within_gate (behind e))

    pub others_count_none_by_number : (op ≡ op_powi → ⊥) → products_in r ≡ 0
    others_count_none_by_number n = none_formed _ _ r g (powi_alone n)

-- ---- powi: none exactly where none is formed

module _ (a b : ℕ) (r : Answer) (g : Guards op_powi a b r) where
  -- an early answer counts none
  pub early_counts_none : (v : ℕ) → early a (to_z w32 b) ≡ some v → products_in r ≡ 0
  early_counts_none v e = none_formed _ _ r g (early_takes_none a (to_z w32 b) v e).0

  -- every other answer counts one at least
  pub squaring_counts_one : Answered r → early a (to_z w32 b) ≡ none → 1 ≤ products_in r
  squaring_counts_one h e = rw (answered_count g h) (squaring_takes_one a (to_z w32 b) e)

-- to the power 0 it counts none, which is answered early
pub power_0_counts_none : (a : ℕ) (r : Answer) → Guards op_powi a 0 r → products_in r ≡ 0
power_0_counts_none a r g = none_formed _ _ r g (power_0_takes_none a)

-- ---- known counts: both sides of each test, and each refusal of powi

abbrev pub rows : List Row
rows =
    products_given op_powi 0x3f80_0000 0x0000_0000 gives 0
    ∷ products_given op_powi 0x3f80_0000 0x0000_0001 gives 1
    ∷ products_given op_powi 0x3f80_0000 0xffff_ffff gives 1
    ∷ products_given op_powi 0xc040_0000 0x0000_0003 gives 3
    -- given up early, and not yet
    ∷ products_given op_powi 0x4000_0000 0x0000_0080 gives 0
    ∷ products_given op_powi 0x4000_0000 0x0000_007f gives 13
    ∷ products_given op_powi 0x4000_0000 0xffff_ff6a gives 0
    ∷ products_given op_powi 0x4000_0000 0xffff_ff6b gives 11
    -- the most, and both ends of the power
    ∷ products_given op_powi 0x3fff_ffff 0x000f_ffff gives 39
    ∷ products_given op_powi 0xbf00_0000 0xfff0_0001 gives 39
    ∷ products_given op_powi 0x3f80_0000 0x0010_0000 gives 21
    ∷ products_given op_powi 0x3f80_0000 0x0010_0001 gives 0
    ∷ products_given op_powi 0x3f80_0000 0xfff0_0000 gives 21
    ∷ products_given op_powi 0x3f80_0000 0xffef_ffff gives 0
    ∷ products_given op_powi 0x3f80_0000 0x8000_0000 gives 0
    -- refused for the base, where the raw form forms one; and the least base that is taken
    ∷ products_given op_powi 0x0000_0000 0xffff_ffff gives 0
    ∷ products_given op_powi 0x7f80_0000 0xffff_ffff gives 0
    ∷ products_given op_powi 0x007f_ffff 0x0000_0001 gives 0
    ∷ products_given op_powi 0x0080_0000 0x0000_0001 gives 1
    -- the numbers beside powi's
    ∷ products_given op_powf 0x3f80_0000 0x3f80_0000 gives 0
    ∷ products_given op_ln 0x3f80_0000 0x0000_0001 gives 0
    ∷ []

pub known_counts : agree rows ≡ true
unfolding refusal_behind judged polynomial logarithm ln_word works products_of add sub mul div lt le eq nan_bits of_bits to_bits of_int to_signed
known_counts = refl
