-- What holds of every guarded call. `GivesAfter p n w r` is what each promises of its answer r: `Guards op a b r` for an operation by name,
-- `GuardsByNumber op a b r` by number, and the same with atan_norm's word. How many products were formed is in Counts. Assumes nothing.
use Prim.Native.Nat.{ℕ, zero, suc, ◌^◌, ◌<◌}
use native.Mathlib.Nat.{lt_of_lt_of_le}
use native.Mathlib.Omega.{arith}
use mathlib.Core.Path.{◌≡◌, refl, sym, ap, subst, ◌∙◌}
use mathlib.Core.Bool.{Bool, true, false, cond, ◌&&◌}
use mathlib.Core.List.{List, ◌∷◌, ◌++◌}
use borrow.Author.Tests.{ne_eqb, eqb-true}
use lib.Dec.{eqb, lit<}
use lib.Ieee.{binary32, is_nan, nan_bits}
use Rattle.std.specs.Prelude.{Ok}
use lib.Ieee.Bits.{nan_bits_is}
use Rattle.format.specs.Fields.{magnitude}
use Rattle.format.specs.Classes.{is_endless, is_zero}
use Rattle.format.specs.First.{Refusal, holds}
use Rattle.format.proofs.First.{NoneHolds}
use Rattle.format.proofs.Classes.{zero_not_endless, zero_not_small, zero_not_below}
use Rattle.format.proofs.Fields.{magnitude_lt}
use Rattle.float.specs.DivEuclid.{quotient_word}
use Rattle.sizes.proofs.Euclid.{zero_divisor_is_outside}
use Rattle.raw.specs.Raw.{Kernel, none, one, two, kernels, kernel_of, operands_of, raw_of}
use Rattle.guard.specs.declared.Value.{Value}
use Rattle.guard.specs.Operations.{op_sqrt, op_rem_euclid, op_div_euclid}
use Rattle.guard.specs.Gates.{gate_of, passes, judged}
use Rattle.guard.specs.Refusals.{refusals, refusal_behind, refusal_of}
use Rattle.refusals.specs.Given.{refusal_given, Answered, given}
use Rattle.guard.specs.Guarded.{Answer, word_of, value_after, given_after, GivesAfter, value_of, products_at, Guards, refusal_by_number, GuardsByNumber}
use Rattle.guard.proofs.Each.{Each, done, ◌⨟◌, of_each}
use Rattle.guard.proofs.First.{first_given, none_given, none_holds}
use Rattle.guard.proofs.Gives.{answered_none, none_answered, answered_word}
use Rattle.guard.proofs.Open.{outside}
use Rattle.guard.proofs.NoNan.{no_nan}

-- ---- any call

module _ {p : ℕ} (n w : ℕ) (r : Answer) (g : GivesAfter p n w r) where
  -- a refused call's word is zero
  pub refused_word_is_zero : (Answered r → ⊥) → word_of r ≡ 0
  refused_word_is_zero h = g.word ∙ rw (ne_eqb n 0 (λ e. h (none_answered g e)))

  taken_out : (n : ℕ) (x y : Value) → given n x ≡ Ok y → (n ≡ 0) × (x ≡ y)
  taken_out zero x y e = (refl, cc)
  taken_out (suc n) x y e = absurd (subst Answered (sym e) tt)

  -- no answered value is a NaN, where its word is none
  pub never_a_nan_of : (n ≡ 0 → nan_bits binary32 w ≡ false) → (v : Value) → r ≡ Ok v → is_nan v.number ≡ false
  never_a_nan_of h v e =
      let t = taken_out n (value_after p w) v (sym g.answer ∙ e) in
      ap (λ (u : Value). is_nan u.number) (sym t.1) ∙ sym (nan_bits_is binary32 w) ∙ h t.0

-- ---- every operation

module _ (op a b : ℕ) (r : Answer) (g : Guards op a b r) where
  -- an answered call's value is the raw word, but for sqrt's of a zero
  pub value_is_raw : (op ≡ op_sqrt → is_zero binary32 a ≡ true → ⊥) → Answered r → word_of r ≡ raw_of (kernel_of op) a b
  value_is_raw n h = answered_word g h ∙ ap (λ (t : Bool). cond t a (raw_of (kernel_of op) a b)) (not_both (eqb op op_sqrt) (is_zero binary32 a) (λ e z. n (eqb-true op op_sqrt e) z))
    where
      not_both : (s t : Bool) → (s ≡ true → t ≡ true → ⊥) → (s && t) ≡ false
      not_both true true k = absurd (k refl refl)
      not_both true false k = refl
      not_both false t k = refl

  -- the refusal is the first of the table that holds, and there is an answer exactly where none does
  pub refusal_is_first : (before : List Refusal) (f : Refusal) (after : List Refusal) → refusals (gate_of op) ≡ before ++ (f ∷ after) → NoneHolds before op a b → holds f op a b ≡ true
      → refusal_given r ≡ f.number
  refusal_is_first before f after e n h = g.refusal ∙ first_given op a b before f after e n h

  pub answered_where_none_holds : NoneHolds (refusals (gate_of op)) op a b → Answered r
  answered_where_none_holds n = none_answered g (none_given op a b n)

  pub none_holds_where_answered : Answered r → NoneHolds (refusals (gate_of op)) op a b
  none_holds_where_answered h = none_holds op a b (answered_none g h)

  -- no answered value is a NaN
  pub never_a_nan : a < 2 ^ 32 → b < 2 ^ 32 → (v : Value) → r ≡ Ok v → is_nan v.number ≡ false
  never_a_nan h k = never_a_nan_of (refusal_of op a b) (value_of op a b) r g (no_nan op a b h k)

-- no refusal of sqrt holds of a zero
pub zero_passes : (a b : ℕ) → is_zero binary32 a ≡ true → refusal_of op_sqrt a b ≡ 0
unfolding judged
zero_passes a b z =
    none_given op_sqrt a b
    (zero_not_endless binary32 a z, (refl, (refl, (zero_not_small binary32 a z, (zero_not_below binary32 a z, (rw (eqb-true (magnitude binary32 a) 0 z), (refl, tt)))))))

-- guarded sqrt of a zero is answered with that zero, whichever sign it has
pub zero_is_its_own_root : (a b : ℕ) (r : Answer) → is_zero binary32 a ≡ true → Guards op_sqrt a b r → Answered r × (word_of r ≡ a)
zero_is_its_own_root a b r z g = let h = none_answered g (zero_passes a b z) in (h, answered_word g h ∙ rw z)

-- ---- by number

-- a number that has a kernel gives what the call of that name gives
by_kernel : (op a b : ℕ) → eqb (operands_of (kernel_of op)) 0 ≡ false → refusal_by_number op a b ≡ refusal_of op a b
by_kernel op a b k = ap (λ (t : Bool). cond t 6 (refusal_of op a b)) k

pub by_number : (op a b : ℕ) (r s : Answer) → eqb (operands_of (kernel_of op)) 0 ≡ false → Guards op a b r → GuardsByNumber op a b s → s ≡ r
by_number op a b r s k g n = n.answer ∙ ap (λ (m : ℕ). given_after (products_at op a b) m (value_of op a b)) (by_kernel op a b k) ∙ sym g.answer

-- one that has none is refused with 6 and the zero word
pub unknown_is_refused : (op a b : ℕ) (r : Answer) → kernel_of op ≡ none → GuardsByNumber op a b r → (refusal_given r ≡ 6) × (word_of r ≡ 0)
unknown_is_refused op a b r e g =
    let six : refusal_by_number op a b ≡ 6 = ap (λ (k : Kernel). cond (eqb (operands_of k) 0) 6 (refusal_of op a b)) e in
    (g.refusal ∙ six, g.word ∙ ap (λ (m : ℕ). cond (eqb m 0) (value_of op a b) 0) six)

-- ---- an operation of one operand does not look at the second word

not_one : {A : Type 0} → (k : ℕ) → suc (suc k) ≡ 1 → A
not_one k e = absurd (let z : ⊥ = omega arith in z)

abbrev Ignores : ℕ → Kernel → Type 0
Ignores op k = operands_of k ≡ 1 → (a b : ℕ) → refusal_of op a b ≡ refusal_of op a 0

nothing : (op : ℕ) → Ignores op none
nothing op e a b = absurd (let z : ⊥ = omega arith in z)

ignored : Each Ignores 0 kernels
unfolding refusal_behind judged
ignored =
    nothing 0
    ⨟ (λ e a b. refl)
    ⨟ (λ e a b. refl)
    ⨟ (λ e a b. refl)
    ⨟ (λ e a b. refl)
    ⨟ (λ e a b. refl)
    ⨟ (λ e a b. refl)
    ⨟ (λ e a b. not_one 0 e)
    ⨟ (λ e a b. refl)
    ⨟ (λ e a b. refl)
    ⨟ (λ e a b. refl)
    ⨟ (λ e a b. refl)
    ⨟ (λ e a b. refl)
    ⨟ (λ e a b. refl)
    ⨟ (λ e a b. refl)
    ⨟ (λ e a b. not_one 0 e)
    ⨟ (λ e a b. not_one 0 e)
    ⨟ (λ e a b. refl)
    ⨟ (λ e a b. not_one 0 e)
    ⨟ (λ e a b. refl)
    ⨟ (λ e a b. refl)
    ⨟ (λ e a b. not_one 0 e)
    ⨟ (λ e a b. refl)
    ⨟ (λ e a b. refl)
    ⨟ (λ e a b. refl)
    ⨟ (λ e a b. not_one 0 e)
    ⨟ (λ e a b. not_one 0 e)
    ⨟ done

pub one_word : (k : Kernel) (a b : ℕ) → operands_of k ≡ 1 → raw_of k a b ≡ raw_of k a 0
one_word none a b e = refl
one_word (one f) a b e = refl
one_word (two f) a b e = not_one 0 e

pub second_word_is_ignored : (op a b : ℕ) → operands_of (kernel_of op) ≡ 1 → (refusal_of op a b ≡ refusal_of op a 0) × (value_of op a b ≡ value_of op a 0)
second_word_is_ignored op a b e = (of_each Ignores nothing ignored op e a b, ap (cond (eqb op op_sqrt && is_zero binary32 a) a) (one_word (kernel_of op) a b e))

-- ---- a divisor that is a zero is outside the gate of both euclids

quotient_outside : (a b : ℕ) → is_zero binary32 b ≡ true → passes (gate_of op_div_euclid) (magnitude binary32 (quotient_word a b)) ≡ false
quotient_outside a b z =
    outside (gate_of op_div_euclid) (magnitude binary32 (quotient_word a b)) refl (magnitude_lt binary32 (quotient_word a b))
    (lt_of_lt_of_le {n = 0x4aff_ffff} {m = 0x7f80_0000} (lit< tt) (zero_divisor_is_outside a b (eqb-true _ 0 z)))

pub zero_divisor_is_refused : (a b : ℕ) → is_endless binary32 a ≡ false → is_zero binary32 b ≡ true → (refusal_of op_rem_euclid a b ≡ 4) × (refusal_of op_div_euclid a b ≡ 4)
unfolding refusal_behind judged
zero_divisor_is_refused a b h z = let n = zero_not_endless binary32 b z in (rw (h, n, quotient_outside a b z), rw (h, n, quotient_outside a b z))
