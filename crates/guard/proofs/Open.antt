-- What is known of the operands of an operation that is not refused: none of the refusals holds, and what that says of the gate. Assumes
-- nothing.
use Prim.Native.Nat.{ℕ, ◌≤◌, ◌<◌}
use native.Mathlib.Nat.{lt_irrefl, lt_of_le_of_lt}
use native.Mathlib.Omega.{arith}
use mathlib.Core.Path.{◌≡◌, refl, sym, ap, ◌∙◌}
use mathlib.Core.Logic.{◌⊎◌, inl, inr}
use mathlib.Core.Bool.{Bool, true, false, ◌&&◌, ◌||◌, false≢true}
use mathlib.Core.List.{[], ◌∷◌}
use borrow.Author.Tests.{leb-true, lt-leb, ltb-true, eqb-true, eqb-false, not-false}
use lib.Dec.{leb, ltb, eqb}
use lib.Ieee.{binary32, top, unlike}
use Rattle.format.specs.Classes.{is_endless, is_zero, is_small, is_below_zero}
use Rattle.format.specs.First.{among}
use Rattle.guard.specs.declared.gate.Gate.{Gate}
use Rattle.guard.specs.Operations.{op_powi}
use Rattle.guard.specs.Gates.{low, high, other, gate_of, judged, place, within, passes}
use Rattle.guard.specs.Refusals.{is_past_power, two_floats, refuses_zero, refuses_small, refuses_sign, refusal_of}
use Rattle.guard.proofs.First.{none_holds}

-- ---- none of the refusals holds

pub record Open (op a b : ℕ) : Type 0 where
  pub first : is_endless binary32 a ≡ false
  pub second : (two_floats op && is_endless binary32 b) ≡ false
  pub zero : (refuses_zero op && is_zero binary32 a) ≡ false
  pub small : (refuses_small op && is_small binary32 a) ≡ false
  pub sign : (refuses_sign op && is_below_zero binary32 a) ≡ false
  pub gate : passes (gate_of op) (judged op a b) ≡ true
  pub power : (among (op_powi ∷ []) op && is_past_power b) ≡ false

pub opened : (op a b : ℕ) → refusal_of op a b ≡ 0 → Open op a b
opened op a b e =
    let n = none_holds op a b e in
    record {
      first = n.0;
      second = n.1.0;
      zero = n.1.1.0;
      small = n.1.1.1.0;
      sign = n.1.1.1.1.0;
      gate = not-false _ n.1.1.1.1.1.0;
      power = n.1.1.1.1.1.1.0;
    }

-- ---- the gate of a word whose sign is clear

-- two tests that part: one holds and the other does not
pub parted : (p q : Bool) → unlike p q ≡ true → ((p ≡ true) × (q ≡ false)) ⊎ ((p ≡ false) × (q ≡ true))
parted true true e = absurd (false≢true e)
parted true false e = inl (refl, refl)
parted false true e = inr (refl, refl)
parted false false e = absurd (false≢true e)

pub record Between (g : Gate) (w : ℕ) : Type 0 where
  pub low : low g ≤ w
  pub high : w ≤ high g
  pub clear : w ≡ other g → ⊥

pub both : (p q : Bool) → (p && q) ≡ true → (p ≡ true) × (q ≡ true)
both true q e = (refl, e)
both false q e = absurd (false≢true e)

one_of : (p q : Bool) → (p || q) ≡ true → (p ≡ true) ⊎ (q ≡ true)
one_of true q e = inl refl
one_of false q e = inr e

-- the magnitudes that pass: between the ends, or outside them the row's other word
pub between_or : (g : Gate) (w : ℕ) → low g < top binary32 → high g < top binary32 → w < top binary32 → passes g w ≡ true
    → Between g w ⊎ ((within g w ≡ false) × (w ≡ other g))
between_or g w l h k e = go (parted (within g w) (eqb w (other g)) e)
  where
    inside : within g w ≡ true → eqb w (other g) ≡ false → Between g w
    inside p n =
        let q = both _ _ p in
        record {
          low = let x = rw (lt-leb (top binary32) (low g) l, lt-leb (top binary32) w k) at (leb-true (place (low g)) (place w) q.0) in omega arith;
          high = let x = rw (lt-leb (top binary32) w k, lt-leb (top binary32) (high g) h) at (leb-true (place w) (place (high g)) q.1) in omega arith;
          clear = eqb-false _ _ n;
        }

    go : ((within g w ≡ true) × (eqb w (other g) ≡ false)) ⊎ ((within g w ≡ false) × (eqb w (other g) ≡ true)) → Between g w ⊎ ((within g w ≡ false) × (w ≡ other g))
    go (inl p) = inl (inside p.0 p.1)
    go (inr p) = inr (p.0, eqb-true _ _ p.1)

-- a row whose ends are magnitudes, and whose other word is none or lies between them: a test on its words, `refl` where they are written out
abbrev pub plain : Gate → Bool
plain g = (ltb (low g) (top binary32) && ltb (high g) (top binary32)) && (leb (top binary32) (other g) || within g (other g))

pub between : (g : Gate) (w : ℕ) → plain g ≡ true → w < top binary32 → passes g w ≡ true → Between g w
between g w t k e = go (between_or g w (ltb-true _ _ q.0) (ltb-true _ _ q.1) k e) (one_of (leb (top binary32) (other g)) (within g (other g)) p.1)
  where
    p : ((ltb (low g) (top binary32) && ltb (high g) (top binary32)) ≡ true) × ((leb (top binary32) (other g) || within g (other g)) ≡ true)
    p = both (ltb (low g) (top binary32) && ltb (high g) (top binary32)) (leb (top binary32) (other g) || within g (other g)) t

    q : (ltb (low g) (top binary32) ≡ true) × (ltb (high g) (top binary32) ≡ true)
    q = both (ltb (low g) (top binary32)) (ltb (high g) (top binary32)) p.0

    go : Between g w ⊎ ((within g w ≡ false) × (w ≡ other g)) → (leb (top binary32) (other g) ≡ true) ⊎ (within g (other g) ≡ true) → Between g w
    go (inl b) n = b
    go (inr d) (inl n) = absurd (let l = leb-true (top binary32) (other g) n in let z : ⊥ = omega (arith, d.1) in z)
    go (inr d) (inr n) = absurd (false≢true (sym d.0 ∙ ap (within g) d.1 ∙ n))

-- past the high end of such a row none passes
pub outside : (g : Gate) (w : ℕ) → plain g ≡ true → w < top binary32 → high g < w → passes g w ≡ false
outside g w t k h = go (passes g w) refl
  where
    go : (b : Bool) → passes g w ≡ b → b ≡ false
    go true e = absurd (lt_irrefl w (lt_of_le_of_lt (between g w t k e).high h))
    go false e = refl
