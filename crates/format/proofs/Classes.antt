-- The classes of words as the laws of the kernels have them: what is not endless is finite, what is neither a zero nor small has a normal
-- number's magnitude, and a zero counts no units and is its own square root. Assumes nothing.
use Prim.Native.Nat.{ℕ, ◌≤◌, ◌<◌}
use native.Mathlib.Nat.{mod-eq_of_lt, div-eq_of_lt, div-lt_iff_lt-mul, le_of_suc-le-suc, eq-or-lt_of_le}
use native.Mathlib.Omega.{arith}
use mathlib.Core.Path.{◌≡◌, refl, sym, subst, ◌∙◌}
use mathlib.Core.Logic.{◌⊎◌, inl, inr}
use mathlib.Core.Bool.{Bool, true, false, not, ◌&&◌, true≢false}
use mathlib.Core.List.{List, [], ◌∷◌, map}
use borrow.Author.Tests.{leb-true, leb-false, eqb-true, eqb-false, eq-eqb}
use lib.Dec.{leb, eqb}
use lib.Ieee.{Format, binary32, binary64, hid, ones}
use Rattle.format.specs.Fields.{negative, magnitude, exponent, inf_word}
use Rattle.format.specs.Value.{units, Finite}
use Rattle.format.specs.Classes.{is_endless, is_zero, is_small, is_below_zero}
use Rattle.format.specs.Estimates.{Normal, SqrtBound}
use Rattle.format.proofs.Fields.{hid_pos, exponent_lt}
use Rattle.format.proofs.AtLeastZero.{units_zero}

ones_not_zero : (f : Format) → eqb 0 (ones f) ≡ false
ones_not_zero binary32 = refl
ones_not_zero binary64 = refl

module _ (f : Format) (w : ℕ) where
  pub finite_of : is_endless f w ≡ false → Finite f w
  finite_of n = go (eq-or-lt_of_le (le_of_suc-le-suc (exponent_lt f w)))
    where
      go : (exponent f w ≡ ones f) ⊎ (exponent f w < ones f) → Finite f w
      go (inl e) = absurd (eqb-false _ _ n e)
      go (inr l) = l

  pub under_infinity : Finite f w → magnitude f w < inf_word f
  under_infinity h = (div-lt_iff_lt-mul (hid_pos f)).0 h

  -- neither a zero nor small
  pub above_small : is_zero f w ≡ false → is_small f w ≡ false → hid f ≤ magnitude f w
  above_small z s = go (leb (hid f) (magnitude f w)) refl
    where
      field_zero : exponent f w ≡ 0 → is_small f w ≡ true
      field_zero x = rw (eq-eqb (exponent f w) 0 x, z)

      go : (t : Bool) → leb (hid f) (magnitude f w) ≡ t → hid f ≤ magnitude f w
      go true e = leb-true _ _ e
      go false e = absurd (true≢false (sym (field_zero (div-eq_of_lt (leb-false _ _ e))) ∙ s))

  pub positive : negative f w ≡ false → magnitude f w ≡ w
  positive n = mod-eq_of_lt (leb-false _ _ n)

  -- the sign bit of a number that is neither a zero nor below it
  pub no_sign : is_zero f w ≡ false → is_below_zero f w ≡ false → negative f w ≡ false
  no_sign z b = go (negative f w) (is_zero f w) z b
    where
      go : (s t : Bool) → t ≡ false → (s && not t) ≡ false → s ≡ false
      go true true z b = z
      go true false z b = b
      go false t z b = refl

  pub normal_of : is_endless f w ≡ false → is_zero f w ≡ false → is_small f w ≡ false → is_below_zero f w ≡ false → Normal f w
  normal_of e z s b =
      let m = positive (no_sign z b) in
      record { above = subst (λ (x : ℕ). hid f ≤ x) m (above_small z s); below = subst (λ (x : ℕ). x < inf_word f) m (under_infinity (finite_of e)) }

  -- ---- a zero

  module _ (z : is_zero f w ≡ true) where
    field_of_zero : exponent f w ≡ 0
    field_of_zero = rw (eqb-true (magnitude f w) 0 z) (div-eq_of_lt (hid_pos f))

    pub no_units : units f w ≡ 0
    no_units = eqb-true (units f w) 0 (sym (units_zero f w) ∙ z)

    pub zero_not_endless : is_endless f w ≡ false
    zero_not_endless = rw field_of_zero (ones_not_zero f)

    pub zero_not_small : is_small f w ≡ false
    zero_not_small = rw (field_of_zero, z)

    pub zero_not_below : is_below_zero f w ≡ false
    zero_not_below = rw z (go (negative f w))
      where
        go : (t : Bool) → (t && false) ≡ false
        go true = refl
        go false = refl

    -- the square of a zero is itself
    pub zero_bound : SqrtBound f w w
    zero_bound = record { finite = finite_of zero_not_endless; sign = refl; least = rw no_units (omega arith); most = rw no_units (omega arith) }

-- ---- the classes of the words beside each end, in both formats: both zeros, the first and the last small word, the first and the last
-- normal one, the infinities, and the first and the last NaN

abbrev pub words32 : List ℕ
words32 =
    0x0000_0000 ∷ 0x8000_0000
    ∷ 0x0000_0001 ∷ 0x8000_0001 ∷ 0x007f_ffff ∷ 0x807f_ffff
    ∷ 0x0080_0000 ∷ 0x8080_0000 ∷ 0x7f7f_ffff ∷ 0xff7f_ffff
    ∷ 0x7f80_0000 ∷ 0xff80_0000 ∷ 0x7f80_0001 ∷ 0xff80_0001 ∷ 0x7fff_ffff ∷ 0xffff_ffff ∷ []

abbrev pub words64 : List ℕ
words64 =
    0x0000_0000_0000_0000 ∷ 0x8000_0000_0000_0000
    ∷ 0x0000_0000_0000_0001 ∷ 0x8000_0000_0000_0001 ∷ 0x000f_ffff_ffff_ffff ∷ 0x800f_ffff_ffff_ffff
    ∷ 0x0010_0000_0000_0000 ∷ 0x8010_0000_0000_0000 ∷ 0x7fef_ffff_ffff_ffff ∷ 0xffef_ffff_ffff_ffff
    ∷ 0x7ff0_0000_0000_0000 ∷ 0xfff0_0000_0000_0000 ∷ 0x7ff0_0000_0000_0001 ∷ 0xfff0_0000_0000_0001 ∷ 0x7fff_ffff_ffff_ffff ∷ 0xffff_ffff_ffff_ffff ∷ []

-- which of them a test holds of, in either format alike
abbrev Marks : (Format → ℕ → Bool) → List Bool → Type 0
Marks test marks = (map (test binary32) words32 ≡ marks) × (map (test binary64) words64 ≡ marks)

pub zeros : Marks is_zero (true ∷ true ∷ false ∷ false ∷ false ∷ false ∷ false ∷ false ∷ false ∷ false ∷ false ∷ false ∷ false ∷ false ∷ false ∷ false ∷ [])
zeros = (refl, refl)

pub smalls : Marks is_small (false ∷ false ∷ true ∷ true ∷ true ∷ true ∷ false ∷ false ∷ false ∷ false ∷ false ∷ false ∷ false ∷ false ∷ false ∷ false ∷ [])
smalls = (refl, refl)

pub endless : Marks is_endless (false ∷ false ∷ false ∷ false ∷ false ∷ false ∷ false ∷ false ∷ false ∷ false ∷ true ∷ true ∷ true ∷ true ∷ true ∷ true ∷ [])
endless = (refl, refl)

pub below_zeros : Marks is_below_zero (false ∷ false ∷ false ∷ true ∷ false ∷ true ∷ false ∷ true ∷ false ∷ true ∷ false ∷ true ∷ false ∷ true ∷ false ∷ true ∷ [])
below_zeros = (refl, refl)
