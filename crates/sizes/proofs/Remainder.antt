-- rem_euclid's answer is from 0 to the divisor's size, for finite operands and a divisor that is not 0: the remainder is no larger than the
-- divisor, and a divisor's size added to a remainder below 0 is what lies between. Assumes nothing.
use Prim.Native.Nat.{ℕ, ◌-◌, ◌*◌, ◌%◌, ◌^◌, ◌≤◌, ◌<◌}
use native.Mathlib.Nat.{le_refl, le_trans, le_of_eq, le_of_lt, lt_of_lt_of_le, lt_of_le_of_lt, eq-or-lt_of_le, mul-pos, mul_comm, mul_assoc, mul_right_comm, mul-le-mul_right, mod-lt, sub-le}
use native.Mathlib.Omega.{arith}
use mathlib.Core.Path.{◌≡◌, refl, sym, ap, subst, ◌∙◌}
use mathlib.Core.Logic.{inl, inr}
use mathlib.Core.Bool.{Bool, true, false, cond, ◌||◌, true≢false}
use borrow.Author.Tests.{le-ltb, lt-ltb, le-leb, lt-leb, leb-true, leb-false, eqb-true}
use lib.Dec.{T, leb, eqb, lit<}
use lib.Pow.{pow_pos}
use lib.Ieee.{Format, Float, nan, inf, fin, binary32, up, down, low, top, fits, round, sum, add, rem, to_bits}
use lib.Ieee.Bits.{of_bits-fits, of_bits-to_bits, to_bits-lt}
use lib.Ieee.Fits.{add-fits, rem-fits, down_pos}
use lib.Ieee.Positive.{first_pos, through}
use lib.Ieee.Scale.{finite}
use Rattle.format.specs.Fields.{negative, magnitude, inf_word}
use Rattle.format.specs.Classes.{is_below_zero}
use Rattle.format.specs.Sign.{abs_word, with_sign}
use Rattle.format.specs.Value.{units, Finite}
use Rattle.format.proofs.Nan.{finite_number}
use Rattle.format.proofs.Classes.{under_infinity}
use Rattle.format.proofs.Sign.{own_sign, abs_is}
use Rattle.format.proofs.AtLeastZero.{from_zero_up, at_least_zero_is}
use Rattle.float.specs.Rounded.{◌⊕◌, number}
use Rattle.float.specs.RemEuclid.{remainder, is_not_below, rem_euclid_word, LeftBy}
use Rattle.sizes.proofs.Size.{AtMost, AtLeast, NotNegative, round_at_most, round_not_negative, without_sign, not_zero}
use Rattle.sizes.proofs.Words.{own_at_most, word_at_most, word_at_least, at_most_number, at_most_word, sign_word}

-- ---- what is no more than a divisor

part_of : (Z Y B E K L : ℕ) → Z ≤ Y * E → Y * L ≤ B * K → Z * L ≤ B * (E * K)
part_of Z Y B E K L z k =
    le_trans (mul-le-mul_right L z)
    (le_trans (le_of_eq (mul_right_comm Y E L))
    (le_trans (mul-le-mul_right E k) (le_of_eq (mul_assoc B K E ∙ ap (λ (n : ℕ). B * n) (mul_comm K E)))))

rem_at_most : {f : Format} {b c : ℕ} (x y : Float) → T (finite x) → AtMost f b y → AtLeast f c y → 0 < units f c → Finite f b → AtMost f b (rem f x y)
unfolding rem
rem_at_most {f} {b} {c} nan y h k l p t = absurd h
rem_at_most {f} {b} {c} (inf s) y h k l p t = absurd h
rem_at_most {f} {b} {c} (fin s m e) nan h k l p t = absurd k.finite
rem_at_most {f} {b} {c} (fin s m e) (inf i) h k l p t = absurd k.finite
rem_at_most {f} {b} {c} (fin s m e) (fin i n g) h k l p t =
    let some : 0 < n * up g = first_pos (n * up g) (2 ^ low f) (lt_of_lt_of_le (mul-pos p (down_pos g)) l.large) in
    let left = m * up e * down g % (n * up g * down e) in
    rw (not_zero f c n g p l.large)
    (round_at_most f b s left (down e * down g) t (mul-pos (down_pos e) (down_pos g))
    (part_of left (n * up g) (units f b) (down e) (down g) (2 ^ low f) (le_of_lt (mod-lt (m * up e * down g) (mul-pos some (down_pos e)))) k.small))

-- ---- a size added to a number below 0 that is no larger

abbrev Minus : Float → Type 0
Minus nan = ⊥
Minus (inf s) = ⊥
Minus (fin s m e) = s ≡ true

difference : (f : Format) (a b c : ℕ) → a ≤ b → sum f true a false b c ≡ round f false (b - a) c
unfolding sum
difference f a b c h = elim (eq-or-lt_of_le h) [ inl e ↦ rw (e, le-ltb b b (le_refl b)) | inr l ↦ rw (lt-ltb a b l) ]

record Between (f : Format) (b : ℕ) (x : Float) : Type 0 where
  most : AtMost f b x
  plus : NotNegative x

between : {f : Format} {b : ℕ} {x y : Float} → AtMost f b x → Minus x → AtMost f b y → AtLeast f b y → NotNegative y → Finite f b → Between f b (add f x y)
unfolding add
between {f} {b} {x = nan} h i k l j t = absurd i
between {f} {b} {x = inf s} h i k l j t = absurd i
between {f} {b} {x = fin s m e} {y = nan} h i k l j t = absurd k.finite
between {f} {b} {x = fin s m e} {y = inf r} h i k l j t = absurd k.finite
between {f} {b} {x = fin s m e} {y = fin r n g} h i k l j t =
    let X = m * up e * down g in
    let Y = n * up g * down e in
    let order : X ≤ Y = through (m * up e) (units f b) (n * up g) (down e) (2 ^ low f) (down g) (pow_pos (low f)) h.small l.large in
    rw (i, j.plus, difference f X Y (down e * down g) order)
    (record {
      most = round_at_most f b false (Y - X) (down e * down g) t (mul-pos (down_pos e) (down_pos g)) (part_of (Y - X) (n * up g) (units f b) (down e) (down g) (2 ^ low f) (sub-le Y X) k.small);
      plus = round_not_negative f (Y - X) (down e * down g);
    })

-- ---- the words that compare as at least 0, and those that do not

below_lt : (u : ℕ) → u < top binary32 → is_below_zero binary32 u ≡ false
below_lt u l = rw (lt-leb (top binary32) u l)

not_below : (u : ℕ) → from_zero_up binary32 u ≡ true → is_below_zero binary32 u ≡ false
not_below u e = go (leb u (inf_word binary32)) refl e
  where
    go : (t : Bool) → leb u (inf_word binary32) ≡ t → (t || eqb u (top binary32)) ≡ true → is_below_zero binary32 u ≡ false
    go true d e = below_lt u (omega (arith, leb-true u (inf_word binary32) d))
    go false d e = rw (eqb-true u (top binary32) e)

below : (u : ℕ) → magnitude binary32 u < inf_word binary32 → from_zero_up binary32 u ≡ false → negative binary32 u ≡ true
below u h e = go (leb u (inf_word binary32)) refl e
  where
    go : (t : Bool) → leb u (inf_word binary32) ≡ t → (t || eqb u (top binary32)) ≡ false → negative binary32 u ≡ true
    go true d e = absurd (true≢false e)
    go false d e = le-leb (top binary32) u (omega (arith, leb-false u (inf_word binary32) d))

turned : (x : Float) → T (finite x) → Minus (with_sign true x)
turned nan h = absurd h
turned (inf s) h = absurd h
turned (fin s m e) h = refl

-- ---- the answer

module _ (w v : ℕ) (wf : Finite binary32 w) (vf : Finite binary32 v) (some : 0 < magnitude binary32 v) where
  own_least : AtLeast binary32 1 (number v)
  own_least = word_at_least binary32 v 1 (finite_number binary32 v vf) some

  most : AtMost binary32 v (remainder w v)
  most = rem_at_most (number w) (number v) (own_at_most binary32 w wf).finite (own_at_most binary32 v vf) own_least (lit< tt) vf

  left_fits : T (fits binary32 (remainder w v))
  left_fits = rem-fits binary32 (number w) (number v) (of_bits-fits binary32 w)

  abbrev left : ℕ
  left = to_bits binary32 (remainder w v)

  left_read : number left ≡ remainder w v
  left_read = of_bits-to_bits binary32 (remainder w v) left_fits

  tested : is_not_below (remainder w v) ≡ from_zero_up binary32 left
  tested = ap is_not_below (sym left_read) ∙ at_least_zero_is binary32 left (to_bits-lt binary32 (remainder w v) left_fits)

  left_size : magnitude binary32 left ≤ magnitude binary32 v
  left_size = at_most_word binary32 v (remainder w v) left_fits most

  minus : is_not_below (remainder w v) ≡ false → Minus (remainder w v)
  minus e =
      let finite_left : magnitude binary32 left < inf_word binary32 = lt_of_le_of_lt left_size (under_infinity binary32 v vf) in
      let s = below left finite_left (sym tested ∙ e) in
      subst Minus (sym (own_sign binary32 left ∙ ap (λ (b : Bool). with_sign b (number left)) s) ∙ left_read)
      (turned (number left) (subst (λ (x : Float). T (finite x)) (sym left_read) most.finite))

  abbrev size : Float
  size = number (abs_word binary32 v)

  added : is_not_below (remainder w v) ≡ false → Between binary32 v (remainder w v ⊕ size)
  added e =
      between most (minus e) (word_at_most binary32 (abs_word binary32 v) v vf (omega arith))
      (word_at_least binary32 (abs_word binary32 v) v (finite_number binary32 (abs_word binary32 v) (rw (abs_is binary32 v).field vf)) (omega arith))
      (rw (abs_is binary32 v).value (without_sign (number v) (at_most_number (own_at_most binary32 v vf)))) vf

  within : LeftBy v (rem_euclid_word w v)
  unfolding rem_euclid_word
  within = go (is_not_below (remainder w v)) refl
    where
      go : (t : Bool) → is_not_below (remainder w v) ≡ t → LeftBy v (to_bits binary32 (cond t (remainder w v) (remainder w v ⊕ size)))
      go true e = record { above = not_below left (sym tested ∙ e); size = left_size }
      go false e =
          let s = added e in
          let f = add-fits binary32 (remainder w v) size in
          record { above = rw (sign_word binary32 _ f s.most.finite s.plus); size = at_most_word binary32 v _ f s.most }

pub rem_euclid_within : (w v : ℕ) → Finite binary32 w → Finite binary32 v → 0 < magnitude binary32 v → LeftBy v (rem_euclid_word w v)
rem_euclid_within w v wf vf some = within w v wf vf some

-- ---- what this rules out: -1, and 4, as what is left by 3

pub not_turned : LeftBy 0x4040_0000 0xbf80_0000 → ⊥
not_turned h = true≢false h.above

pub not_larger : LeftBy 0x4040_0000 0x4080_0000 → ⊥
not_larger h = let l = h.size in omega arith
