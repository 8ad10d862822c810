-- inv's answer times its operand lies from 1 to 9/8, and turning the operand's sign turns the answer's and nothing else, so that the bound is
-- one on magnitudes. Assumes nothing.
use Prim.Native.Nat.{ℕ, ◌+◌, ◌-◌, ◌*◌, ◌/◌, ◌%◌, ◌^◌, ◌≤◌, ◌<◌}
use native.Mathlib.Nat.{zero-add, add_comm, add-mul, mul-le-mul_left, mod-lt, mod-eq_of_lt, mod-eq-sub-mod, div-add-mod', div-mul-le_self, le_of_mul-le-mul_right, le_of_lt, le_trans, add-sub_of_le, sub-add_cancel, sub-le}
use native.Mathlib.Omega.{arith}
use mathlib.Core.Path.{◌≡◌, refl, sym, ap, subst, ◌∙◌}
use mathlib.Core.Logic.{◌⊎◌, inl, inr}
use mathlib.Core.Bool.{Bool, true, false, not, cond, false≢true}
use mathlib.Core.List.{[], ◌∷◌, map}
use borrow.Author.Tests.{le-leb, lt-leb, leb-true, leb-false}
use lib.Dec.{leb, lit<}
use lib.Pow.{pow-add}
use lib.Ieee.{Format, binary32, binary64, emax, low, hid, top}
use Rattle.format.specs.Fields.{width, negative, magnitude, sign_bit, inf_word}
use Rattle.format.specs.Sign.{turned_word}
use Rattle.format.specs.Value.{units}
use Rattle.format.specs.Estimates.{inv_magic, inv_word, Normal, Invertible, InvBound}
use Rattle.format.proofs.Fields.{hid_pos, magnitude_lt, sign_and_magnitude}
use Rattle.format.proofs.Sign.{turned_sign, turned_field, turned_units}
use Rattle.format.proofs.Classes.{positive}
use Rattle.format.proofs.Order.{either, squares, no_wrap}
use Rattle.format.proofs.Normal.{normal_finite, unsigned_below, twice_units}

-- ---- over plain numbers

-- h is the leading digit's weight, which t and u make up: one significand is h + t, and the other h + u
module _ (h t u x v p q k : ℕ) (whole : t + u ≡ h) (ex : 2 * x ≡ (h + t) * p) (ev : 2 * v ≡ (h + u) * q) (ek : 2 * k ≡ h * h * (p * q)) where
  product : 2 * x * (2 * v) ≡ (t + u + t) * p * ((t + u + u) * q)
  product = rw whole (cc)

  square : 2 * k ≡ (t + u) * (t + u) * (p * q)
  square = rw whole ek

  ratio : (k ≤ x * v) × (8 * (x * v) ≤ 9 * k)
  ratio = (omega (arith, product, square), omega (arith, product, square, mul-le-mul_left (p * q) (squares t u)))

-- the word taken from the magic number, which is n + 1 fields, the least field that an operand has and the greatest
module _ (h n w : ℕ) (h_pos : 0 < h) (below : w ≤ n * h) where
  field_le : w / h ≤ n
  field_le = le_of_mul-le-mul_right (le_trans (div-mul-le_self w h) below) h_pos

  taken : h + n * h - w ≡ (n - w / h) * h + (h - w % h)
  taken =
      let left : (n - w / h) * h + w / h * h ≡ n * h = sym (add-mul (n - w / h) (w / h) h) ∙ ap (λ (x : ℕ). x * h) (sub-add_cancel field_le) in
      omega (arith, left, div-add-mod' w h, mod-lt w h_pos)

-- ---- the bound

-- an operand's field and its answer's add up to this, or to one more where both fractions are 0
abbrev fields : Format → ℕ
fields f = 2 * emax f - 1

one_squared : (f : Format) → 2 * (2 ^ low f * 2 ^ low f) ≡ hid f * hid f * 2 ^ fields f
one_squared binary32 = refl
one_squared binary64 = refl

magic_is : (f : Format) → inv_magic f ≡ hid f + fields f * hid f
magic_is binary32 = refl
magic_is binary64 = refl

pub magic_below : (f : Format) → inv_magic f < inf_word f
magic_below binary32 = lit< tt
magic_below binary64 = lit< tt

pub magic_fits : (f : Format) → inv_magic f < 2 ^ width f
magic_fits binary32 = lit< tt
magic_fits binary64 = lit< tt

module _ (f : Format) (w : ℕ) (i : Invertible f w) where
  answer : inv_word f w ≡ hid f + fields f * hid f - w
  answer = no_wrap (2 ^ width f) (inv_magic f) w (omega (arith, magic_is f)) (magic_fits f) ∙ ap (λ (m : ℕ). m - w) (magic_is f)

  pub invertible_normal : Normal f w
  invertible_normal =
      record {
        above = i.above;
        below = omega (arith, magic_is f, magic_below f);
      }

  pub inv_normal : Normal f (inv_word f w)
  inv_normal =
      record {
        above = omega (arith, answer);
        below = omega (arith, answer, magic_is f, magic_below f);
      }

  pub inv_bound : InvBound f w (inv_word f w)
  inv_bound =
      let e = w / hid f in
      let d = fields f - e in
      let t = w % hid f in
      let u = hid f - t in
      let l : t ≤ hid f = le_of_lt (mod-lt w (hid_pos f)) in
      let x = twice_units f w e t invertible_normal (sym (div-add-mod' w (hid f))) l in
      let v = twice_units f (inv_word f w) d u inv_normal (answer ∙ taken (hid f) (fields f) w (hid_pos f) i.below) (sub-le (hid f) t) in
      let p : 2 ^ fields f ≡ 2 ^ e * 2 ^ d = ap (λ (j : ℕ). 2 ^ j) (sym (add-sub_of_le (field_le (hid f) (fields f) w (hid_pos f) i.below))) ∙ pow-add 2 e d in
      let k = one_squared f ∙ ap (λ (j : ℕ). hid f * hid f * j) p in
      let b = ratio (hid f) t u (units f w) (units f (inv_word f w)) (2 ^ e) (2 ^ d) (2 ^ low f * 2 ^ low f) (add-sub_of_le l) x v k in
      record {
        finite = normal_finite f (inv_word f w) inv_normal;
        sign = unsigned_below f w (inv_word f w) invertible_normal.below inv_normal.below;
        least = b.0;
        most = b.1;
      }

-- both ends are reached: 1 at 1, and 9/8 at 3/2
pub inv_of_one : units binary32 0x3f80_0000 * units binary32 (inv_word binary32 0x3f80_0000) ≡ 2 ^ 149 * 2 ^ 149
inv_of_one = refl

pub inv_of_three_halves : 8 * (units binary32 0x3fc0_0000 * units binary32 (inv_word binary32 0x3fc0_0000)) ≡ 9 * (2 ^ 149 * 2 ^ 149)
inv_of_three_halves = refl

-- -1, both ends of what has an inverse below 0, the words past the magic number, where the subtraction wraps, and a NaN of either sign
pub inv_of_either_sign : (map (inv_word binary32) (0xbf80_0000 ∷ 0x8080_0000 ∷ 0xfe80_0000 ∷ 0x7f00_0001 ∷ 0xff00_0001 ∷ 0x7fc0_0000 ∷ 0xffc0_0000 ∷ [])
    ≡ 0xbf80_0000 ∷ 0xfe80_0000 ∷ 0x8080_0000 ∷ 0xffff_ffff ∷ 0x7fff_ffff ∷ 0xff40_0000 ∷ 0x7f40_0000 ∷ [])
    × (map (inv_word binary64) (0xbff0_0000_0000_0000 ∷ 0x8010_0000_0000_0000 ∷ 0xffd0_0000_0000_0000 ∷ 0x7fe0_0000_0000_0001 ∷ 0xffe0_0000_0000_0001 ∷ 0x7ff8_0000_0000_0000 ∷ 0xfff8_0000_0000_0000 ∷ [])
    ≡ 0xbff0_0000_0000_0000 ∷ 0xffd0_0000_0000_0000 ∷ 0x8010_0000_0000_0000 ∷ 0xffff_ffff_ffff_ffff ∷ 0x7fff_ffff_ffff_ffff ∷ 0xffe8_0000_0000_0000 ∷ 0x7fe8_0000_0000_0000 ∷ [])
inv_of_either_sign = (refl, refl)

-- an answer of the other sign is none
pub inv_not_turned : (InvBound binary32 0x3f80_0000 0xbf80_0000 → ⊥) × (InvBound binary32 0xbf80_0000 0x3f80_0000 → ⊥)
inv_not_turned = (λ b. false≢true (sym b.sign), λ b. false≢true b.sign)

-- ---- the sign

-- t is the sign bit's weight and m the magic number
module _ (t m : ℕ) (m_lt : m < t) where
  abbrev turn : ℕ → ℕ
  turn w = cond (leb t w) (w - t) (w + t)

  abbrev less : ℕ → ℕ
  less w = (t + t + m - w) % (t + t)

  up : (w : ℕ) → w < t → turn w ≡ w + t
  up w h = rw (lt-leb t w h)

  down : (w : ℕ) → t ≤ w → turn w ≡ w - t
  down w h = rw (le-leb t w h)

  wrapped : (w : ℕ) → m < w → w ≤ t + t → less w ≡ t + t + m - w
  wrapped w h l = mod-eq_of_lt (omega arith)

  kept : (w : ℕ) → w ≤ m → less w ≡ m - w
  kept w h = no_wrap (t + t) m w h (omega arith)

  both_ways : (w : ℕ) {a b c d : ℕ} → turn w ≡ a → less a ≡ b → less w ≡ c → turn c ≡ d → b ≡ d → less (turn w) ≡ turn (less w)
  both_ways w p q r s e = ap less p ∙ q ∙ e ∙ sym (ap turn r ∙ s)

  turns : (w : ℕ) → w < t + t → less (turn w) ≡ turn (less w)
  turns w l = go (either t w) (either w m) (either w (t + m))
    where
      go : (t ≤ w) ⊎ (w < t) → (w ≤ m) ⊎ (m < w) → (w ≤ t + m) ⊎ (t + m < w) → less (turn w) ≡ turn (less w)
      go (inr h) (inl k) j = both_ways w (up w h) (wrapped (w + t) (omega arith) (omega arith)) (kept w k) (up (m - w) (omega arith)) (omega arith)
      go (inr h) (inr k) j = both_ways w (up w h) (wrapped (w + t) (omega arith) (omega arith)) (wrapped w k (omega arith)) (down (t + t + m - w) (omega arith)) (omega arith)
      go (inl h) k (inl j) = both_ways w (down w h) (kept (w - t) (omega arith)) (wrapped w (omega arith) (omega arith)) (down (t + t + m - w) (omega arith)) (omega arith)
      go (inl h) k (inr j) = both_ways w (down w h) (wrapped (w - t) (omega arith) (omega arith)) (wrapped w (omega arith) (omega arith)) (up (t + t + m - w) (omega arith)) (omega arith)

word_is : (f : Format) → 2 ^ width f ≡ top f + top f
word_is binary32 = refl
word_is binary64 = refl

magic_unsigned : (f : Format) → inv_magic f < top f
magic_unsigned binary32 = lit< tt
magic_unsigned binary64 = lit< tt

-- below 2 ^ width f, to turn the sign is to move the word by the sign's weight
turned_is : (f : Format) (w : ℕ) → w < top f + top f → turned_word f w ≡ turn (top f) (inv_magic f) (magic_unsigned f) w
turned_is f w h = go (negative f w) refl
  where
    go : (s : Bool) → negative f w ≡ s → sign_bit f (not s) + w % top f ≡ cond s (w - top f) (w + top f)
    go true e = let l : top f ≤ w = leb-true (top f) w e in rw (mod-eq-sub-mod l, mod-eq_of_lt {n = w - top f} {m = top f} (omega arith), zero-add)
    go false e = rw (mod-eq_of_lt (leb-false (top f) w e)) (add_comm (top f) w)

pub inv_sign : (f : Format) (w : ℕ) → w < 2 * top f → inv_word f (turned_word f w) ≡ turned_word f (inv_word f w)
inv_sign f w h =
    let l : w < top f + top f = omega arith in
    let r : inv_word f w < top f + top f = rw (word_is f) (mod-lt _ (omega (arith, magic_unsigned f))) in
    ap (inv_word f) (turned_is f w l) ∙ rw (word_is f) (turns (top f) (inv_magic f) (magic_unsigned f) w l) ∙ sym (turned_is f (inv_word f w) r)

-- ---- the bound on magnitudes

-- with both signs turned the bound is the same, since units have no sign
bound_turned : (f : Format) (w r : ℕ) → InvBound f w r → InvBound f (turned_word f w) (turned_word f r)
bound_turned f w r b =
    record {
      finite = rw (turned_field f r) b.finite;
      sign = turned_sign f r ∙ ap not b.sign ∙ sym (turned_sign f w);
      least = rw (turned_units f w, turned_units f r) b.least;
      most = rw (turned_units f w, turned_units f r) b.most;
    }

-- a word whose sign is set is its magnitude with the sign turned
from_magnitude : (f : Format) (w : ℕ) → w < 2 * top f → negative f w ≡ true → turned_word f (magnitude f w) ≡ w
from_magnitude f w l e =
    let h = magnitude_lt f w in
    rw (lt-leb (top f) (magnitude f w) h, mod-eq_of_lt {n = magnitude f w} {m = top f} h) (ap (λ (s : Bool). sign_bit f s + magnitude f w) (sym e) ∙ sign_and_magnitude f w l)

pub inv_bound_by_size : (f : Format) (w : ℕ) → w < 2 * top f → Invertible f (magnitude f w) → InvBound f w (inv_word f w)
inv_bound_by_size f w l i = go (negative f w) refl
  where
    m : ℕ
    m = magnitude f w

    go : (s : Bool) → negative f w ≡ s → InvBound f w (inv_word f w)
    go true e =
        subst (λ (x : ℕ). InvBound f x (inv_word f x)) (from_magnitude f w l e)
        (rw (inv_sign f m (omega (arith, magnitude_lt f w))) (bound_turned f m (inv_word f m) (inv_bound f m i)))
    go false e = subst (λ (x : ℕ). InvBound f x (inv_word f x)) (positive f w e) (inv_bound f m i)

-- what an answer that is the definition's promises, at either width: its steps, its bound and its sign
pub inv_promises : (f : Format) (w r : ℕ) → w < 2 * top f → r ≡ inv_word f w
    → (r ≡ inv_word f w) × ((Invertible f (magnitude f w) → InvBound f w r) × (inv_word f (turned_word f w) ≡ turned_word f r))
inv_promises f w r l e = (e, (λ i. subst (InvBound f w) (sym e) (inv_bound_by_size f w l i), inv_sign f w l ∙ ap (turned_word f) (sym e)))
