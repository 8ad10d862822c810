-- The word that the kit's rounding writes is the nearest one, over whole numbers, and a product of two finite words is such a word. Assumes nothing.
use Prim.Native.Nat.{ℕ, zero, suc, ◌+◌, ◌*◌, ◌^◌, ◌≤◌, ◌<◌}
use native.Mathlib.Nat.{mul-one, mul-pos, mul-mul-mul_comm, eq_of_mul-eq-mul_right}
use native.Mathlib.Omega.{arith}
use mathlib.Core.Path.{◌≡◌, refl, sym, ap, subst, ◌∙◌}
use mathlib.Core.Bool.{Bool}
use lib.Pow.{pow_pos}
use lib.Ieee.{Format, Float, nan, inf, fin, unlike, up, down, prec, low, hid, round, mul, of_bits, to_bits}
use lib.Ieee.Exact.{HasValue, units_val}
use lib.Ieee.Fits.{round_is, round-fits, down_pos, two, two-le_pos}
use lib.Ieee.Scale.{grid, overflow, round_same}
use lib.Ieee.Order.{drop, kept}
use Rattle.format.specs.Fields.{exponent, fraction, negative}
use Rattle.format.specs.Value.{units_at, units, Finite}
use Rattle.format.proofs.Fields.{fraction_lt}
use Rattle.format.proofs.PartsMeaning.{full}
use Rattle.format.proofs.Value.{word_value, value_word}
use Rattle.soft.specs.Rounding.{apart}
use Rattle.soft.proofs.Nearest.{Holds, round_nearest}

-- a finite word's count is one that the format holds
pub word_holds : (f : Format) (v : ℕ) → Holds (prec f) (units f v)
word_holds f v = go (exponent f v) (fraction f v) (fraction_lt f v)
  where
    go : (x t : ℕ) → t < hid f → Holds (prec f) (units_at f x t)
    go zero t l = record { digits = t; places = 0; few = let g : hid f + t < 2 ^ prec f = full f t l in omega arith; is = sym (mul-one t) }
    go (suc x) t l = record { digits = hid f + t; places = x; few = full f t l; is = refl }

module _ (f : Format) (s : Bool) (a c : ℕ) (C : 0 < c) (small : grid f a c < overflow f) where
  abbrev r : ℕ
  r = to_bits f (round f s a c)

  value : HasValue (round f s a c) s (grid f a c) (2 ^ low f)
  value = subst (λ (z : Float). HasValue z s (grid f a c) (2 ^ low f)) (sym (round_is f s a c)) (units_val f s (kept (prec f) (a * 2 ^ low f) c) (drop (prec f) (a * 2 ^ low f) c) small)

  pub rounded_units : units f r ≡ grid f a c
  rounded_units =
      let h = value_word f (round f s a c) s (grid f a c) (2 ^ low f) (round-fits f s a c) value in
      eq_of_mul-eq-mul_right (2 ^ low f) (pow_pos (low f)) (units f r) (grid f a c) h.amount

  pub rounded_sign : negative f r ≡ s
  rounded_sign = (value_word f (round f s a c) s (grid f a c) (2 ^ low f) (round-fits f s a c) value).sign

  pub rounded_finite : Finite f r
  rounded_finite = (value_word f (round f s a c) s (grid f a c) (2 ^ low f) (round-fits f s a c) value).finite

  -- no word is nearer to a / c
  pub rounded_nearest : (v : ℕ) → apart (units f r * c) (a * 2 ^ low f) ≤ apart (units f v * c) (a * 2 ^ low f)
  rounded_nearest v = rw rounded_units (round_nearest (prec f) (a * 2 ^ low f) c (two-le_pos (prec f) (two f)) C (units f v) (word_holds f v))

-- ---- a product

mul_values : (f : Format) (x y : Float) (s t : Bool) (a c b d : ℕ) → 0 < c → 0 < d → HasValue x s a c → HasValue y t b d → mul f x y ≡ round f (unlike s t) (a * b) (c * d)
unfolding mul
mul_values f nan y s t a c b d C D v u = absurd v
mul_values f (inf i) y s t a c b d C D v u = absurd v
mul_values f (fin i m e) nan s t a c b d C D v u = absurd u
mul_values f (fin i m e) (inf j) s t a c b d C D v u = absurd u
mul_values f (fin i m e) (fin j n g) s t a c b d C D v u =
    let p : m * up e * (n * up g) * (c * d) ≡ a * b * (down e * down g) =
    mul-mul-mul_comm (m * up e) (n * up g) c d ∙ rw (v.1, u.1) (mul-mul-mul_comm a (down e) b (down g)) in
    ap (λ (i : Bool). round f (unlike i j) (m * up e * (n * up g)) (down e * down g)) v.0
    ∙ ap (λ (j : Bool). round f (unlike s j) (m * up e * (n * up g)) (down e * down g)) u.0
    ∙ round_same f (unlike s t) (m * up e * (n * up g)) (down e * down g) (a * b) (c * d) (mul-pos (down_pos e) (down_pos g)) (mul-pos C D) p

pub product_of_words : (f : Format) (a b : ℕ) → Finite f a → Finite f b
    → mul f (of_bits f a) (of_bits f b) ≡ round f (unlike (negative f a) (negative f b)) (units f a * units f b) (2 ^ low f * 2 ^ low f)
product_of_words f a b h k = mul_values f (of_bits f a) (of_bits f b) _ _ (units f a) (2 ^ low f) (units f b) (2 ^ low f) (pow_pos (low f)) (pow_pos (low f)) (word_value f a h) (word_value f b k)
