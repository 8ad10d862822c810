-- The size of a product with 0.596227, and a word's size is a NaN where the word is; a NaN is handed on by every step, and what is put in its
-- place is none. Assumes nothing.
use Prim.Native.Nat.{ℕ}
use mathlib.Core.Path.{◌≡◌, refl, sym, ap, ◌∙◌}
use mathlib.Core.Bool.{Bool, true, false, cond, ◌||◌, true≢false}
use lib.Dec.{T}
use lib.Ieee.{Format, Float, nan, inf, fin, binary32, add, mul, ne, is_nan, fits, nan_bits, of_bits, to_bits}
use lib.Ieee.Compare.{nan_differs}
use Rattle.format.specs.Fields.{magnitude}
use Rattle.format.specs.Sign.{with_sign}
use Rattle.format.proofs.Sign.{abs_is}
use Rattle.sizes.proofs.Sign.{product_size}
use Rattle.sizes.proofs.Words.{number_word}

-- ---- the product

-- 0.596227
abbrev pub bend : Float
bend = of_bits binary32 0x3f18_a255

bend_size : with_sign false bend ≡ bend
unfolding of_bits
bend_size = refl

pub bent_size : (x : Float) → with_sign false (mul binary32 bend x) ≡ mul binary32 bend (with_sign false x)
bent_size x = product_size binary32 bend x ∙ ap (λ (c : Float). mul binary32 c (with_sign false x)) bend_size

-- ---- a NaN

pub times_nan : (f : Format) (x : Float) → mul f x nan ≡ nan
unfolding mul
times_nan f nan = refl
times_nan f (inf s) = refl
times_nan f (fin s m e) = refl

pub and_nan : (f : Format) (x : Float) → add f x nan ≡ nan
unfolding add
and_nan f nan = refl
and_nan f (inf s) = refl
and_nan f (fin s m e) = refl

pub size_nan : (f : Format) (w : ℕ) → nan_bits f (magnitude f w) ≡ nan_bits f w
unfolding nan_bits
size_nan f w = let k = abs_is f w in rw (k.field, k.digits)

-- only the NaN differs from itself
pub is_itself : (x : Float) → ne x x ≡ false → is_nan x ≡ false
unfolding is_nan
is_itself nan e = absurd (true≢false (sym nan_differs ∙ e))
is_itself (inf s) e = refl
is_itself (fin s m k) e = refl

-- a value's word, with 0 in a NaN's place
pub known_number : (x : Float) → T (fits binary32 x) → nan_bits binary32 (cond (ne x x) 0 (to_bits binary32 x)) ≡ false
unfolding nan_bits
known_number x h = go (ne x x) refl
  where
    go : (b : Bool) → ne x x ≡ b → nan_bits binary32 (cond b 0 (to_bits binary32 x)) ≡ false
    go true d = refl
    go false d = number_word binary32 x h (is_itself x d)

-- a word, with 0 in a NaN's place
pub read_one : (w : ℕ) → nan_bits binary32 (cond (nan_bits binary32 w) 0 w) ≡ false
unfolding nan_bits
read_one w = go (nan_bits binary32 w) refl
  where
    go : (s : Bool) → nan_bits binary32 w ≡ s → nan_bits binary32 (cond s 0 w) ≡ false
    go true p = refl
    go false p = p

-- two words, with zeros in the place of both where one is a NaN
pub read_two : (w v : ℕ) → let t = nan_bits binary32 w || nan_bits binary32 v in (nan_bits binary32 (cond t 0 w) ≡ false) × (nan_bits binary32 (cond t 0 v) ≡ false)
unfolding nan_bits
read_two w v = go (nan_bits binary32 w) (nan_bits binary32 v) refl refl
  where
    go : (s t : Bool) → nan_bits binary32 w ≡ s → nan_bits binary32 v ≡ t → (nan_bits binary32 (cond (s || t) 0 w) ≡ false) × (nan_bits binary32 (cond (s || t) 0 v) ≡ false)
    go true t p q = (refl, refl)
    go false true p q = (refl, refl)
    go false false p q = (p, q)
