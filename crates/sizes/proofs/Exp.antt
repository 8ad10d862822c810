-- exp's answer to a number of magnitude 88 at most is no NaN: the series is at most 3, and the whole part of the binary logarithm at most 126, so that the
-- exponent of the answer is at most 127. Assumes nothing.
use Prim.Native.Nat.{ℕ, zero, suc, ◌+◌, ◌-◌, ◌*◌, ◌/◌, ◌%◌, ◌^◌, ◌≤◌, min, zero-le}
use native.Mathlib.Nat.{le_trans, le_of_eq, le_of_lt, mod-lt, min-le_left, div-mul-le_self}
use native.Mathlib.Omega.{arith}
use mathlib.Core.Path.{◌≡◌, refl}
use mathlib.Core.Logic.{◌⊎◌, inl, inr}
use mathlib.Core.Bool.{Bool, true, false, cond, ◌||◌}
use borrow.Author.Tests.{ltb-false, le-ltb}
use lib.Dec.{T, leb, ltb, lit<, lit≤}
use lib.IntN.{ℤ, pos, negsuc, neg_ℤ, ◌+ℤ◌}
use lib.Pow.{pow_pos}
use lib.Ieee.{Float, neg, nan, inf, fin, binary32, up, down, mul, div, eq, nan_bits, fits, to_bits, of_bits, to_signed}
use lib.Ieee.Bits.{of_bits-fits, to_bits-lt}
use lib.Ieee.Fits.{add-fits, mul-fits, down_pos}
use lib.Ieee.Nearest.{div_mono}
use mir.Syntax.{w32}
use mir.Val.{of_z}
use Rattle.format.specs.Fields.{exponent, magnitude, negative, sign_bit}
use Rattle.format.specs.Value.{units, Finite}
use Rattle.format.specs.Exponent.{exponent_value, moved, set_exponent_word}
use Rattle.format.specs.Parts.{trunc_word, fract_word}
use Rattle.format.specs.Meaning.{Under32}
use Rattle.format.proofs.PartsMeaning.{trunc_under, fract_under}
use Rattle.format.proofs.Larger.{units_mono}
use Rattle.float.specs.Rounded.{is_at}
use Rattle.float.specs.Exp.{series, clipped, scaled_word, log_word, series_word, exponent_of, power_word, exp_word}
use Rattle.sizes.proofs.Size.{AtMost, mul_at_most, add_at_most, div_at_most}
use Rattle.sizes.proofs.Words.{constant, own_at_most, own_at_least, units_at_most, word_at_most, at_most_number, at_most_word, number_word}

-- ---- integers from above

abbrev UpTo : ℕ → ℤ → Type 0
UpTo k (pos n) = n ≤ k
UpTo k (negsuc n) = Unit

either_up : (k : ℕ) (t : Bool) (x y : ℤ) → UpTo k x → UpTo k y → UpTo k (cond t x y)
either_up k true x y h l = h
either_up k false x y h l = l

sum_up : (a b : ℕ) (x y : ℤ) → UpTo a x → UpTo b y → UpTo (a + b) (x +ℤ y)
sum_up a b (pos m) (pos n) h k = omega arith
sum_up a b (pos m) (negsuc n) h k = either_up (a + b) (ltb m (suc n)) _ _ tt (let l : m - suc n ≤ a + b = omega arith in l)
sum_up a b (negsuc m) (pos n) h k = either_up (a + b) (ltb n (suc m)) _ _ tt (let l : n - suc m ≤ a + b = omega arith in l)
sum_up a b (negsuc m) (negsuc n) h k = tt

clipped_up : (z : ℤ) → UpTo 127 z → UpTo 127 (clipped z)
clipped_up (pos n) h = rw (le-ltb (2 ^ 31 - 1) n (omega arith)) h
clipped_up (negsuc n) h = either_up 127 (ltb (2 ^ 31 - 1) n) (negsuc (2 ^ 31 - 1)) (negsuc n) tt tt

turned_up : (k n : ℕ) → UpTo k (neg_ℤ (pos n))
turned_up k zero = zero-le
turned_up k (suc n) = tt

signed_up : (b k : ℕ) (x : Float) → AtMost binary32 b x → units binary32 b / 2 ^ 149 ≤ k → UpTo k (to_signed 31 x)
unfolding to_signed
signed_up b k nan h l = zero-le
signed_up b k (inf s) h l = absurd h.finite
signed_up b k (fin true m e) h l = turned_up k (min (m * up e / down e) (2 ^ 31))
signed_up b k (fin false m e) h l =
    le_trans (min-le_left (m * up e / down e) (2 ^ 31 - 1))
    (le_trans (div_mono (m * up e) (down e) (units binary32 b) (2 ^ 149) (down_pos e) (pow_pos 149) h.small) l)

-- the exponent of a word below 4
exponent_up : (v : ℕ) → magnitude binary32 v ≤ 0x4040_0000 → UpTo 1 (exponent_value binary32 v)
exponent_up v h = either_up 1 (leb 127 (exponent binary32 v)) _ _ (let l : exponent binary32 v - 127 ≤ 1 = omega arith in l) tt

-- ---- a word with an exponent of 127 at most

field_finite : (s : Bool) (n v : ℕ) → n ≤ 254 → Finite binary32 (sign_bit binary32 s + n * 2 ^ 23 % 2 ^ 32 % 2 ^ 31 + v % 2 ^ 23)
field_finite true n v h = omega arith
field_finite false n v h = omega arith

field_number : (v n : ℕ) → n ≤ 254 → nan_bits binary32 (to_bits binary32 (of_bits binary32 (set_exponent_word binary32 v n))) ≡ false
field_number v n h =
    let r = set_exponent_word binary32 v n in
    number_word binary32 (of_bits binary32 r) (of_bits-fits binary32 r) (at_most_number (own_at_most binary32 r (field_finite (negative binary32 v || negative binary32 (moved binary32 n)) n v h)))

either_number : (b : Bool) (w v : ℕ) → nan_bits binary32 w ≡ false → nan_bits binary32 v ≡ false → nan_bits binary32 (cond b w v) ≡ false
either_number true w v h k = h
either_number false w v h k = k

infinity_number : nan_bits binary32 0x7f80_0000 ≡ false
unfolding nan_bits
infinity_number = refl

scaled_number : (v : ℕ) (k : ℤ) → UpTo 127 k → nan_bits binary32 (scaled_word v k) ≡ false
unfolding nan_bits
scaled_number v (pos n) h = either_number (ltb 128 n) 0x7f80_0000 _ infinity_number (field_number v ((n + 127) % 2 ^ 32) (omega arith))
scaled_number v (negsuc n) h = go (ltb 126 n) refl
  where
    go : (b : Bool) → ltb 126 n ≡ b → nan_bits binary32 (cond b 0 (to_bits binary32 (of_bits binary32 (set_exponent_word binary32 v ((of_z w32 (negsuc n) + 127) % 2 ^ 32))))) ≡ false
    go true e = refl
    go false e = field_number v ((2 ^ 32 - suc n + 127) % 2 ^ 32) (omega (arith, ltb-false 126 n e))

-- ---- the series

series_at_most : {s : Float} → AtMost binary32 0x3f80_0000 s → AtMost binary32 0x4040_0000 (series s)
unfolding series
series_at_most h =
    let one = constant binary32 0x3f80_0000 tt in
    let t = add_at_most 0x4000_0000 one (mul_at_most 0x3f80_0000 (div_at_most 0x3e80_0000 h (own_at_least binary32 0x4080_0000 (lit< tt)) tt) one tt) tt in
    let t = add_at_most 0x4000_0000 one (mul_at_most 0x3f80_0000 (div_at_most 0x3f00_0000 h (own_at_least binary32 0x4040_0000 (lit< tt)) tt) t tt) tt in
    let t = add_at_most 0x4000_0000 one (mul_at_most 0x3f80_0000 (div_at_most 0x3f00_0000 h (own_at_least binary32 0x4000_0000 (lit< tt)) tt) t tt) tt in
    add_at_most 0x4040_0000 one (mul_at_most 0x4000_0000 (div_at_most 0x3f80_0000 h (own_at_least binary32 0x3f80_0000 (lit< tt)) tt) t tt) tt

series_fits : (s : Float) → T (fits binary32 (series s))
unfolding series
series_fits s = add-fits binary32 (of_bits binary32 0x3f80_0000) _

-- ---- the steps

module _ (w : ℕ) (small : magnitude binary32 w ≤ 0x42b0_0000) where
  abbrev t : ℕ
  t = log_word w

  product_fits : T (fits binary32 (mul binary32 (of_bits binary32 w) (of_bits binary32 0x3fb8_aa3b)))
  product_fits = mul-fits binary32 (of_bits binary32 w) (of_bits binary32 0x3fb8_aa3b)

  -- 126.96875
  log_small : magnitude binary32 t ≤ 0x42fd_f000
  log_small =
      at_most_word binary32 0x42fd_f000 _ product_fits
      (mul_at_most 0x42fd_f000 (word_at_most binary32 w 0x42b0_0000 (lit< tt) small) (constant binary32 0x3fb8_aa3b tt) tt)

  log_under : Under32 t
  log_under = omega (arith, log_small)

  fract_at_most : AtMost binary32 0x3f80_0000 (of_bits binary32 (fract_word binary32 t))
  fract_at_most =
      let f = fract_under binary32 t log_under in
      units_at_most binary32 (fract_word binary32 t) 0x3f80_0000 f.finite (le_trans (le_of_eq f.rest) (le_of_lt (mod-lt (units binary32 t) (pow_pos 149))))

  trunc_at_most : AtMost binary32 0x42fd_f000 (of_bits binary32 (trunc_word binary32 t))
  trunc_at_most =
      let r = trunc_under binary32 t (to_bits-lt binary32 _ product_fits) log_under in
      units_at_most binary32 (trunc_word binary32 t) 0x42fd_f000 r.finite
      (le_trans (le_of_eq r.whole) (le_trans (div-mul-le_self (units binary32 t) (2 ^ 149)) (units_mono binary32 t 0x42fd_f000 log_small)))

  series_small : magnitude binary32 (series_word t) ≤ 0x4040_0000
  series_small =
      at_most_word binary32 0x4040_0000 _ (series_fits _)
      (series_at_most (mul_at_most 0x3f80_0000 fract_at_most (constant binary32 0x3f31_7218 tt) tt))

  exponent_small : UpTo 127 (exponent_of t)
  exponent_small =
      let x = exponent_value binary32 (series_word t) in
      let y = to_signed 31 (of_bits binary32 (trunc_word binary32 t)) in
      clipped_up (x +ℤ y) (sum_up 1 126 x y (exponent_up (series_word t) series_small) (signed_up 0x42fd_f000 126 (of_bits binary32 (trunc_word binary32 t)) trunc_at_most (lit≤ tt)))

  power_number : nan_bits binary32 (power_word t) ≡ false
  unfolding power_word
  power_number = scaled_number (series_word t) (exponent_of t) exponent_small

one_number : nan_bits binary32 0x3f80_0000 ≡ false
unfolding nan_bits
one_number = refl

e_number : nan_bits binary32 0x402d_f854 ≡ false
unfolding nan_bits
e_number = refl

over_e_number : nan_bits binary32 (to_bits binary32 (div binary32 (of_bits binary32 0x3f80_0000) (of_bits binary32 0x402d_f854))) ≡ false
unfolding nan_bits div of_bits to_bits
over_e_number = refl

of_magnitude : (w : ℕ) → magnitude binary32 w ≤ 0x42b0_0000 → nan_bits binary32 (exp_word w) ≡ false
unfolding exp_word
of_magnitude w h =
    either_number (eq (of_bits binary32 w) (of_bits binary32 0)) _ _ one_number
    (either_number (is_at (of_bits binary32 w) (of_bits binary32 0x3f80_0000)) _ _ e_number
    (either_number (is_at (of_bits binary32 w) (neg (of_bits binary32 0x3f80_0000))) _ _ over_e_number (power_number w h)))

pub exp_number : (w : ℕ) → (w ≤ 0x42b0_0000) ⊎ ((0x8000_0000 ≤ w) × (w ≤ 0xc2ae_0000)) → nan_bits binary32 (exp_word w) ≡ false
exp_number w (inl h) = of_magnitude w (omega arith)
exp_number w (inr h) = of_magnitude w (omega arith)
