-- Every raw kernel answers words with a word, a number below 2 ^ 32, and so does every guarded operation. Assumes nothing.
use Prim.Native.Nat.{ℕ, zero, suc, ◌+◌, ◌/◌, ◌%◌, ◌^◌, ◌<◌}
use native.Mathlib.Nat.{mod-lt, sub-le, lt_of_le_of_lt, div-le_self}
use native.Mathlib.Omega.{arith}
use mathlib.Core.Bool.{Bool, true, false, cond, not, ◌&&◌, ◌||◌}
use mathlib.Core.List.{List, [], ◌∷◌, ◌++◌}
use mathlib.Core.Option.{Option, none, some, get_or}
use lib.Dec.{T, lit<, ltb, eqb}
use lib.IntN.{ℤ, pos, negsuc, nat_abs}
use lib.Signed.{lt_z}
use lib.Ieee.{Float, binary32, fits, neg, of_bits, to_bits, lt, eq, nan_bits}
use lib.Ieee.Bits.{to_bits-lt, of_bits-fits}
use lib.Ieee.Fits.{cond-fits, neg-fits, add-fits, sub-fits, mul-fits, div-fits, rem-fits, of_int-fits}
use mir.Syntax.{w32}
use mir.Val.{of_z, to_z}
use Rattle.format.specs.Fields.{negative, magnitude, exponent, sign_bit}
use Rattle.format.specs.Exponent.{is_integer_word, is_even_word}
use Rattle.format.specs.Sign.{abs_word, signum_word}
use Rattle.format.specs.Parts.{below_point, trunc_word, fract_word}
use Rattle.format.specs.Estimates.{at_least_zero, sqrt_word}
use Rattle.format.proofs.Fields.{magnitude_lt}
use Rattle.format.proofs.Parts.{below_lt, fraction_top}
use Rattle.format.proofs.Whole.{floor_fits}
use Rattle.float.specs.Engine.{ieee}
use Rattle.float.specs.Rounded.{is_at}
use Rattle.float.specs.Recip.{recip_word}
use Rattle.float.specs.Exp.{log_word, exponent_of, power_word, exp_word}
use Rattle.float.specs.Ln.{logarithm, ln_word}
use Rattle.float.specs.Powi.{Work, multiplied, squared, ended, taken, works, start, powi_works, squaring_word, is_zero, is_near_one, is_past, is_below, early, powi_word}
use Rattle.float.specs.Powf.{powf_word}
use Rattle.float.specs.Atan.{atan_word}
use Rattle.float.specs.Atan2.{atan2_word}
use Rattle.float.specs.Cos.{cos_word, sin_word}
use Rattle.float.specs.Hypot.{hypot_word}
use Rattle.float.specs.Asin.{asin_word}
use Rattle.float.specs.Acos.{acos_word}
use Rattle.float.specs.Tan.{tan_word}
use Rattle.float.specs.RemEuclid.{remainder, is_not_below, rem_euclid_word}
use Rattle.float.specs.DivEuclid.{quotient_word, div_euclid_word}
use Rattle.raw.specs.Raw.{Kernel, kernels, kernel_of, raw_of}
use Rattle.format.specs.Classes.{is_zero as is_zero_word}
use Rattle.guard.specs.Operations.{op_sqrt}
use Rattle.guard.specs.Guarded.{value_of}
use Rattle.guard.proofs.Each.{Each, done, ◌⨟◌, of_each}

abbrev Word : ℕ → Type 0
Word w = w < 2 ^ 32

pub either : (t : Bool) (x y : ℕ) → Word x → Word y → Word (cond t x y)
either true x y h k = h
either false x y h k = k

-- ---- what answers are made of

of_float : (x : Float) → T (fits binary32 x) → Word (to_bits binary32 x)
of_float x h = to_bits-lt binary32 x h

modulo : (n : ℕ) → Word (n % 2 ^ 32)
modulo n = mod-lt n (let z : 0 < 2 ^ 32 = omega arith in z)

abs_lt : (w : ℕ) → magnitude binary32 w < 2 ^ 31
abs_lt w = magnitude_lt binary32 w

abs_is_word : (w : ℕ) → Word (abs_word binary32 w)
abs_is_word w = omega (arith, abs_lt w)

signed : (s : Bool) (m : ℕ) → m < 2 ^ 31 → Word (sign_bit binary32 s + m)
signed true m h = omega arith
signed false m h = omega arith

sign_word : (s : Bool) → Word (sign_bit binary32 s)
sign_word true = lit< tt
sign_word false = lit< tt

-- ---- the kernels

trunc_is_word : (w : ℕ) → Word w → Word (trunc_word binary32 w)
trunc_is_word w h = either (ltb (exponent binary32 w) 127) _ _ (sign_word (negative binary32 w)) (lt_of_le_of_lt (sub-le w (below_point binary32 w)) h)

fract_is_word : (w : ℕ) → Word w → Word (fract_word binary32 w)
fract_is_word w h = either (ltb (exponent binary32 w) 127) _ _ h (signed (negative binary32 w) _ (fraction_top binary32 _ (below_lt binary32 w)))

signum_is_word : (w : ℕ) → Word (signum_word binary32 w)
unfolding nan_bits
signum_is_word w = either (nan_bits binary32 w) _ _ (lit< tt) (signed (negative binary32 w) _ (abs_lt 0x3f80_0000))

sqrt_is_word : (w : ℕ) → Word (sqrt_word binary32 w)
sqrt_is_word w = either (at_least_zero binary32 w) _ _ (lt_of_le_of_lt (div-le_self _ 2) (modulo _)) (lit< tt)

recip_is_word : (w : ℕ) → Word (recip_word w)
unfolding recip_word
recip_is_word w = of_float _ (mul-fits binary32 _ _)

exp_is_word : (w : ℕ) → Word (exp_word w)
unfolding exp_word power_word
exp_is_word w =
    let x = of_bits binary32 w in
    let k = exponent_of (log_word w) in
    either (eq x (of_bits binary32 0)) _ _ (lit< tt)
    (either (is_at x (of_bits binary32 0x3f80_0000)) _ _ (lit< tt)
    (either (is_at x (neg (of_bits binary32 0x3f80_0000))) _ _ (of_float _ (div-fits binary32 _ _))
    (either (lt_z k (negsuc 126)) _ _ (lit< tt) (either (lt_z (pos 128) k) _ _ (lit< tt) (of_float _ (of_bits-fits binary32 _))))))

ln_is_word : (w : ℕ) → Word (ln_word w)
unfolding ln_word logarithm
ln_is_word w =
    let x = of_bits binary32 w in
    either (is_at x (of_bits binary32 0x3f80_0000)) _ _ (lit< tt)
    (of_float _ (cond-fits binary32 (lt x (of_bits binary32 0x3f80_0000)) _ _ (neg-fits binary32 _ (add-fits binary32 _ _)) (add-fits binary32 _ _)))

powf_is_word : (w n : ℕ) → Word (powf_word w n)
unfolding powf_word
powf_is_word w n =
    either (at_least_zero binary32 w) _ _ (exp_is_word _)
    (either (is_integer_word binary32 n) _ _
    (either (is_even_word binary32 n) _ _ (exp_is_word _) (of_float _ (neg-fits binary32 _ (of_bits-fits binary32 _))))
    (lit< tt))

atan_is_word : (w : ℕ) → Word (atan_word ieee w)
unfolding atan_word
atan_is_word w = of_float _ (mul-fits binary32 _ _)

atan2_is_word : (y x : ℕ) → Word (atan2_word y x)
unfolding atan2_word
atan2_is_word y x = of_float _ (mul-fits binary32 _ _)

cos_is_word : (w : ℕ) → Word (cos_word ieee w)
unfolding cos_word
cos_is_word w = of_float _ (add-fits binary32 _ _)

sin_is_word : (w : ℕ) → Word (sin_word ieee w)
unfolding sin_word
sin_is_word w = cos_is_word _

hypot_is_word : (w v : ℕ) → Word (hypot_word w v)
unfolding hypot_word
hypot_is_word w v = sqrt_is_word _

asin_is_word : (w : ℕ) → Word (asin_word w)
unfolding asin_word
asin_is_word w = atan_is_word _

acos_is_word : (w : ℕ) → Word (acos_word w)
unfolding acos_word
acos_is_word w =
    let x = of_bits binary32 w in
    either (lt (of_bits binary32 0) x) _ _ (atan_is_word _) (either (eq x (of_bits binary32 0)) _ _ (lit< tt) (of_float _ (add-fits binary32 _ _)))

tan_is_word : (w : ℕ) → Word (tan_word w)
unfolding tan_word
tan_is_word w = of_float _ (div-fits binary32 _ _)

rem_euclid_is_word : (w v : ℕ) → Word (rem_euclid_word w v)
unfolding rem_euclid_word
rem_euclid_is_word w v =
    of_float _
    (cond-fits binary32 (is_not_below (remainder w v)) _ _ (rem-fits binary32 (of_bits binary32 w) (of_bits binary32 v) (of_bits-fits binary32 w)) (add-fits binary32 _ _))

div_euclid_is_word : (w v : ℕ) → Word (div_euclid_word w v)
unfolding div_euclid_word
div_euclid_is_word w v =
    either (is_not_below (remainder w v)) _ _ (trunc_is_word (quotient_word w v) (of_float _ (div-fits binary32 _ _)))
    (of_float _ (cond-fits binary32 (lt (of_bits binary32 0) (of_bits binary32 v)) _ _ (sub-fits binary32 _ _) (add-fits binary32 _ _)))

-- ---- powi: what it holds is a number of the format after each product

abbrev Fit : Work → Type 0
Fit s = T (fits binary32 s.result)

abbrev AllFit : List Work → Type 0
AllFit [] = Unit
AllFit (s ∷ ss) = Fit s × AllFit ss

ended_fits : (s : Work) (ss : List Work) → Fit s → AllFit ss → Fit (ended s ss)
ended_fits s [] h hs = h
ended_fits s (t ∷ ss) h hs = ended_fits t ss hs.0 hs.1

both_fit : (ss ts : List Work) → AllFit ss → AllFit ts → AllFit (ss ++ ts)
both_fit [] ts hs ks = ks
both_fit (s ∷ ss) ts hs ks = (hs.0, both_fit ss ts hs.1 ks)

taken_fits : (m : ℕ) (s : Work) → AllFit (taken m s)
taken_fits m s = go (eqb (m % 2) 1)
  where
    go : (t : Bool) → AllFit (cond t (multiplied s ∷ []) [])
    go true = (mul-fits binary32 s.result s.base, tt)
    go false = tt

works_fit : (bits m : ℕ) (s : Work) → Fit s → AllFit (works bits m s)
unfolding works
works_fit zero m s h = tt
works_fit (suc bits) m s h =
    let t = ended s (taken m s) in
    let k : Fit t = ended_fits s (taken m s) h (taken_fits m s) in
    both_fit (taken m s) _ (taken_fits m s) (go t k (eqb (m / 2) 0) (works_fit bits (m / 2) (squared t) k))
  where
    go : (t : Work) → Fit t → (b : Bool) → AllFit (works bits (m / 2) (squared t)) → AllFit (cond b [] (squared t ∷ works bits (m / 2) (squared t)))
    go t k true ks = tt
    go t k false ks = (k, ks)

squaring_is_word : (w : ℕ) (n : ℤ) → Word (squaring_word w n)
squaring_is_word w n =
    let one : Fit (start w n) = of_bits-fits binary32 0x3f80_0000 in
    of_float _ (ended_fits (start w n) (powi_works w n) one (works_fit 32 (nat_abs n) (start w n) one))

abbrev AnyWord : Option ℕ → Type 0
AnyWord none = Unit
AnyWord (some w) = Word w

choose : (t : Bool) (p q : Option ℕ) → AnyWord p → AnyWord q → AnyWord (cond t p q)
choose true p q h k = h
choose false p q h k = k

early_word : (w : ℕ) (n : ℤ) → Word w → AnyWord (early w n)
early_word w n h =
    choose (eqb (of_z w32 n) (2 ^ 31)) _ _ (lit< tt)
    (choose (eqb (of_z w32 n) 0) _ _ (lit< tt)
    (choose (is_zero w && lt_z (pos 0) n) _ _ h
    (choose (is_near_one w) _ _ tt
    (choose (is_past w n) _ _ (either (not (negative binary32 w) || eqb (nat_abs n % 2) 0) _ _ (lit< tt) (lit< tt))
    (choose (is_below w n) _ _ (lit< tt) tt)))))

powi_is_word : (w : ℕ) (n : ℤ) → Word w → Word (powi_word w n)
unfolding powi_word
powi_is_word w n h = go (early w n) (early_word w n h)
  where
    go : (o : Option ℕ) → AnyWord o → Word (get_or o (squaring_word w n))
    go none k = squaring_is_word w n
    go (some v) k = k

-- ---- all of them

Answers : ℕ → Kernel → Type 0
Answers n k = (a b : ℕ) → Word a → Word b → Word (raw_of k a b)

each : Each Answers 0 kernels
unfolding Answers
each =
    (λ a b h k. lit< tt)
    ⨟ (λ a b h k. trunc_is_word a h)
    ⨟ (λ a b h k. fract_is_word a h)
    ⨟ (λ a b h k. of_float _ (floor_fits binary32 _))
    ⨟ (λ a b h k. of_float _ (neg-fits binary32 _ (floor_fits binary32 _)))
    ⨟ (λ a b h k. of_float _ (of_int-fits binary32 _))
    ⨟ (λ a b h k. abs_is_word a)
    ⨟ (λ a b h k. signed (negative binary32 b) _ (abs_lt a))
    ⨟ (λ a b h k. signum_is_word a)
    ⨟ (λ a b h k. sqrt_is_word a)
    ⨟ (λ a b h k. modulo _)
    ⨟ (λ a b h k. modulo _)
    ⨟ (λ a b h k. recip_is_word a)
    ⨟ (λ a b h k. exp_is_word a)
    ⨟ (λ a b h k. ln_is_word a)
    ⨟ (λ a b h k. powi_is_word a (to_z w32 b) h)
    ⨟ (λ a b h k. powf_is_word a b)
    ⨟ (λ a b h k. atan_is_word a)
    ⨟ (λ a b h k. atan2_is_word a b)
    ⨟ (λ a b h k. cos_is_word a)
    ⨟ (λ a b h k. sin_is_word a)
    ⨟ (λ a b h k. hypot_is_word a b)
    ⨟ (λ a b h k. asin_is_word a)
    ⨟ (λ a b h k. acos_is_word a)
    ⨟ (λ a b h k. tan_is_word a)
    ⨟ (λ a b h k. rem_euclid_is_word a b)
    ⨟ (λ a b h k. div_euclid_is_word a b)
    ⨟ done

pub raw_word : (n a b : ℕ) → a < 2 ^ 32 → b < 2 ^ 32 → raw_of (kernel_of n) a b < 2 ^ 32
unfolding Answers
raw_word n = of_each Answers (λ n a b h k. lit< tt) each n

pub value_word : (op a b : ℕ) → a < 2 ^ 32 → b < 2 ^ 32 → value_of op a b < 2 ^ 32
value_word op a b h k = either (eqb op op_sqrt && is_zero_word binary32 a) a (raw_of (kernel_of op) a b) h (raw_word op a b h k)
