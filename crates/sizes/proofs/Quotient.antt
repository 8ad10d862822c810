-- What the two arctangents share: a quotient of sums that are not negative, the sign put on its word, and PI / 2 times a number. Assumes nothing.
use Prim.Native.Nat.{ℕ}
use mathlib.Core.Path.{◌≡◌, refl, sym, ◌∙◌}
use mathlib.Core.Bool.{Bool, false, ◌||◌}
use lib.Dec.{T, lit<, lit≤}
use lib.Ieee.{Float, binary32, add, mul, fits, is_nan, nan_bits, of_bits}
use lib.Ieee.Bits.{nan_bits_is}
use Rattle.format.specs.Fields.{negative}
use Rattle.format.specs.Value.{Finite}
use Rattle.format.proofs.Sign.{sign_set}
use Rattle.float.specs.Engine.{ieee, abs_of}
use Rattle.float.specs.Atan.{sign_or}
use Rattle.sizes.proofs.Size.{AtLeast, NotNegative, without_sign, add_not_negative, add_at_least, add_at_least_right}
use Rattle.sizes.proofs.Words.{constant, word_at_least, abs_value}
use Rattle.sizes.proofs.Numbers.{mul_number_some}

pub abs_not_negative : (x : Float) → T (fits binary32 x) → is_nan x ≡ false → NotNegative (abs_of ieee x)
abs_not_negative x t n = rw (abs_value binary32 x t) (without_sign x n)

-- ---- n / (a + b + n), where n = b + c: what is below the line is as large as a, and as c

module _ {a b c : Float} (p : NotNegative a) (q : NotNegative b) (r : NotNegative c) where
  abbrev pub bottom : Float
  bottom = add binary32 (add binary32 a b) (add binary32 b c)

  pub by_first : {d : ℕ} → AtLeast binary32 d a → Finite binary32 d → AtLeast binary32 d bottom
  by_first h t = add_at_least (add_at_least h p q t) (add_not_negative binary32 p q) (add_not_negative binary32 q r) t

  pub by_last : {d : ℕ} → AtLeast binary32 d c → Finite binary32 d → AtLeast binary32 d bottom
  by_last h t = add_at_least_right (add_at_least_right h q r t) (add_not_negative binary32 p q) (add_not_negative binary32 q r) t

-- ---- the word

pub sign_or_number : (s : Bool) (w : ℕ) → nan_bits binary32 w ≡ false → nan_bits binary32 (sign_or s w) ≡ false
unfolding nan_bits
sign_or_number s w h = let k = sign_set binary32 (s || negative binary32 w) w in rw (k.field, k.digits) h

pub read_number : (w : ℕ) → nan_bits binary32 w ≡ false → is_nan (of_bits binary32 w) ≡ false
read_number w h = sym (nan_bits_is binary32 w) ∙ h

-- ---- PI / 2 times a number, an infinity too

pub half_turns : (x : Float) → is_nan x ≡ false → is_nan (mul binary32 (of_bits binary32 0x3fc9_0fdb) x) ≡ false
half_turns x h =
    mul_number_some binary32 0x3fc9_0fdb (of_bits binary32 0x3fc9_0fdb) x (constant binary32 0x3fc9_0fdb tt).finite
    (word_at_least binary32 0x3fc9_0fdb 0x3fc9_0fdb (unfold nan_bits in refl) (lit≤ tt)) (lit< tt) h
