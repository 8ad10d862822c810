-- invsqrt's answer, squared, times a positive normal operand lies from 0.932450 to 1.069107, so from 93/100 to 107/100. Assumes nothing.
use Prim.Native.Nat.{ℕ, suc, ◌+◌, ◌-◌, ◌*◌, ◌/◌, ◌^◌, ◌≤◌, ◌<◌}
use native.Mathlib.Nat.{mul-le-mul, mul-le-mul_left, mul-le-mul_right, le_trans, add-sub_of_le}
use native.Mathlib.Omega.{arith}
use mathlib.Core.Path.{◌≡◌, refl, sym, ap, ◌∙◌}
use mathlib.Core.Logic.{◌⊎◌, inl, inr}
use mathlib.Core.Bool.{false≢true}
use lib.Dec.{lit<, lit≤}
use lib.Pow.{pow-add}
use lib.Ieee.{binary32, hid}
use Rattle.format.specs.Fields.{negative, inf_word}
use Rattle.format.specs.Value.{units, Finite}
use Rattle.format.specs.Estimates.{invsqrt_magic, invsqrt_word, Normal, InvsqrtBound, InvsqrtTight}
use Rattle.format.proofs.Order.{either, squares, no_wrap}
use Rattle.format.proofs.Normal.{finite_below, unsigned_below, units_of, pairs, rest, rest_lt, weight, word_by_twos, ByTwos, units_by_twos}

-- ---- over plain numbers

-- the mean of a, b and b is at least their geometric mean
mean : (a b k : ℕ) → a + 2 * b ≤ k → 27 * (a * (b * b)) ≤ k * (k * k)
mean a b k h = le_trans (omega (arith, mul-le-mul_right (a + 8 * b) (squares a b))) (mul-le-mul h (mul-le-mul h h))

-- a * b * b does not fall below where it starts, where b falls by d and a grows by m * d ..
not_below_start : (m a d b : ℕ) → a * (2 * b + d) ≤ m * (b * b) → a * ((b + d) * (b + d)) ≤ (a + m * d) * (b * b)
not_below_start m a d b h = omega (arith, mul-le-mul_left d h)

-- .. nor below where it ends, where a grows by d
not_below_end : (a d b : ℕ) → b * b ≤ a * (2 * b + d) → (a + d) * (b * b) ≤ a * ((b + d) * (b + d))
not_below_end a d b h = omega (arith, mul-le-mul_left d h)

abbrev Within : ℕ → ℕ → Type 0
Within z y = (932450 * z ≤ 1000000 * y) × (1000000 * y ≤ 1069107 * z)

-- the significands, s the operand's and b the answer's, with their weights: p * p the operand's and q the answer's
weighed : (z s b x v p q k u : ℕ) → x ≡ s * (p * p) → v ≡ b * q → p * q ≡ k → u ≡ z * (k * k) → Within z (s * (b * b)) → Within u (x * (v * v))
weighed z s b x v p q k u ex ev ek eu c =
    rw (ex, ev, eu, sym ek)
    (omega (arith, mul-le-mul_left (p * q * (p * q)) c.0), omega (arith, mul-le-mul_left (p * q * (p * q)) c.1))

loose : (u y : ℕ) → Within u y → (93 * u ≤ 100 * y) × (100 * y ≤ 107 * u)
loose u y (l, m) = (omega arith, omega arith)

-- ---- the significands, by where the operand's rest t lies

-- the leading digit's weight
abbrev lead : ℕ
lead = hid binary32

-- The magic number less half a field is 189 fields and this much. Where half the rest is more, the answer's field is one less.
abbrev edge : ℕ
edge = 0x77_5a86

module _ (t q b : ℕ) (half : q ≡ t / 2) where
  lower_field : t ≤ lead → b + q ≡ lead + edge → Within (2 ^ 71) ((lead + t) * (b * b))
  lower_field h e =
      let l : lead / 2 + edge ≤ b = omega arith in
      let c : lead * (2 * b + q) ≤ 2 * (b * b) = omega (arith, mul-le-mul l l) in
      let a : lead * ((lead + edge) * (lead + edge)) ≤ (lead + 2 * q) * (b * b) = rw e at (not_below_start 2 lead q b c) in
      let g : (lead + 2 * q) * (b * b) ≤ (lead + t) * (b * b) = mul-le-mul_right (b * b) (omega arith) in
      (omega (arith, a, g), omega (arith, mean (lead + t) b (3 * lead + 2 * edge + 1) (omega arith)))

  upper_field : lead ≤ t → (d : ℕ) → q + d ≡ edge → lead + d ≡ b → Within (2 ^ 71) (2 * t * (b * b))
  upper_field h d e k =
      let c : lead * lead ≤ q * (2 * lead + d) = mul-le-mul {n₁ = lead / 2} {m₁ = 2 * lead} (omega arith) (omega arith) in
      let a : edge * (lead * lead) ≤ q * (b * b) = rw (e, k) at (not_below_end q d lead c) in
      let g : 4 * q * (b * b) ≤ 2 * t * (b * b) = mul-le-mul_right (b * b) (omega arith) in
      (omega (arith, a, g), omega (arith, mean t b (2 * lead + 2 * edge + 1) (omega arith)))

  past_edge : t < 2 * lead → (d : ℕ) → edge + 1 * d ≡ q → b + d ≡ 2 * lead → Within (2 ^ 73) (2 * t * (b * b))
  past_edge h d e k =
      let l : lead + edge ≤ b = omega arith in
      let c : edge * (2 * b + d) ≤ 1 * (b * b) = omega (arith, mul-le-mul l l) in
      let a : edge * (2 * lead * (2 * lead)) ≤ q * (b * b) = rw (e, k) at (not_below_start 1 edge d b c) in
      let g : 4 * q * (b * b) ≤ 2 * t * (b * b) = mul-le-mul_right (b * b) (omega arith) in
      (omega (arith, a, g), omega (arith, mean t b (4 * lead + 2 * edge + 1) (omega arith)))

-- ---- the bound

abbrev pub one : ℕ
one = 2 ^ 149 * 2 ^ 149 * 2 ^ 149

-- x * v², which would be one if the answer were exact
abbrev pub product : ℕ → ℕ
product w = units binary32 w * (units binary32 (invsqrt_word w) * units binary32 (invsqrt_word w))

module _ (w : ℕ) (n : Normal binary32 w) where
  abbrev j : ℕ
  j = pairs binary32 w

  abbrev t : ℕ
  t = rest binary32 w

  abbrev q : ℕ
  q = rest binary32 w / 2

  half_word : w / 2 ≡ j * lead + lead / 2 + q
  half_word = omega (arith, word_by_twos binary32 w n)

  pairs_le : j ≤ 126
  pairs_le = omega (arith, word_by_twos binary32 w n)

  answer : invsqrt_word w ≡ invsqrt_magic - w / 2
  answer = no_wrap (2 ^ 32) invsqrt_magic (w / 2) (omega arith) (lit< tt)

  answer_below : invsqrt_word w < inf_word binary32
  answer_below = omega (arith, answer)

  pub invsqrt_finite : Finite binary32 (invsqrt_word w)
  invsqrt_finite = finite_below binary32 (invsqrt_word w) answer_below

  invsqrt_sign : negative binary32 (invsqrt_word w) ≡ negative binary32 w
  invsqrt_sign = unsigned_below binary32 w (invsqrt_word w) n.below answer_below

  -- k is the exponents of the operand's root and of the answer together, and r the answer's fraction
  from : (k z s r : ℕ) → 126 ≤ k → one ≡ z * (2 ^ k * 2 ^ k) → units binary32 w ≡ s * weight binary32 w
      → invsqrt_word w ≡ suc (k - j) * lead + r → r < lead → Within z (s * ((lead + r) * (lead + r))) → InvsqrtTight w (invsqrt_word w)
  from k z s r l u x a d c =
      let v = units_of binary32 (invsqrt_word w) (k - j) r answer_below a d in
      let e : 2 ^ j * 2 ^ (k - j) ≡ 2 ^ k = sym (pow-add 2 j (k - j)) ∙ ap (λ (i : ℕ). 2 ^ i) (add-sub_of_le (le_trans pairs_le l)) in
      let b = weighed z s (lead + r) (units binary32 w) (units binary32 (invsqrt_word w)) (2 ^ j) (2 ^ (k - j)) (2 ^ k) one x v e u c in
      record {
        finite = invsqrt_finite;
        sign = invsqrt_sign;
        least = b.0;
        most = b.1;
      }

  by_field : ByTwos binary32 w → (q ≤ edge) ⊎ (edge < q) → InvsqrtTight w (invsqrt_word w)
  by_field (inl (h, x)) g =
      from 188 (2 ^ 71) (lead + t) (edge - q) (lit≤ tt) refl x (omega (arith, answer, half_word, pairs_le)) (omega arith)
      (lower_field t q (lead + (edge - q)) refl h (omega arith))
  by_field (inr (h, x)) (inl g) =
      from 188 (2 ^ 71) (2 * t) (edge - q) (lit≤ tt) refl x (omega (arith, answer, half_word, pairs_le)) (omega arith)
      (upper_field t q (lead + (edge - q)) refl h (edge - q) (omega arith) refl)
  by_field (inr (h, x)) (inr g) =
      from 187 (2 ^ 73) (2 * t) (lead + edge - q) (lit≤ tt) refl x (omega (arith, answer, half_word, pairs_le)) (omega arith)
      (past_edge t q (lead + (lead + edge - q)) refl (rest_lt binary32 w) (q - edge) (omega arith) (omega (arith, rest_lt binary32 w)))

  pub invsqrt_tight : InvsqrtTight w (invsqrt_word w)
  invsqrt_tight = by_field (units_by_twos binary32 w n) (either q edge)

  pub invsqrt_bound : InvsqrtBound w (invsqrt_word w)
  invsqrt_bound =
      let b = loose one (product w) (invsqrt_tight.least, invsqrt_tight.most) in
      record {
        finite = invsqrt_finite;
        sign = invsqrt_sign;
        least = b.0;
        most = b.1;
      }

-- an answer of the other sign is none
pub invsqrt_not_turned : InvsqrtBound 0x3f80_0000 0xbf77_5a86 → ⊥
invsqrt_not_turned b = false≢true (sym b.sign)

-- to six places neither end could be better
pub invsqrt_least : 1000000 * product 0x406e_b50c < 932451 * one
invsqrt_least = lit< tt

pub invsqrt_most : 1069106 * one < 1000000 * product 0x4024_e705
invsqrt_most = lit< tt
