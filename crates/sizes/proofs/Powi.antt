-- powi's answer is a number, not a NaN: a NaN would need 0 times an infinity, and all that is held while it squares is 1 in size and more, an
-- infinity too, or all of it is finite and 1 and less. Assumes nothing.
use Prim.Native.Nat.{ℕ, zero, suc, ◌*◌, ◌/◌, ◌%◌, ◌^◌, ◌≤◌, ◌<◌}
use native.Mathlib.Nat.{le_of_lt, mul-pos}
use native.Mathlib.Omega.{arith}
use mathlib.Core.Path.{◌≡◌, refl}
use mathlib.Core.Logic.{◌⊎◌, inl, inr, ⊎_elim}
use mathlib.Core.Bool.{Bool, true, false, not, cond, ◌&&◌, ◌||◌}
use mathlib.Core.List.{[], ◌∷◌, ◌++◌}
use mathlib.Core.Option.{Option, none, some, get_or}
use borrow.Author.Tests.{ne_eqb}
use lib.Dec.{T, eqb, eqb-suc-zero, lit<, lit≤}
use lib.IntN.{ℤ, pos, nat_abs}
use lib.Signed.{lt_z}
use lib.Pow.{pow_pos}
use lib.Ieee.{Float, nan, inf, fin, binary32, unlike, up, down, hid, mul, div, fits, nan_bits, of_bits}
use lib.Ieee.Exact.{HasValue}
use lib.Ieee.Fits.{mul-fits, down_pos}
use lib.Ieee.Positive.{first_pos}
use mir.Syntax.{w32}
use mir.Val.{of_z}
use Rattle.format.specs.Fields.{negative, magnitude, exponent, fraction}
use Rattle.format.specs.Value.{units_at, units, Finite}
use Rattle.format.proofs.Nan.{finite_number}
use Rattle.format.proofs.Value.{word_value}
use Rattle.format.proofs.Order.{either}
use Rattle.float.specs.Powi.{Work, multiplied, squared, ended, works, start, early, is_zero, is_near_one, is_past, is_below, infinite, squaring_word, powi_word}
use Rattle.sizes.proofs.Size.{AtMost, AtLeast, round_at_least, mul_at_most, mul_at_least, div_at_most}
use Rattle.sizes.proofs.Words.{at_most_number, at_least_number, number_word}

-- ---- the two sides of 1, 0x3f80_0000: at least 1 in size, an infinity too, and finite and at most 1

abbrev FromOne : Float → Type 0
FromOne = AtLeast binary32 0x3f80_0000

abbrev ToOne : Float → Type 0
ToOne = AtMost binary32 0x3f80_0000

one : Float
one = fin false 1 (pos 0)

mul_from_one : {x y : Float} → FromOne x → FromOne y → FromOne (mul binary32 x y)
mul_from_one h k = mul_at_least 0x3f80_0000 h k tt

mul_to_one : {x y : Float} → ToOne x → ToOne y → ToOne (mul binary32 x y)
mul_to_one h k = mul_at_most 0x3f80_0000 h k tt

-- ---- what is held

-- both on one side of 1, and the result a value of the format
record Held (s : Work) : Type 0 where
  pub side : (FromOne s.base × FromOne s.result) ⊎ (ToOne s.base × ToOne s.result)
  pub held : T (fits binary32 s.result)

multiplied_held : (s : Work) → Held s → Held (multiplied s)
multiplied_held s h = record {
  side = ⊎_elim (λ p. inl (p.0, mul_from_one p.1 p.0)) (λ p. inr (p.0, mul_to_one p.1 p.0)) h.side;
  held = mul-fits binary32 s.result s.base;
}

squared_held : (s : Work) → Held s → Held (squared s)
squared_held s h = record {
  side = ⊎_elim (λ p. inl (mul_from_one p.0 p.0, p.1)) (λ p. inr (mul_to_one p.0 p.0, p.1)) h.side;
  held = h.held;
}

-- so for all the works of m
abbrev Kept : ℕ → ℕ → Type 0
Kept bits m = (t : Work) → Held t → Held (ended t (works bits m t))

works_held : (bits m : ℕ) (s : Work) → Held s → Held (ended s (works bits m s))
unfolding works
works_held zero m s h = h
works_held (suc bits) m s h = go (λ (t : Work) (g : Held t). works_held bits (m / 2) t g) (eqb (m % 2) 1) (eqb (m / 2) 0)
  where
    rest : Kept bits (m / 2) → (c : Bool) (t : Work) → Held t → Held (ended t (cond c [] (squared t ∷ works bits (m / 2) (squared t))))
    rest ih true t h = h
    rest ih false t h = ih (squared t) (squared_held t h)

    go : Kept bits (m / 2) → (b c : Bool) → let l = cond b (multiplied s ∷ []) [] in let t = ended s l in Held (ended s (l ++ cond c [] (squared t ∷ works bits (m / 2) (squared t))))
    go ih true c = rest ih c (multiplied s) (multiplied_held s h)
    go ih false c = rest ih c s h

-- ---- where it starts

-- neither a NaN nor an infinity nor 0
abbrev Ordinary : Float → Type 0
Ordinary nan = ⊥
Ordinary (inf s) = ⊥
Ordinary (fin s m e) = 0 < m * up e

one_read : of_bits binary32 0x3f80_0000 ≡ one
unfolding of_bits one
one_read = refl

one_from_one : FromOne one
unfolding one
one_from_one = record { large = lit≤ tt }

one_to_one : ToOne one
unfolding one
one_to_one = record { finite = tt; small = lit≤ tt }

swapped : (l a b : ℕ) → a * l ≤ l * b → l * (a * 1) ≤ 1 * 1 * b * l
swapped l a b h = omega arith

-- 1 over what is at most 1
inverse : (t : Bool) (n : ℕ) (d : ℤ) → 0 < n * up d → ToOne (fin t n d) → FromOne (div binary32 one (fin t n d))
unfolding div one
inverse t zero d p h = absurd (let z : ⊥ = omega arith in z)
inverse t (suc n) d p h = rw (eqb-suc-zero n) (round_at_least binary32 0x3f80_0000 (unlike false t) (1 * 1 * down d) (suc n * up d * 1) (lit< tt) (omega arith) (swapped (2 ^ 149) (suc n * up d) (down d) h.small))

abbrev Side : Float → Type 0
Side x = (FromOne x × FromOne one) ⊎ (ToOne x × ToOne one)

start_side : (b : Bool) (x : Float) → Ordinary x → Side (cond b (div binary32 one x) x)
start_side b nan h = absurd h
start_side b (inf s) h = absurd h
start_side b (fin t n d) h = go b (either (units binary32 0x3f80_0000 * down d) (n * up d * 2 ^ 149))
  where
    go : (b : Bool) → (units binary32 0x3f80_0000 * down d ≤ n * up d * 2 ^ 149) ⊎ (n * up d * 2 ^ 149 < units binary32 0x3f80_0000 * down d) → Side (cond b (div binary32 one (fin t n d)) (fin t n d))
    go false (inl l) = inl (record { large = l }, one_from_one)
    go false (inr l) = inr (record { finite = tt; small = le_of_lt l }, one_to_one)
    go true (inl l) = inr (div_at_most {c = 0x3f80_0000} 0x3f80_0000 one_to_one (record { large = l }) tt, one_to_one)
    go true (inr l) = inl (inverse t n d h (record { finite = tt; small = le_of_lt l }), one_from_one)

one_fits : T (fits binary32 one)
unfolding fits one
one_fits = tt

above : (x t : ℕ) → 1 ≤ x → 0 < units_at binary32 x t
above zero t h = absurd (let z : ⊥ = omega arith in z)
above (suc x) t h = mul-pos (omega arith) (pow_pos x)

ordinary : (x : Float) (s : Bool) (a c : ℕ) → 0 < a → HasValue x s a c → Ordinary x
ordinary nan s a c h v = v
ordinary (inf t) s a c h v = v
ordinary (fin t m e) s a c h v = first_pos (m * up e) c (rw v.1 (mul-pos h (down_pos e)))

-- ---- the answer

module _ (w : ℕ) (n : ℤ) (normal : hid binary32 ≤ magnitude binary32 w) (finite : Finite binary32 w) where
  start_held : Held (start w n)
  start_held =
      let x = of_bits binary32 w in
      let p : 0 < units binary32 w = above (exponent binary32 w) (fraction binary32 w) (omega arith) in
      let o = ordinary x (negative binary32 w) (units binary32 w) (2 ^ 149) p (word_value binary32 w finite) in
      rw one_read (record { side = start_side (lt_z n (pos 0)) x o; held = one_fits })

  squaring_number : nan_bits binary32 (squaring_word w n) ≡ false
  squaring_number =
      let h = works_held 32 (nat_abs n) (start w n) start_held in
      number_word binary32 _ h.held (⊎_elim (λ p. at_least_number p.1) (λ p. at_most_number p.1) h.side)

-- ---- the early answers

-- an answer, where there is one, is a number
abbrev Answers : Option ℕ → Type 0
Answers none = Unit
Answers (some r) = nan_bits binary32 r ≡ false

chosen : (b : Bool) (x y : Option ℕ) → Answers x → Answers y → Answers (cond b x y)
chosen true x y h k = h
chosen false x y h k = k

answered : (o : Option ℕ) (r : ℕ) → Answers o → nan_bits binary32 r ≡ false → nan_bits binary32 (get_or o r) ≡ false
answered none r h k = k
answered (some a) r h k = h

infinite_number : (w : ℕ) (n : ℤ) → nan_bits binary32 (infinite w n) ≡ false
unfolding nan_bits
infinite_number w n = go (not (negative binary32 w) || eqb (nat_abs n % 2) 0)
  where
    go : (b : Bool) → nan_bits binary32 (cond b 0x7f80_0000 0xff80_0000) ≡ false
    go true = refl
    go false = refl

one_number : nan_bits binary32 0x3f80_0000 ≡ false
unfolding nan_bits
one_number = refl

zero_number : nan_bits binary32 0 ≡ false
unfolding nan_bits
zero_number = refl

early_answers : (w : ℕ) (n : ℤ) → Finite binary32 w → (of_z w32 n ≡ 2 ^ 31 → ⊥) → Answers (early w n)
early_answers w n h k =
    rw (ne_eqb (of_z w32 n) (2 ^ 31) k)
    (chosen (eqb (of_z w32 n) 0) _ _ one_number
    (chosen (is_zero w && lt_z (pos 0) n) _ _ (finite_number binary32 w h)
    (chosen (is_near_one w) _ _ tt
    (chosen (is_past w n) _ _ (infinite_number w n)
    (chosen (is_below w n) _ _ zero_number tt)))))

-- of every normal number, to every power but the least integer
pub powi_number : (w : ℕ) (n : ℤ) → w < 2 ^ 32 → hid binary32 ≤ magnitude binary32 w → Finite binary32 w → (of_z w32 n ≡ 2 ^ 31 → ⊥)
    → nan_bits binary32 (powi_word w n) ≡ false
unfolding powi_word
powi_number w n l h f k = answered (early w n) (squaring_word w n) (early_answers w n f k) (squaring_number w n h f)
