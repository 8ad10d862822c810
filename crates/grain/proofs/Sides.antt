-- Sides of 0, over the format: a size with a sign as its part on one side and its part on the other, true for below. So what is said of a difference or
-- a sum on one side is said of both. Assumes nothing.
use Prim.Native.Nat.{ℕ, ◌+◌, ◌-◌, ◌≤◌, ◌<◌}
use native.Mathlib.Omega.{arith}
use mathlib.Core.Path.{◌≡◌, refl, ap, ◌∙◌}
use mathlib.Core.Logic.{◌⊎◌, inl, inr}
use mathlib.Core.Bool.{Bool, true, false, not, ◌&&◌}
use borrow.Author.Tests.{le-ltb, lt-ltb}
use lib.Dec.{ltb}
use lib.Ieee.{Format, Float, round, sum}
use Rattle.format.proofs.Same.{zero_of, round_nothing}
use Rattle.format.proofs.Order.{either}

-- the part that lies on a side, and the part on the other

abbrev pub on : Bool → Bool → ℕ → ℕ
on true true a = a
on true false a = 0
on false true a = 0
on false false a = a

abbrev pub off : Bool → Bool → ℕ → ℕ
off o s a = on (not o) s a

-- of one size with a sign beside another: how far it lies ahead on a side, and how far behind
abbrev pub ahead : Bool → Bool → ℕ → Bool → ℕ → ℕ
ahead o s a t b = on o s a + off o t b

abbrev pub behind : Bool → Bool → ℕ → Bool → ℕ → ℕ
behind o s a t b = off o s a + on o t b

-- ---- a difference

to : (f : Format) (s : Bool) (a b c : ℕ) → a ≡ b → round f s a c ≡ round f s b c
to f s a b c e = ap (λ (n : ℕ). round f s n c) e

-- that lies on a side
pub on_side : (f : Format) (o s : Bool) (a : ℕ) (t : Bool) (b c : ℕ) → behind o s a t b < ahead o s a t b → sum f s a (not t) b c ≡ round f o (ahead o s a t b - behind o s a t b) c
unfolding sum
on_side f true true a true b c h = rw (le-ltb a b (omega arith), lt-ltb b a (omega arith)) (to f true (a - b) (a + 0 - (0 + b)) c (omega arith))
on_side f true true a false b c h = to f true (a + b) (a + b - (0 + 0)) c (omega arith)
on_side f true false a true b c h = absurd (omega arith)
on_side f true false a false b c h = rw (lt-ltb a b (omega arith)) (to f true (b - a) (0 + b - (a + 0)) c (omega arith))
on_side f false false a false b c h = rw (le-ltb a b (omega arith)) (to f false (a - b) (a + 0 - (0 + b)) c (omega arith))
on_side f false false a true b c h = to f false (a + b) (a + b - (0 + 0)) c (omega arith)
on_side f false true a false b c h = absurd (omega arith)
on_side f false true a true b c h = rw (lt-ltb a b (omega arith)) (to f false (b - a) (0 + b - (a + 0)) c (omega arith))

-- that lies on neither
pub record Nothing (x : Float) : Type 0 where
  pub sign : Bool
  pub is : x ≡ zero_of sign

nothing_of : (f : Format) (x : Float) (s : Bool) (a c : ℕ) → 0 < c → a ≡ 0 → x ≡ round f s a c → Nothing x
nothing_of f x s a c p e h = record { sign = s; is = h ∙ to f s a 0 c e ∙ round_nothing f s c p }

-- the sizes where they are level: the same, or both nothing
alike : (o s : Bool) (a b : ℕ) → behind o s a s b ≡ ahead o s a s b → a ≡ b
alike true true a b h = omega arith
alike true false a b h = omega arith
alike false true a b h = omega arith
alike false false a b h = omega arith

none : (o s : Bool) (a b : ℕ) → behind o s a (not s) b ≡ ahead o s a (not s) b → a + b ≡ 0
none true true a b h = omega arith
none true false a b h = omega arith
none false true a b h = omega arith
none false false a b h = omega arith

pub level : (f : Format) (o s : Bool) (a : ℕ) (t : Bool) (b c : ℕ) → 0 < c → behind o s a t b ≡ ahead o s a t b → Nothing (sum f s a (not t) b c)
unfolding sum
level f o true a true b c p h = let e : a ≡ b = alike o true a b h in rw (le-ltb a b (omega arith)) (nothing_of f _ _ (a - b) c p (omega arith) refl)
level f o true a false b c p h = nothing_of f _ true (a + b) c p (none o true a b h) refl
level f o false a true b c p h = nothing_of f _ false (a + b) c p (none o false a b h) refl
level f o false a false b c p h = let e : a ≡ b = alike o false a b h in rw (le-ltb a b (omega arith)) (nothing_of f _ _ (a - b) c p (omega arith) refl)

pub on_most : (o s : Bool) (a : ℕ) → on o s a ≤ a
on_most true true a = omega arith
on_most true false a = omega arith
on_most false true a = omega arith
on_most false false a = omega arith

pub one_part : (o s : Bool) (a : ℕ) → ((on o s a ≡ a) × (off o s a ≡ 0)) ⊎ ((on o s a ≡ 0) × (off o s a ≡ a))
one_part true true a = inl (refl, refl)
one_part true false a = inr (refl, refl)
one_part false true a = inr (refl, refl)
one_part false false a = inl (refl, refl)

pub opposite : (o s : Bool) (a : ℕ) → s ≡ not o → (on o s a ≡ 0) × (off o s a ≡ a)
opposite true s a e = rw e ((refl, refl))
opposite false s a e = rw e ((refl, refl))

-- how far apart two sizes with signs are, at most
pub apart : (o s t : Bool) (u v : ℕ) → ahead o s u t v - behind o s u t v ≤ u + v
apart o s t u v = omega (arith, on_most o s u, on_most (not o) t v)

-- ---- something added on a side: past 0, or not

pub record Rounded (f : Format) (x : Float) (a c : ℕ) : Type 0 where
  pub sign : Bool
  pub is : x ≡ round f sign a c

pub past : (f : Format) (o s : Bool) (a b c : ℕ) → off o s a ≤ on o s a + b → Rounded f (sum f s a o b c) (on o s a + b - off o s a) c
unfolding sum
past f true true a b c h = record { sign = true; is = to f true (a + b) (a + b - 0) c (omega arith) }
past f true false a b c h = go (either b a)
  where
    go : (b ≤ a) ⊎ (a < b) → Rounded f (sum f false a true b c) (0 + b - a) c
    go (inl l) = rw (le-ltb a b l) (record { sign = false; is = to f false (a - b) (0 + b - a) c (omega arith) })
    go (inr l) = rw (lt-ltb a b l) (record { sign = true; is = to f true (b - a) (0 + b - a) c (omega arith) })
past f false false a b c h = record { sign = false; is = to f false (a + b) (a + b - 0) c (omega arith) }
past f false true a b c h = go (either b a)
  where
    go : (b ≤ a) ⊎ (a < b) → Rounded f (sum f true a false b c) (0 + b - a) c
    go (inl l) = rw (le-ltb a b l) (record { sign = true && ltb b a; is = to f (true && ltb b a) (a - b) (0 + b - a) c (omega arith) })
    go (inr l) = rw (lt-ltb a b l) (record { sign = false; is = to f false (b - a) (0 + b - a) c (omega arith) })

pub short : (f : Format) (o s : Bool) (a b c : ℕ) → on o s a + b < off o s a → sum f s a o b c ≡ round f (not o) (off o s a - (on o s a + b)) c
unfolding sum
short f true true a b c h = absurd (omega arith)
short f true false a b c h = rw (le-ltb a b (omega arith)) (to f false (a - b) (a - (0 + b)) c (omega arith))
short f false true a b c h = rw (le-ltb a b (omega arith), lt-ltb b a (omega arith)) (to f true (a - b) (a - (0 + b)) c (omega arith))
short f false false a b c h = absurd (omega arith)
