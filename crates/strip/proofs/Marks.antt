-- What a mark whose highest bit is clear tells of its words, and what or-ed marks tell of each. Assumes nothing.
use Prim.Native.Nat.{ℕ, ◌+◌, ◌-◌, ◌%◌, ◌^◌, ◌≤◌, ◌<◌}
use native.Mathlib.Omega.{arith}
use mathlib.Core.Path.{◌≡◌, refl}
use mathlib.Core.Logic.{◌⊎◌, inl, inr}
use mathlib.Core.Bool.{Bool, true, false, or-true}
use borrow.Author.Tests.{le-leb, leb-true, leb-false}
use lib.Dec.{leb}
use lib.Bits.{bit_or, or_add_and, and_le_l, and_le_r, or_lt}
use lib.Ieee.{binary32}
use Rattle.format.specs.Fields.{magnitude}
use Rattle.strip.specs.Reach.{angle_reach}

-- ---- two marks or-ed

pub or_left : (a b n : ℕ) → bit_or a b < n → a < n
or_left a b n h = omega (arith, or_add_and a b, and_le_r a b, h)

pub or_right : (a b n : ℕ) → bit_or a b < n → b < n
or_right a b n h = omega (arith, or_add_and a b, and_le_l a b, h)

or_either : (a b : ℕ) → 2 ^ 31 ≤ bit_or a b → (2 ^ 31 ≤ a) ⊎ (2 ^ 31 ≤ b)
or_either a b h = go (leb (2 ^ 31) a) refl (leb (2 ^ 31) b) refl
  where
    go : (s : Bool) → leb (2 ^ 31) a ≡ s → (t : Bool) → leb (2 ^ 31) b ≡ t → (2 ^ 31 ≤ a) ⊎ (2 ^ 31 ≤ b)
    go true d t e = inl (leb-true (2 ^ 31) a d)
    go false d true e = inr (leb-true (2 ^ 31) b e)
    go false d false e = absurd (let z : ⊥ = omega (arith, or_lt 31 a b (leb-false (2 ^ 31) a d) (leb-false (2 ^ 31) b e), h) in z)

-- ---- the marks

pub normal_told : (w a b : ℕ) → w < 2 ^ 32 → a ≡ (w + 0xff80_0000) % 2 ^ 32 → b ≡ (a + 0x0100_0000) % 2 ^ 32 → bit_or a b < 2 ^ 31
    → (0x0080_0000 ≤ w) × (w < 0x7f80_0000)
normal_told w a b l d e h =
    let p = or_left a b (2 ^ 31) h in
    let q = or_right a b (2 ^ 31) h in
    (omega (arith, p, q, l, d, e), omega (arith, p, q, l, d, e))

pub unsigned_told : (w a : ℕ) → a ≡ (w + 0x007f_ffff) % 2 ^ 32 → bit_or w a < 2 ^ 31 → w ≤ 0x7f80_0000
unsigned_told w a e h =
    let p = or_left w a (2 ^ 31) h in
    let q = or_right w a (2 ^ 31) h in
    omega (arith, p, q, e)

pub numbers_told : (a b m n : ℕ) → (a < 2 ^ 31 → m ≤ 0x7f80_0000) → (b < 2 ^ 31 → n ≤ 0x7f80_0000) → bit_or a b < 2 ^ 31 → (m ≤ 0x7f80_0000) × (n ≤ 0x7f80_0000)
numbers_told a b m n f g h = (f (or_left a b (2 ^ 31) h), g (or_right a b (2 ^ 31) h))

pub range_told : (a b m : ℕ) → m < 2 ^ 31 → (a < 2 ^ 31 → m ≤ 0x7e80_0000) → b ≡ (m + 0xff80_0000) % 2 ^ 32 → bit_or a b < 2 ^ 31 → (0x0080_0000 ≤ m) × (m ≤ 0x7e80_0000)
range_told a b m l f e h = let q = or_right a b (2 ^ 31) h in (omega (arith, q, e, l), f (or_left a b (2 ^ 31) h))

module _ (y x : ℕ) where
  abbrev m : ℕ
  m = magnitude binary32 y

  abbrev n : ℕ
  n = magnitude binary32 x

  pair_told : bit_or (bit_or (m + 0x217f_ffff) (n + 0x217f_ffff)) (0xffff_ffff - bit_or (m + 0x5e80_0000) (n + 0x5e80_0000)) < 2 ^ 31 → angle_reach y x ≡ true
  pair_told h = go (or_either (m + 0x5e80_0000) (n + 0x5e80_0000) (omega (arith, q)))
    where
      p : bit_or (m + 0x217f_ffff) (n + 0x217f_ffff) < 2 ^ 31
      p = or_left (bit_or (m + 0x217f_ffff) (n + 0x217f_ffff)) (0xffff_ffff - bit_or (m + 0x5e80_0000) (n + 0x5e80_0000)) (2 ^ 31) h

      q : 0xffff_ffff - bit_or (m + 0x5e80_0000) (n + 0x5e80_0000) < 2 ^ 31
      q = or_right (bit_or (m + 0x217f_ffff) (n + 0x217f_ffff)) (0xffff_ffff - bit_or (m + 0x5e80_0000) (n + 0x5e80_0000)) (2 ^ 31) h

      height : leb m 0x5e80_0000 ≡ true
      height = let l = or_left (m + 0x217f_ffff) (n + 0x217f_ffff) (2 ^ 31) p in le-leb m 0x5e80_0000 (omega (arith, l))

      across : leb n 0x5e80_0000 ≡ true
      across = let l = or_right (m + 0x217f_ffff) (n + 0x217f_ffff) (2 ^ 31) p in le-leb n 0x5e80_0000 (omega (arith, l))

      go : (2 ^ 31 ≤ m + 0x5e80_0000) ⊎ (2 ^ 31 ≤ n + 0x5e80_0000) → angle_reach y x ≡ true
      go (inl k) = rw (height, across, le-leb 0x2180_0000 m (omega (arith, k)))
      go (inr k) = rw (height, across, le-leb 0x2180_0000 n (omega (arith, k))) (or-true (leb 0x2180_0000 m))

pub angle_told : (y x a b : ℕ) → a ≡ magnitude binary32 y → b ≡ magnitude binary32 x
    → bit_or (bit_or (a + 0x217f_ffff) (b + 0x217f_ffff)) (0xffff_ffff - bit_or (a + 0x5e80_0000) (b + 0x5e80_0000)) < 2 ^ 31 → angle_reach y x ≡ true
angle_told y x a b p q h = pair_told y x (rw (p, q) at h)
