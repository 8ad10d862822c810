-- Histories worked out: the refusals in turn, and what is left of the record, whatever record it was. One computation over the definitions, with
-- rows on both sides of each test. And answers that what an offer in place leaves rules out. Assumes nothing.
use Prim.Native.Nat.{ℕ}
use native.Mathlib.Omega.{arith}
use mathlib.Core.Path.{◌≡◌, refl, ap}
use mathlib.Core.List.{List, [], ◌∷◌, map}
use mathlib.Core.Bool.{false}
use lib.IntN.{pos}
use lib.Ieee.{binary32, fin, add, sub, mul, div, of_int, of_bits, to_bits}
use Rattle.grain.specs.declared.Grain.{Grain}
use Rattle.grain.specs.Grain.{fresh, largest, taken, turned_away, refusal_of, record_after, offered, Leaves}
use Rattle.grain.specs.History.{after, accepted_in, refused_in, EachTaken}

-- a record, with its two floats as words
pub record Words : Type 0 where
  pub count : ℕ
  pub refused : ℕ
  pub mean : ℕ
  pub sum : ℕ

abbrev four : ℕ → ℕ → ℕ → ℕ → Words
four n k m s = record { count = n; refused = k; mean = m; sum = s }

abbrev held : Words → Grain
held v = record { count = v.count; refused = v.refused; mean = of_bits binary32 v.mean; sum = of_bits binary32 v.sum }

abbrev shown : Grain → Words
shown g = four g.count g.refused (to_bits binary32 g.mean) (to_bits binary32 g.sum)

abbrev refusals_in : Grain → List ℕ → List ℕ
refusals_in g [] = []
refusals_in g (w ∷ ws) = refusal_of g w ∷ refusals_in (record_after g w) ws

-- a record, the samples offered to it, their refusals and the record that is left
pub record Case : Type 0 where
  pub from : Words
  pub samples : List ℕ
  pub refusals : List ℕ
  pub leaves : Words

abbrev case : Words → List ℕ → List ℕ → Words → Case
case v ws ns u = record { from = v; samples = ws; refusals = ns; leaves = u }

-- a history from a fresh record
abbrev new : List ℕ → List ℕ → Words → Case
new = case (four 0 0 0 0)

-- one offer to a record of this count and so many refused, whose mean is 0.5 and whose sum is 0.25: refused, with the two afterwards
abbrev stays : ℕ → ℕ → ℕ → ℕ → ℕ → ℕ → Case
stays n k w r m j = case (four n k 0x3f00_0000 0x3e80_0000) (w ∷ []) (r ∷ []) (four m j 0x3f00_0000 0x3e80_0000)

abbrev pub cases : List Case
cases =
    -- 1, 2, 3, 4: the mean 2.5 and the sum 5; 2, 4, 4, 4, 5, 5, 7, 9: 5 and 32
    new (0x3f80_0000 ∷ 0x4000_0000 ∷ 0x4040_0000 ∷ 0x4080_0000 ∷ []) (0 ∷ 0 ∷ 0 ∷ 0 ∷ []) (four 4 0 0x4020_0000 0x40a0_0000)
    ∷ new (0x4000_0000 ∷ 0x4080_0000 ∷ 0x4080_0000 ∷ 0x4080_0000 ∷ 0x40a0_0000 ∷ 0x40a0_0000 ∷ 0x40e0_0000 ∷ 0x4110_0000 ∷ []) (0 ∷ 0 ∷ 0 ∷ 0 ∷ 0 ∷ 0 ∷ 0 ∷ 0 ∷ []) (four 8 0 0x40a0_0000 0x4200_0000)
    -- 0.5, 0.8, 0.2, 0.9, and 0.1 thrice and 0.6: where a step is not rounded, or the steps are others of the same value, the words are not these
    ∷ new (0x3f00_0000 ∷ 0x3f4c_cccd ∷ 0x3e4c_cccd ∷ 0x3f66_6666 ∷ []) (0 ∷ 0 ∷ 0 ∷ 0 ∷ []) (four 4 0 0x3f19_999a 0x3e99_999a)
    ∷ new (0x3dcc_cccd ∷ 0x3dcc_cccd ∷ 0x3dcc_cccd ∷ 0x3f19_999a ∷ []) (0 ∷ 0 ∷ 0 ∷ 0 ∷ []) (four 4 0 0x3e66_6666 0x3e40_0001)
    -- both ends, with refused ones between; numbers that are not normal, at their value; -0 twice
    ∷ new (0x4980_0000 ∷ 0x7fc0_0000 ∷ 0xc980_0001 ∷ 0xc980_0000 ∷ []) (0 ∷ 1 ∷ 4 ∷ 0 ∷ []) (four 2 2 0x0000_0000 0x5400_0000)
    ∷ new (0x0000_0001 ∷ 0x8000_0001 ∷ 0x0000_0003 ∷ []) (0 ∷ 0 ∷ 0 ∷ []) (four 3 0 0x0000_0001 0x0000_0000)
    ∷ new (0x807f_ffff ∷ 0x0080_0000 ∷ []) (0 ∷ 0 ∷ []) (four 2 0 0x0000_0001 0x0000_0000)
    ∷ new (0x8000_0000 ∷ 0x8000_0000 ∷ []) (0 ∷ 0 ∷ []) (four 2 0 0x0000_0000 0x0000_0000)
    -- nothing offered
    ∷ new [] [] (four 0 0 0 0)
    -- 1: the infinities, the first NaN and the last; 4: the largest numbers, and those next to 2 ^ 20
    ∷ stays 3 2 0x7f80_0000 1 3 3
    ∷ stays 3 2 0xff80_0000 1 3 3
    ∷ stays 3 2 0x7f80_0001 1 3 3
    ∷ stays 3 2 0xffff_ffff 1 3 3
    ∷ stays 3 2 0x7f7f_ffff 4 3 3
    ∷ stays 3 2 0xff7f_ffff 4 3 3
    ∷ stays 3 2 0x4980_0001 4 3 3
    ∷ stays 3 2 0xc980_0001 4 3 3
    -- 2 ^ 20, -2 ^ 20, the number below 2 ^ 20, and 0
    ∷ case (four 3 2 0x3f00_0000 0x3e80_0000) (0x4980_0000 ∷ []) (0 ∷ []) (four 4 2 0x4880_000c 0x533f_fff4)
    ∷ case (four 3 2 0x3f00_0000 0x3e80_0000) (0xc980_0000 ∷ []) (0 ∷ []) (four 4 2 0xc87f_ffe8 0x5340_000c)
    ∷ case (four 3 2 0x3f00_0000 0x3e80_0000) (0x497f_ffff ∷ []) (0 ∷ []) (four 4 2 0x4880_000c 0x533f_fff2)
    ∷ case (four 3 2 0x3f00_0000 0x3e80_0000) (0x0000_0000 ∷ []) (0 ∷ []) (four 4 2 0x3ec0_0000 0x3ee0_0000)
    -- the last sample that is taken, and 11; 1 and 4 come before it
    ∷ case (four 65535 0 0x3f00_0000 0x3e80_0000) (0x3f80_0000 ∷ 0x3f80_0000 ∷ []) (0 ∷ 11 ∷ []) (four 65536 1 0x3f00_0080 0x3eff_ff80)
    ∷ stays 65536 0 0x3f80_0000 11 65536 1
    ∷ stays 65537 0 0x3f80_0000 11 65537 1
    ∷ stays 65536 0 0x7f80_0000 1 65536 1
    ∷ stays 65536 0 0x4980_0001 4 65536 1
    -- the last offer that is counted, taken or refused, and 12 before all others
    ∷ case (four 1 4294967293 0x3f00_0000 0x3e80_0000) (0x3f80_0000 ∷ 0x3f80_0000 ∷ 0x7fc0_0000 ∷ []) (0 ∷ 12 ∷ 12 ∷ []) (four 2 4294967293 0x3f40_0000 0x3ec0_0000)
    ∷ case (four 65536 4294901758 0x3f00_0000 0x3e80_0000) (0x3f80_0000 ∷ 0x3f80_0000 ∷ 0x3f80_0000 ∷ []) (11 ∷ 12 ∷ 12 ∷ []) (four 65536 4294901759 0x3f00_0000 0x3e80_0000)
    ∷ stays 0 4294967294 0x7f80_0000 1 0 4294967295
    ∷ stays 0 4294967295 0x3f80_0000 12 0 4294967295
    ∷ stays 1 4294967294 0x7f80_0000 12 1 4294967294
    ∷ stays 65536 4294901759 0x4980_0001 12 65536 4294901759
    ∷ stays 4294967295 0 0x3f80_0000 12 4294967295 0
    -- records that no history leaves: past the end by far, where the two numbers are more than 32 bits together, and with other floats
    ∷ stays 4294967294 0 0x3f80_0000 11 4294967294 1
    ∷ stays 2147483648 2147483648 0x3f80_0000 12 2147483648 2147483648
    ∷ stays 4294967295 4294967295 0x7fc0_0000 12 4294967295 4294967295
    ∷ case (four 1 0 0x7f80_0000 0x0000_0000) (0x3f80_0000 ∷ []) (0 ∷ []) (four 2 0 0x7fc0_0000 0x7fc0_0000)
    ∷ case (four 1 0 0x0000_0000 0xff80_0000) (0x3f80_0000 ∷ []) (0 ∷ []) (four 2 0 0x3f00_0000 0xff80_0000)
    ∷ case (four 1 0 0x0000_0000 0x7fc0_0000) (0x7f80_0000 ∷ []) (1 ∷ []) (four 1 1 0x0000_0000 0x7fc0_0000)
    ∷ case (four 1 0 0x7f7f_ffff 0x7f7f_ffff) (0x3f80_0000 ∷ []) (0 ∷ []) (four 2 0 0x7eff_ffff 0x7f80_0000)
    ∷ case (four 1 0 0x8000_0000 0x8000_0000) (0x8000_0000 ∷ []) (0 ∷ []) (four 2 0 0x0000_0000 0x8000_0000)
    ∷ []

abbrev worked : Case → Case
worked c = case c.from c.samples (refusals_in (held c.from) c.samples) (shown (after (held c.from) c.samples))

pub examples : map worked cases ≡ cases
unfolding taken turned_away refusal_of record_after add sub mul div of_bits to_bits of_int
examples = refl

-- the record that a case from nothing begins with is a fresh one; the largest sample is 2 ^ 20
pub begins_fresh : held (four 0 0 0 0) ≡ fresh
begins_fresh = refl

pub largest_is : of_bits binary32 largest ≡ fin false 1 (pos 20)
unfolding of_bits
largest_is = refl

-- taken and refused, counted by going through: 2 ^ 20, a NaN, and 2 ^ 20 twice, to a record that has room for two samples and three offers
pub counted_through : (accepted_in (held (four 65534 4294901758 0 0)) (0x4980_0000 ∷ 0x7fc0_0000 ∷ 0x4980_0000 ∷ 0x4980_0000 ∷ []) ≡ 2) × (refused_in (held (four 65534 4294901758 0 0)) (0x4980_0000 ∷ 0x7fc0_0000 ∷ 0x4980_0000 ∷ 0x4980_0000 ∷ []) ≡ 1)
unfolding taken turned_away refusal_of record_after
counted_through = (refl, refl)

-- every sample that was taken is 1, though a NaN and 2 were offered too: their refusals are 1, 11 and 12
pub taken_are_alike : EachTaken (λ w. w ≡ 0x3f80_0000) (held (four 65535 4294901757 0 0)) (0x7fc0_0000 ∷ 0x3f80_0000 ∷ 0x4000_0000 ∷ 0x4000_0000 ∷ [])
unfolding taken turned_away refusal_of record_after
taken_are_alike = ((λ e. absurd (omega arith)), ((λ e. refl), ((λ e. absurd (omega arith)), ((λ e. absurd (omega arith)), tt))))

-- ---- an offer in place of a NaN, and what is ruled out: it answers 0; the sample is taken and its record not stored; a refusal with no trace; 12
-- with one

pub leaves_one_more : Leaves fresh 0x7fc0_0000 1 (turned_away fresh)
unfolding taken turned_away refusal_of record_after offered
leaves_one_more = (refl, refl)

pub wrong_leavings : (Leaves fresh 0x7fc0_0000 0 (turned_away fresh) → ⊥) × ((Leaves fresh 0x3f80_0000 0 fresh → ⊥) × ((Leaves fresh 0x7fc0_0000 1 fresh → ⊥) × (Leaves (held (four 0 4294967295 0 0)) 0 12 (held (four 0 4294967296 0 0)) → ⊥)))
unfolding taken turned_away refusal_of record_after offered
wrong_leavings = (
  (λ l. not_so 0 1 l.0 (λ e. omega arith)),
  (
    (λ l. not_so 0 1 (ap (λ (g : Grain). g.count) l.1) (λ e. omega arith)),
    (
      (λ l. not_so 0 1 (ap (λ (g : Grain). g.refused) l.1) (λ e. omega arith)),
      (λ l. not_so 4294967296 4294967295 (ap (λ (g : Grain). g.refused) l.1) (λ e. omega arith)),
    ),
  ),
)
  where
    not_so : (a b : ℕ) → a ≡ b → (a ≡ b → ⊥) → ⊥
    not_so a b e n = n e
