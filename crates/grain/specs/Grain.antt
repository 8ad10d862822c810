-- A record of samples, and what one more offer makes of it: the refusal's number, and the record afterwards. A sample is a word.
-- `count` is of the samples that were taken and `refused` of those that were not, so together they are the offers that were counted. Definitions only.
use Rattle.std.specs.Prelude.{ℕ, ◌+◌, ◌≡◌, cond, leb, ltb, eqb, pos, Float}
use Rattle.std.specs.Float.{Format, binary32}
use Rattle.std.specs.Float.Ieee.{add, sub, mul, div, of_int, of_bits}
use Rattle.format.specs.Fields.{magnitude}
use Rattle.format.specs.Classes.{is_endless}
use Rattle.grain.specs.declared.Grain.{Grain}

-- nothing offered yet; mean and sum are +0
abbrev pub fresh : Grain
fresh = record { count = 0; refused = 0; mean = of_bits binary32 0; sum = of_bits binary32 0 }

-- the mean gains the deviation over n, and the sum the deviation times the sample less the new mean: each step is rounded once
abbrev pub next_mean : Format → Float → Float → Float → Float
next_mean f n mean x = let d = sub f x mean in add f mean (div f d n)

abbrev pub next_sum : Format → Float → Float → Float → Float → Float
next_sum f n mean sum x = let d = sub f x mean in add f sum (mul f d (sub f x (next_mean f n mean x)))

-- a sample taken: n is the count raised by one
unfoldable pub taken : Grain → Float → Grain
taken g x =
    let n = of_int binary32 (pos (g.count + 1)) in
    record { count = g.count + 1; refused = g.refused; mean = next_mean binary32 n g.mean x; sum = next_sum binary32 n g.mean g.sum x }

-- a sample refused: the statistics stay
unfoldable pub turned_away : Grain → Grain
turned_away g = record { count = g.count; refused = g.refused + 1; mean = g.mean; sum = g.sum }

-- how many offers a record counts, how many samples it takes, and the word of 2 ^ 20
abbrev pub most_offers : ℕ
most_offers = 4294967295

abbrev pub most_samples : ℕ
most_samples = 65536

abbrev pub largest : ℕ
largest = 0x4980_0000

-- the first of the four tests that holds
unfoldable pub refusal_of : Grain → ℕ → ℕ
refusal_of g w =
    cond (leb most_offers (g.count + g.refused)) 12
    (cond (is_endless binary32 w) 1
    (cond (ltb largest (magnitude binary32 w)) 4
    (cond (leb most_samples g.count) 11 0)))

-- what an offer with this refusal makes of a record: as it was where it counts no more, a sample more, or one more refused
abbrev pub made : ℕ → Grain → ℕ → Grain
made n g w = cond (eqb n 12) g (cond (eqb n 0) (taken g (of_bits binary32 w)) (turned_away g))

unfoldable pub record_after : Grain → ℕ → Grain
record_after g w = made (refusal_of g w) g w

-- what an offer answers: the refusal, 0 where the sample is taken, and the record afterwards
pub record Offered : Type 0 where
  pub refusal : ℕ
  pub grain : Grain

unfoldable pub offered : Grain → ℕ → Offered
offered g w = record { refusal = refusal_of g w; grain = record_after g w }

-- what an offer in place leaves: its answer, and the record that was lent
abbrev pub Leaves : Grain → ℕ → ℕ → Grain → Type 0
Leaves g w n h = (n ≡ (offered g w).refusal) × (h ≡ (offered g w).grain)
