-- Two of the constants are halves of two others, by the division that rounds once. Assumes nothing.
use Prim.Native.Nat.{ℕ}
use mathlib.Core.Bool.{true}
use mathlib.Core.List.{List, [], ◌∷◌}
use mathlib.Core.Path.{◌≡◌, refl}
use lib.Ieee.{binary32, div, of_bits, to_bits}
use lib.ListN.{get_or}
use Rattle.float.proofs.Rows.{Row, ◌gives◌, agree}
use Rattle.probe.specs.Constants.{constants}

abbrev pub constant : ℕ → ℕ
constant place = get_or constants place 0

-- 0x4000_0000 is 2
abbrev pub half : ℕ → ℕ
half w = to_bits binary32 (div binary32 (of_bits binary32 w) (of_bits binary32 0x4000_0000))

-- cos's turn is half of 1/pi, and pi/2 is half of pi
abbrev pub rows : List Row
rows =
    half (constant 6) gives constant 17
    ∷ half (constant 10) gives constant 11
    ∷ []

pub halves : agree rows ≡ true
unfolding div of_bits to_bits
halves = refl
