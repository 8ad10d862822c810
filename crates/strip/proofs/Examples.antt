-- Strips worked out: what each returns and what its two lists are left with, which operations there are, and which words the blocks run without a
-- test. Assumes nothing.
use Prim.Native.Nat.{ℕ, suc}
use mathlib.Core.Path.{◌≡◌, refl}
use mathlib.Core.Bool.{Bool, true, false}
use mathlib.Core.List.{List, [], ◌∷◌, map}
use lib.ListN.{length, take, replicate}
use lib.Ieee.{add, sub, mul, div, rem, lt, le, eq, nan_bits, of_bits, to_bits, of_int, to_signed}
use Rattle.float.specs.Atan.{atan_norm_word, atan_word}
use Rattle.float.specs.Atan2.{quarters, atan2_word}
use Rattle.float.specs.Powi.{works, powi_word}
use Rattle.float.specs.Hypot.{hypot_word}
use Rattle.float.specs.RemEuclid.{rem_euclid_word}
use Rattle.float.specs.DivEuclid.{div_euclid_word}
use Rattle.guard.specs.Gates.{judged}
use Rattle.guard.specs.Refusals.{refusal_behind}
use Rattle.strip.specs.Strip.{operands_in, word_at, refusal_at, strip_refusal, strip_leaves}
use Rattle.strip.specs.Reach.{reach}
use Rattle.strip.proofs.OneAnswer.{Seen, seen, shows}

-- ---- whole strips

pub record Case : Type 0 where
  pub op : ℕ
  pub first : List ℕ
  pub second : List ℕ
  pub answers : List ℕ
  pub refusals : List ℕ
  pub leaves : Seen

abbrev over : ℕ → List ℕ → List ℕ → List ℕ → List ℕ → Seen → Case
over op a b o r s = record { op = op; first = a; second = b; answers = o; refusals = r; leaves = s }

-- a list of one word, of two and of three
abbrev alone : ℕ → List ℕ
alone a = a ∷ []

abbrev two : ℕ → ℕ → List ℕ
two a b = a ∷ b ∷ []

abbrev three : ℕ → ℕ → ℕ → List ℕ
three a b c = a ∷ b ∷ c ∷ []

-- what is left where the strip is refused with n, of lists that held 7 and 8
abbrev untouched : ℕ → Seen
untouched n = seen n (alone 7) (alone 8)

abbrev pub cases : List Case
cases =
    -- sqrt of 4, -1 and 00000001, whatever the second list holds, and of both zeros; the same raw, of -1 and -0; recip of both zeros
    over 0x09 (three 0x4080_0000 0xbf80_0000 0x0000_0001) (three 1 2 3) (three 7 7 7) (three 8 8 8) (seen 0 (three 0x4000_0000 0 0) (three 0 3 9))
    ∷ over 0x09 (two 0x0000_0000 0x8000_0000) (two 1 2) (two 7 7) (two 8 8) (seen 0 (two 0x0000_0000 0x8000_0000) (two 0 0))
    ∷ over 0x89 (two 0xbf80_0000 0x8000_0000) (two 1 2) (two 7 7) (two 8 8) (seen 0 (two 0x7fc0_0000 0x5fc0_0000) (two 0 0))
    ∷ over 0x0c (two 0x0000_0000 0x8000_0000) (two 1 2) (two 7 7) (two 8 8) (seen 0 (two 0 0) (two 2 2))
    -- 3 to the powers 3, -1 and 2^20 + 1; 3 to -1 raw
    ∷ over 0x0f (three 0x4040_0000 0x4040_0000 0x4040_0000) (three 3 0xffff_ffff 0x0010_0001) (three 7 7 7) (three 8 8 8) (seen 0 (three 0x41d8_0000 0x3eaa_aaab 0) (three 0 0 5))
    ∷ over 0x8f (alone 0x4040_0000) (alone 0xffff_ffff) (alone 7) (alone 8) (seen 0 (alone 0x3eaa_aaab) (alone 0))
    -- hypot of 3 and 4 and of two zeros; atan2 of two zeros raw, and guarded of 1 and -2
    ∷ over 0x15 (two 0x4040_0000 0) (two 0x4080_0000 0) (two 7 7) (two 8 8) (seen 0 (two 0x40a4_0000 0) (two 0 4))
    ∷ over 0x92 (alone 0) (alone 0) (alone 7) (alone 8) (seen 0 (alone 0x7fc0_0000) (alone 0))
    ∷ over 0x12 (alone 0x3f80_0000) (alone 0xc000_0000) (alone 7) (alone 8) (seen 0 (alone 0x402b_374b) (alone 0))
    -- rem_euclid of -7 by 3 and by 0; div_euclid of the same raw
    ∷ over 0x19 (two 0xc0e0_0000 0xc0e0_0000) (two 0x4040_0000 0) (two 7 7) (two 8 8) (seen 0 (two 0x4000_0000 0) (two 0 4))
    ∷ over 0x9a (two 0xc0e0_0000 0xc0e0_0000) (two 0x4040_0000 0) (two 7 7) (two 8 8) (seen 0 (two 0xc040_0000 0xff80_0000) (two 0 0))
    -- no place: answered, and an unknown operation refused
    ∷ over 0x09 [] [] [] [] (seen 0 [] [])
    ∷ over 0x1f [] [] [] [] (seen 6 [] [])
    -- each of the lists one too short, and one too long
    ∷ over 0x09 [] (alone 1) (alone 7) (alone 8) (untouched 10)
    ∷ over 0x09 (alone 1) [] (alone 7) (alone 8) (untouched 10)
    ∷ over 0x09 (alone 1) (alone 1) [] (alone 8) (seen 10 [] (alone 8))
    ∷ over 0x09 (alone 1) (alone 1) (alone 7) [] (seen 10 (alone 7) [])
    ∷ over 0x09 (two 1 1) (alone 1) (alone 7) (alone 8) (untouched 10)
    ∷ over 0x09 (alone 1) (two 1 1) (alone 7) (alone 8) (untouched 10)
    ∷ over 0x09 (alone 1) (alone 1) (two 7 7) (alone 8) (seen 10 (two 7 7) (alone 8))
    ∷ over 0x09 (alone 1) (alone 1) (alone 7) (two 8 8) (seen 10 (alone 7) (two 8 8))
    -- two of one length and two of another
    ∷ over 0x09 (alone 1) (alone 1) (two 7 7) (two 8 8) (seen 10 (two 7 7) (two 8 8))
    ∷ over 0x09 (alone 1) (two 1 1) (alone 7) (two 8 8) (seen 10 (alone 7) (two 8 8))
    ∷ over 0x09 (alone 1) (two 1 1) (two 7 7) (alone 8) (seen 10 (two 7 7) (alone 8))
    -- an unknown operation, and one beside lists that do not agree: lengths come first
    ∷ over 0x1f (alone 1) (alone 1) (alone 7) (alone 8) (untouched 6)
    ∷ over 0x1f (alone 1) [] (alone 7) (alone 8) (untouched 10)
    ∷ []

pub examples : map (λ c. shows c.op c.first c.second c.answers c.refusals) cases ≡ map (λ c. c.leaves) cases
unfolding refusal_behind judged word_at refusal_at works powi_word atan_norm_word atan_word quarters atan2_word hypot_word rem_euclid_word div_euclid_word add sub mul div rem lt le eq nan_bits of_bits to_bits of_int to_signed
examples = refl

-- lists that do not agree are told before an operation that is not there
pub lengths_first : strip_refusal 0x1f (alone 1) [] (alone 7) (alone 8) ≡ 10
lengths_first = refl

-- a refused place is passed, and not the end: the place after it is answered
pub goes_on : shows 0x09 (two 0xbf80_0000 0x4080_0000) (two 0 0) (two 7 7) (two 8 8) ≡ seen 0 (two 0 0x4000_0000) (two 3 0)
unfolding refusal_behind judged word_at refusal_at lt le eq nan_bits of_bits to_bits
goes_on = refl

-- its own word is 0, and not what was there
pub old_word_goes : strip_leaves (word_at 0x09) 0 (alone 0xbf80_0000) (alone 0) (alone 7) ≡ alone 0
unfolding refusal_behind judged word_at lt le eq nan_bits of_bits to_bits
old_word_goes = refl

-- ---- which operations there are, and how many words each reads

abbrev each : List ℕ
each = 1 ∷ 1 ∷ 1 ∷ 1 ∷ 1 ∷ 1 ∷ 2 ∷ 1 ∷ 1 ∷ 1 ∷ 1 ∷ 1 ∷ 1 ∷ 1 ∷ 2 ∷ 2 ∷ 1 ∷ 2 ∷ 1 ∷ 1 ∷ 2 ∷ 1 ∷ 1 ∷ 1 ∷ 2 ∷ 2 ∷ []

-- so many numbers, from one on
abbrev from : ℕ → List ℕ → List ℕ
from n [] = []
from n (c ∷ cs) = n ∷ from (suc n) cs

pub guarded_operations : map operands_in (from 0x01 each) ≡ each
guarded_operations = refl

pub raw_operations : map operands_in (from 0x81 each) ≡ each
raw_operations = refl

-- the numbers before and after these, and some whose last digits are theirs
pub no_operations : map operands_in (0x00 ∷ 0x1b ∷ 0x7f ∷ 0x80 ∷ 0x9b ∷ 0xff ∷ 0x101 ∷ 0x109 ∷ 0x181 ∷ 0x8000_0009 ∷ 0xffff_ffff ∷ []) ≡ 0 ∷ 0 ∷ 0 ∷ 0 ∷ 0 ∷ 0 ∷ 0 ∷ 0 ∷ 0 ∷ 0 ∷ 0 ∷ []
no_operations = refl

-- ---- lists that do not agree cannot be cut: the whole is refused, and its first piece is not

pub cut_where_they_differ : map (λ k. strip_refusal 0x09 (take k (two 1 1)) (take k (alone 1)) (take k (two 7 7)) (take k (two 8 8))) (two 2 1) ≡ two 10 0
cut_where_they_differ = refl

-- ---- which words the blocks run without a test: the last one and the one past it, at each end of each reach

pub record Words : Type 0 where
  pub op : ℕ
  pub a : ℕ
  pub b : ℕ

abbrev of : ℕ → ℕ → ℕ → Words
of op a b = record { op = op; a = a; b = b }

abbrev inside : List Words
inside =
    of 0x06 0x7f7f_ffff 0
    ∷ of 0x06 0xff7f_ffff 0
    ∷ of 0x09 0x0080_0000 0
    ∷ of 0x09 0x7f7f_ffff 0
    ∷ of 0x89 0x0000_0000 0
    ∷ of 0x89 0x7f80_0000 0
    ∷ of 0x0a 0x0080_0000 0
    ∷ of 0x0a 0x7f7f_ffff 0
    ∷ of 0x0b 0x8080_0000 0
    ∷ of 0x0b 0x7e80_0000 0
    ∷ of 0x11 0xdf7f_ffff 0
    ∷ of 0x91 0x5f7f_ffff 0
    ∷ of 0x12 0x2180_0000 0
    ∷ of 0x12 0 0xa180_0000
    ∷ of 0x12 0x5e80_0000 0xde80_0000
    ∷ of 0x92 0 0x2180_0000
    ∷ of 0x92 0x5e80_0000 0xde80_0000
    ∷ of 0x13 0xc380_0000 0
    ∷ of 0x93 0x4480_0000 0
    ∷ of 0x14 0x4380_0000 0
    ∷ of 0x94 0x4380_0000 0
    ∷ of 0x15 0xde80_0000 0
    ∷ of 0x15 0 0xa180_0000
    ∷ of 0x95 0x7f80_0000 0xff80_0000
    ∷ []

abbrev outside : List Words
outside =
    of 0x06 0x7f80_0000 0
    ∷ of 0x09 0x007f_ffff 0
    ∷ of 0x09 0x7f80_0000 0
    ∷ of 0x09 0x8080_0000 0
    ∷ of 0x89 0x7f80_0001 0
    ∷ of 0x89 0x8000_0000 0
    ∷ of 0x0a 0x007f_ffff 0
    ∷ of 0x0a 0x7f80_0000 0
    ∷ of 0x0a 0x8080_0000 0
    ∷ of 0x0b 0x807f_ffff 0
    ∷ of 0x0b 0xfe80_0001 0
    ∷ of 0x11 0x5f80_0000 0
    ∷ of 0x91 0xdf80_0000 0
    ∷ of 0x12 0x217f_ffff 0xa17f_ffff
    ∷ of 0x12 0x5e80_0001 0
    ∷ of 0x12 0 0x5e80_0001
    ∷ of 0x92 0x217f_ffff 0xa17f_ffff
    ∷ of 0x92 0x5e80_0001 0
    ∷ of 0x13 0x4380_0001 0
    ∷ of 0x93 0xc480_0001 0
    ∷ of 0x14 0x4380_0001 0
    ∷ of 0x94 0x4380_0001 0
    ∷ of 0x15 0x217f_ffff 0xa17f_ffff
    ∷ of 0x15 0 0xde80_0001
    ∷ of 0x95 0x7f80_0001 0
    ∷ of 0x95 0 0xff80_0001
    ∷ of 0x86 0 0
    ∷ of 0x8a 0x3f80_0000 0
    ∷ of 0x0c 0x3f80_0000 0
    ∷ []

abbrev told : List Words → List Bool
told = map (λ c. reach c.op c.a c.b)

pub all_inside : told inside ≡ replicate (length inside) true
all_inside = refl

pub all_outside : told outside ≡ replicate (length outside) false
all_outside = refl
