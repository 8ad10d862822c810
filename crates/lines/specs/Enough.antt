-- A line's first nineteen bytes are enough for its answer as a frame. Assumes nothing.
use Prim.Native.Nat.{ℕ}
use native.Mathlib.Omega.{arith}
use mathlib.Core.Path.{◌≡◌, refl, ap}
use mathlib.Core.Bool.{Bool, true, false}
use mathlib.Core.List.{List}
use borrow.Author.Tests.{ltb-true, ltb-false}
use lib.Dec.{ltb}
use lib.ListN.{length, take}
use lib.Seq.{take_all, length-take-le}
use Rattle.frame.specs.Frame.{answer_bytes}
use Rattle.frame.proofs.Answers.{answer_length, too_long}
use Rattle.lines.specs.Answering.{Answering}

enough : (l : List ℕ) → answer_bytes (take 19 l) ≡ answer_bytes l
enough l = go (ltb (length l) 19) refl
  where
    go : (t : Bool) → ltb (length l) 19 ≡ t → answer_bytes (take 19 l) ≡ answer_bytes l
    go true e = ap answer_bytes (take_all 19 l (omega (arith, ltb-true (length l) 19 e)))
    go false e =
        let k = ltb-false (length l) 19 e in
        too_long (take 19 l) l (omega (arith, length-take-le 19 l k)) k

pub frames_answering : Answering 19 answer_bytes
frames_answering = record { some = omega arith; each = answer_length; enough = enough }
