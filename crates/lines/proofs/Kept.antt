-- The first bytes of a line, as many as are kept, in a list of that length that is filled from its front: one byte more of the line.
-- Assumes nothing.
use Prim.Native.Nat.{ℕ, ◌+◌, ◌≤◌, ◌<◌}
use native.Mathlib.Numerals.{add-one}
use native.Mathlib.Omega.{arith}
use mathlib.Core.Path.{◌≡◌, sym, ap, ◌∙◌}
use mathlib.Core.List.{List, [], ◌∷◌, ◌++◌}
use lib.ListN.{length, take, set, length-append, length-take}
use lib.Seq.{take_all, take-append-le, take-suc-set, length-take-le}

module _ (kept : ℕ) (held p : List ℕ) (count b : ℕ) (long : length held ≡ kept) (line : take count held ≡ take kept p) where
  -- with room left, what is held is the whole line
  pub with_room : count < kept → take (count + 1) (set held count b) ≡ take kept (p ++ b ∷ [])
  with_room h =
      let a : length (take count held) ≡ count = length-take-le count held (omega arith) in
      let e = ap length line ∙ length-take kept p in
      let l : take count held ≡ p = line ∙ take_all kept p (omega arith) in
      rw (add-one, take-suc-set held count b (omega arith), l) (sym (take_all kept (p ++ b ∷ []) (omega (arith, length-append p (b ∷ []), ap length l))))

  -- with none, the line has as many bytes already
  pub with_none : kept ≤ count → take count held ≡ take kept (p ++ b ∷ [])
  with_none h =
      let a : take count held ≡ held = take_all count held (omega arith) in
      let n : kept ≤ length p = omega (arith, sym long ∙ sym (ap length a) ∙ ap length line ∙ length-take kept p) in
      line ∙ sym (take-append-le kept p (b ∷ []) n)
