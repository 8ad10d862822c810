-- The floor and the mark are those of the word with its sign turned.
use Rattle.std.proofs.Common.{◌≡◌, subst, sym, ap, ◌∙◌, arith}
use lib.Bits.{bit_xor}
use lib.Ieee.{binary32}
use Rattle.format.specs.Whole.{ceil_word}
use Rattle.format.specs.Meaning.{IsCeil}
use Rattle.format.proofs.Masks.{turn_sign}
use Rattle.format.proofs.FloorMeaning.{ceil_by_floor, ceil_is}
use Rattle.float.specs.Marks.{mark_of}
use Rattle.float.proofs.F32.ceil_marked.Goals as goal

pub returns : goal.returns
returns c =
    let w = c.args.self.0 in
    let down = c.floor_marked-down in
    let turned = turn_sign binary32 w (omega arith) in
    let word : bit_xor down.result.value.0 0x8000_0000 ≡ ceil_word binary32 w = cc (down.ensures.steps, turned, turn_sign binary32 down.result.value.0 (omega arith), ceil_by_floor binary32 w) in
    record { steps = word; ieee = λ n. subst (IsCeil binary32 w) (sym word) (ceil_is w n); mark = down.ensures.mark ∙ ap mark_of turned }
