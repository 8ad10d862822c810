-- A sum read back from its own word is itself.
use Rattle.std.proofs.Common.{◌≡◌, subst, sym, to_z-of_z, w32}
use lib.Ieee.{binary32, add}
use lib.Ieee.Bits.{of_bits-to_bits}
use lib.Ieee.Fits.{add-fits}
use Rattle.format.specs.Whole.{round_word}
use Rattle.format.specs.Meaning.{IsRound}
use Rattle.format.proofs.RoundMeaning.{round_is_nearest}
use Rattle.float.proofs.F32.round.Goals as goal

pub returns : goal.returns
returns c =
    let w = c.args.self.0 in
    let sum = of_bits-to_bits binary32 (add binary32 c.value.result c.value-2.result) (add-fits binary32 c.value.result c.value-2.result) in
    let word : c.of.result.0 ≡ round_word binary32 w = cc (c.copysign-half.ensures.steps, sum, to_z-of_z {w = w32} (record { sfits = c.to_i32.type_inv })) in
    record { steps = word; ieee = λ n. subst (IsRound binary32 w) (sym word) (round_is_nearest w n) }
