-- The array is the definition's list: its last is a float in the code, and here its word.
use Rattle.std.proofs.Common.{◌≡◌, ℕ, [], ◌∷◌, ◌++◌, get_or, take, ap, ◌∙◌, le_refl, Option, unwrap_or}
use lib.Ieee.{binary32, of_bits, to_bits}
use Rattle.probe.specs.Constants.{constants}
use Rattle.probe.proofs.probe_constant.Goals as goal

turn : (w : ℕ) → w ≡ to_bits binary32 (of_bits binary32 0x3e22_f983) → w ≡ 0x3e22_f983
unfolding of_bits to_bits
turn w e = e

pub returns : goal.returns
returns c =
    c.unwrap_or.ensures
    ∙ ap (λ (o : Option ℕ). unwrap_or o 0) c.copied.ensures
    ∙ c.get.ensures.lookup.4 (le_refl c.args.place) 0
    ∙ ap (λ (w : ℕ). get_or (take 17 constants ++ (w ∷ [])) c.args.place 0) (turn c.of.result.0 c.of.ensures)
