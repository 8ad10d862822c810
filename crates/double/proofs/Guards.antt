-- A kernel's word behind its first refusal is what the guarded operation gives, and no NaN. Assumes nothing.
use Prim.Native.Nat.{ℕ, ◌^◌, ◌<◌}
use mathlib.Core.Path.{◌≡◌, sym, ◌∙◌}
use mathlib.Core.Bool.{true, false}
use lib.Ieee.{binary64, nan_bits, of_bits}
use Rattle.std.specs.Prelude.{Ok}
use Rattle.double.specs.Operations.{is_known, value_of}
use Rattle.double.specs.Refusals.{gate_of, refusal_behind, refusal_of}
use Rattle.double.specs.Guarded.{Guards}
use Rattle.double.proofs.Gives.{numbered}
use Rattle.double.proofs.NoNan.{no_nan}

-- the facts of an answered call in turn: its row, that no refusal holds, its kernel's word
module _ (op a w g : ℕ) (e : g ≡ gate_of op) (p : 0 ≡ refusal_behind g op a) (u : is_known op ≡ true) (q : w ≡ value_of op a) (k : a < 2 ^ 64) where
  none : refusal_of op a ≡ 0
  none = sym (p ∙ rw e)

  pub is_number : nan_bits binary64 w ≡ false
  is_number = rw q (no_nan op a k u none)

  pub answers : w < 2 ^ 64 → Guards op a (Ok (of_bits binary64 w))
  answers l = rw (sym q) (numbered _ w l none is_number)
