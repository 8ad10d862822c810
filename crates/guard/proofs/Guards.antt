-- A kernel's word behind its first refusal is what the guarded operation gives. Assumes nothing.
use Prim.Native.Nat.{ℕ, ◌^◌, ◌<◌}
use mathlib.Core.Path.{◌≡◌, refl, sym, ◌∙◌}
use mathlib.Core.Bool.{false}
use lib.Ieee.{binary32, nan_bits}
use Rattle.std.specs.Prelude.{Ok}
use Rattle.guard.specs.declared.gate.Gate.{Gate}
use Rattle.guard.specs.Gates.{gate_of}
use Rattle.guard.specs.Refusals.{refusal_behind, refusal_of}
use Rattle.guard.specs.Guarded.{Answer, value_after, GivesAfter, value_of}
use Rattle.guard.proofs.Gives.{numbered}
use Rattle.guard.proofs.NoNan.{no_nan}

-- the refusal behind the operation's own gate
pub own_gate : (op a b n : ℕ) (g : Gate) → n ≡ refusal_behind g op a b → g ≡ gate_of op → n ≡ refusal_of op a b
own_gate op a b n g p e = p ∙ rw e

-- what is promised of some products, a refusal and a word, where that is no NaN
abbrev pub PromiseAfter : ℕ → ℕ → ℕ → Answer → Type 0
PromiseAfter p n w r = (n ≡ 0 → nan_bits binary32 w ≡ false) → GivesAfter p n w r

pub kept : {c : ℕ} (n w m v : ℕ) (r : Answer) → PromiseAfter c n w r → n ≡ m → w ≡ v → (m ≡ 0 → nan_bits binary32 v ≡ false) → GivesAfter c m v r
kept n w m v r f p q h = let g = f (λ z. rw q (h (sym p ∙ z))) in rw (p, q) at g

-- any answer that is promised for its refusal and its word is what the operation guards
pub guards_after : (op a b n w : ℕ) (g : Gate) (r : Answer) → a < 2 ^ 32 → b < 2 ^ 32 → g ≡ gate_of op → n ≡ refusal_behind g op a b → w ≡ value_of op a b
    → (c : ℕ) → PromiseAfter c n w r → GivesAfter c (refusal_of op a b) (value_of op a b) r
guards_after op a b n w g r h k e p q c f = kept n w (refusal_of op a b) (value_of op a b) r f (own_gate op a b n g p e) q (no_nan op a b h k)

-- an answered call: its row, that no refusal holds, its kernel's word
module _ (op a b : ℕ) (g : Gate) (e : g ≡ gate_of op) where
  pub answers_with : {c : ℕ} (w v : ℕ) → w < 2 ^ 32 → w ≡ v → (refusal_of op a b ≡ 0 → nan_bits binary32 v ≡ false) → 0 ≡ refusal_behind g op a b
      → GivesAfter c (refusal_of op a b) v (Ok (value_after c w))
  answers_with w v l q k p = let z = sym (own_gate op a b _ g p e) in rw (sym q) (numbered _ w l z (rw q (k z)))

  pub answers : {c : ℕ} (w : ℕ) → a < 2 ^ 32 → b < 2 ^ 32 → w < 2 ^ 32 → w ≡ value_of op a b → 0 ≡ refusal_behind g op a b → GivesAfter c (refusal_of op a b) (value_of op a b) (Ok (value_after c w))
  answers {c} w h k l q p = guards_after op a b 0 w g (Ok (value_after c w)) h k e p q c (λ f. numbered 0 w l refl (f refl))
