-- Two lists that are filled place by place from two others, the words and the refusals of one operation: so far, one place more, and all of
-- them. Assumes nothing.
use Prim.Native.Nat.{ℕ, ◌+◌, ◌≤◌, ◌<◌, zero-le}
use native.Mathlib.Omega.{arith}
use mathlib.Core.Path.{◌≡◌, refl}
use mathlib.Core.List.{List}
use lib.ListN.{length, get_or, set}
use Rattle.strip.specs.Strip.{word_at, refusal_at, Fills, Agree}
use Rattle.strip.proofs.Places.{Filled, filled_length, one_more, all_filled}

-- lists that were answers₀ and refusals₀ have their first i places filled
pub record Sofar (op : ℕ) (first second answers₀ refusals₀ answers refusals : List ℕ) (i : ℕ) : Type 0 where
  pub within : i ≤ length first
  pub words : Filled (word_at op) first second i answers₀ answers
  pub numbers : Filled (refusal_at op) first second i refusals₀ refusals

module _ (op : ℕ) {first second answers₀ refusals₀ : List ℕ} (a : Agree first second answers₀ refusals₀) where
  pub none_filled : Sofar op first second answers₀ refusals₀ answers₀ refusals₀ 0
  none_filled = record { within = zero-le; words = refl; numbers = refl }

  module _ {answers refusals : List ℕ} (i : ℕ) (s : Sofar op first second answers₀ refusals₀ answers refusals i) where
    -- the lists keep their lengths
    pub words_long : length answers ≡ length first
    words_long = filled_length (word_at op) first second answers₀ answers i a.seconds a.words s.words s.within

    pub numbers_long : length refusals ≡ length first
    numbers_long = filled_length (refusal_at op) first second refusals₀ refusals i a.seconds a.numbers s.numbers s.within

    pub next_filled : (w n : ℕ) → i < length first → w ≡ word_at op (get_or first i 0) (get_or second i 0) → n ≡ refusal_at op (get_or first i 0) (get_or second i 0)
        → Sofar op first second answers₀ refusals₀ (set answers i w) (set refusals i n) (i + 1)
    next_filled w n h d e =
        record {
          within = omega (arith, h);
          words = one_more (word_at op) first second answers₀ answers i a.seconds a.words s.words w h d;
          numbers = one_more (refusal_at op) first second refusals₀ refusals i a.seconds a.numbers s.numbers n h e;
        }

    pub filled : length first ≤ i → Fills op first second answers refusals
    filled h =
        let e : i ≡ length first = omega (arith, h, s.within) in
        record {
          words = all_filled (word_at op) first second answers₀ answers i a.seconds a.words s.words e;
          numbers = all_filled (refusal_at op) first second refusals₀ refusals i a.seconds a.numbers s.numbers e;
        }
