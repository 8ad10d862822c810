-- A strip done block by block is the strip, whatever the operation: a block filled behind what is filled so far is as if its places had been filled one
-- by one. Assumes nothing.
use Prim.Native.Nat.{ℕ, zero, suc, ◌+◌, ◌-◌, ◌≤◌}
use native.Mathlib.Nat.{suc_inj, le_trans}
use native.Mathlib.Omega.{arith}
use mathlib.Core.Path.{◌≡◌, refl, sym, ap, ◌∙◌}
use mathlib.Core.List.{List, [], ◌∷◌, ◌++◌, append_assoc}
use borrow.Rule.Slice.PartMut.{put_mid, mid_len}
use lib.ListN.{length, take, drop}
use lib.Seq.{length-take-le, take_at, drop_at, drop-drop, take-add}
use Rattle.strip.specs.Strip.{word_at, refusal_at, zipped, Fills, Agree}
use Rattle.strip.proofs.Places.{zipped_length, Filled}
use Rattle.strip.proofs.Sofar.{Sofar, words_long, numbers_long}

-- ---- a part of two lists

module _ (f : ℕ → ℕ → ℕ) where
  zipped_take : (k : ℕ) (xs ys : List ℕ) → zipped f (take k xs) (take k ys) ≡ take k (zipped f xs ys)
  zipped_take zero xs ys = refl
  zipped_take (suc k) [] ys = refl
  zipped_take (suc k) (x ∷ xs) [] = refl
  zipped_take (suc k) (x ∷ xs) (y ∷ ys) = ap (λ (l : List ℕ). f x y ∷ l) (zipped_take k xs ys)

  zipped_drop : (k : ℕ) (xs ys : List ℕ) → length ys ≡ length xs → zipped f (drop k xs) (drop k ys) ≡ drop k (zipped f xs ys)
  zipped_drop zero xs ys e = refl
  zipped_drop (suc k) [] ys e = refl
  zipped_drop (suc k) (x ∷ xs) [] e = absurd (let z : ⊥ = omega (arith, e) in z)
  zipped_drop (suc k) (x ∷ xs) (y ∷ ys) e = zipped_drop k xs ys (suc_inj e)

  -- ---- a block behind i places that are filled, up to the place e

  module _ (xs ys os zs : List ℕ) (i e : ℕ) (l : length ys ≡ length xs) (o : length os ≡ length xs) (w : Filled f xs ys i os zs) (h : i ≤ e) (g : e ≤ length xs) where
    within : i ≤ length (zipped f xs ys)
    within = rw (zipped_length f xs ys l) (le_trans h g)

    so_many : length (take i (zipped f xs ys)) ≡ i
    so_many = length-take-le i (zipped f xs ys) within

    before : take i zs ≡ take i (zipped f xs ys)
    before = ap (take i) w ∙ take_at (take i (zipped f xs ys)) (drop (0 + i) os) i so_many

    behind : drop (e - i) (drop i zs) ≡ drop (0 + e) os
    behind =
        ap (λ (r : List ℕ). drop (e - i) (drop i r)) w
        ∙ ap (drop (e - i)) (drop_at (take i (zipped f xs ys)) (drop (0 + i) os) i so_many)
        ∙ drop-drop (e - i) (0 + i) os
        ∙ ap (λ (n : ℕ). drop n os) (let z : 0 + i + (e - i) ≡ 0 + e = omega (arith, h) in z)

    both : take i (zipped f xs ys) ++ take (e - i) (drop i (zipped f xs ys)) ≡ take e (zipped f xs ys)
    both = sym (take-add i (e - i) (zipped f xs ys)) ∙ ap (λ (n : ℕ). take n (zipped f xs ys)) (let z : i + (e - i) ≡ e = omega (arith, h) in z)

    pub block_filled : (ws : List ℕ) → ws ≡ zipped f (take (e - i) (drop i xs)) (take (e - i) (drop i ys)) → Filled f xs ys e os (put_mid i (e - i) zs ws)
    block_filled ws d =
        let p : ws ≡ take (e - i) (drop i (zipped f xs ys)) = d ∙ zipped_take (e - i) (drop i xs) (drop i ys) ∙ ap (take (e - i)) (zipped_drop i xs ys l) in
        rw (before, behind, p) (sym (append_assoc (take i (zipped f xs ys)) (take (e - i) (drop i (zipped f xs ys))) (drop (0 + e) os)) ∙ ap (λ (r : List ℕ). r ++ drop (0 + e) os) both)

-- ---- of the words and the refusals of an operation

module _ (op : ℕ) {first second answers₀ refusals₀ answers refusals : List ℕ} (a : Agree first second answers₀ refusals₀) (i e : ℕ)
    (s : Sofar op first second answers₀ refusals₀ answers refusals i) (h : i ≤ e) (g : e ≤ length first) where
  -- the four parts agree
  pub part_agrees : Agree (take (e - i) (drop i first)) (take (e - i) (drop i second)) (take (e - i) (drop i answers)) (take (e - i) (drop i refusals))
  part_agrees =
      let n = mid_len i e first g in
      record {
        seconds = mid_len i e second (rw a.seconds g) ∙ sym n;
        words = mid_len i e answers (rw (words_long op a i s) g) ∙ sym n;
        numbers = mid_len i e refusals (rw (numbers_long op a i s) g) ∙ sym n;
      }

  pub next_block : {ws ns : List ℕ} → Fills op (take (e - i) (drop i first)) (take (e - i) (drop i second)) ws ns
      → Sofar op first second answers₀ refusals₀ (put_mid i (e - i) answers ws) (put_mid i (e - i) refusals ns) e
  next_block {ws} {ns} p =
      record {
        within = g;
        words = block_filled (word_at op) first second answers₀ answers i e a.seconds a.words s.words h g ws p.words;
        numbers = block_filled (refusal_at op) first second refusals₀ refusals i e a.seconds a.numbers s.numbers h g ns p.numbers;
      }
