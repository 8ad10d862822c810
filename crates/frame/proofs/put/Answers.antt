-- `frame::put` meets its contract. Assumes nothing.
use Rattle.std.proofs.Common.{arith, ℕ, suc, ◌+◌, ◌-◌, ◌/◌, ◌%◌, ◌^◌, ◌<◌, ◌≤◌, ◌≡◌, ◌∙◌, ap, List, [], ◌∷◌, ◌++◌, length, take, drop, length-take, take_all, add-one}
use borrow.Author.Tests.{le-ltb}
use native.Mathlib.Nat.{le_of_lt, le_of_eq, min-eq_left}
use lib.ListN.{set}
use lib.Seq.{take-suc}
use Rattle.frame.specs.Frame.{byte_of, hex_bytes}
use Rattle.frame.proofs.Digits.{hex_length, hex_at, next_written}
use Rattle.frame.proofs.put.Goals as goal

module _ (x i : ℕ) (ys zs : List ℕ) (w : zs ≡ take i (hex_bytes 10 x) ++ drop i ys) where
  first_length : i ≤ 10 → length (take i (hex_bytes 10 x)) ≡ i
  first_length h = rw (length-take, hex_length) (min-eq_left h)

  one_more : i < 10 → i < length ys → set zs i (byte_of (x / 16 ^ (9 - i) % 16)) ≡ take (i + 1) (hex_bytes 10 x) ++ drop (i + 1) ys
  one_more h k =
      let l : i < length (hex_bytes 10 x) = rw hex_length h in
      let e : take (suc i) (hex_bytes 10 x) ≡ take i (hex_bytes 10 x) ++ (byte_of (x / 16 ^ (9 - i) % 16) ∷ []) = take-suc (hex_bytes 10 x) i 0 l ∙ ap (λ (b : ℕ). take i (hex_bytes 10 x) ++ (b ∷ [])) (hex_at 10 x i h ∙ ap (λ (m : ℕ). byte_of (x / 16 ^ m % 16)) (let z : 10 - suc i ≡ 9 - i = omega arith in z)) in
      ap (λ (l : List ℕ). set l i (byte_of (x / 16 ^ (9 - i) % 16))) w
      ∙ next_written (take i (hex_bytes 10 x)) ys i (byte_of (x / 16 ^ (9 - i) % 16)) (first_length (le_of_lt h)) k
      ∙ rw (add-one i, e)

  last : i ≡ 10 → 10 < length ys → set zs 10 10 ≡ (hex_bytes 10 x ++ (10 ∷ [])) ++ drop 11 ys
  last e h =
      let t : take 10 (hex_bytes 10 x) ≡ hex_bytes 10 x = take_all 10 (hex_bytes 10 x) (le_of_eq (hex_length 10 x)) in
      let v : zs ≡ hex_bytes 10 x ++ drop 10 ys = w ∙ rw (e, t) in
      ap (λ (l : List ℕ). set l 10 10) v ∙ next_written (hex_bytes 10 x) ys 10 10 (hex_length 10 x) h

pub loop-i-preserved : goal.loop-i-preserved
loop-i-preserved c =
    let l = c.loop-i in
    let room : l.i < length c.args.space.now = omega (arith, c.if-space-lt11.false, c.loop-i-test.true) in
    rw (c.byte_of.ensures, c.nibble.ensures) (one_more c.args.words l.i c.args.space.now l.space l.invariant c.loop-i-test.true room)

pub returns-clause-bytes : goal.returns-clause-bytes
returns-clause-bytes c =
    let l = c.loop-i in
    let end : l.i ≡ 10 = omega (arith, l.auto.i-end, c.loop-i-test.false) in
    last c.args.words l.i c.args.space.now l.space l.invariant end (omega (arith, c.if-space-lt11.false)) ∙ rw (le-ltb _ 11 c.if-space-lt11.false)
