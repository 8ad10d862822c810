-- Digits: which bytes they are, what a list of them writes, and how a number is written in them. Assumes nothing.
use Prim.Native.Nat.{ℕ, zero, suc, ◌+◌, ◌-◌, ◌*◌, ◌/◌, ◌%◌, ◌^◌, ◌≤◌, ◌<◌}
use native.Mathlib.Nat.{le_of_suc-le-suc}
use native.Mathlib.Omega.{arith}
use mathlib.Core.Path.{◌≡◌, refl, sym, ap, subst, ◌∙◌}
use mathlib.Core.Logic.{◌⊎◌, inl, inr}
use mathlib.Core.Bool.{Bool, true, false, cond, ◌&&◌, ◌||◌, false≢true}
use mathlib.Core.List.{List, [], ◌∷◌, ◌++◌, append_assoc}
use borrow.Author.Tests.{leb-true, le-leb, lt-leb}
use lib.Dec.{leb, eqb}
use lib.ListN.{length, take, drop, get_or, set, length-append, length-drop}
use lib.Seq.{get_or-drop, take-suc, set_split, take-append_seam, drop-append-add, drop-drop}
use lib.Pow.{pow-add, pow_mono}
use native.Mathlib.Numerals.{add-one}
use Rattle.std.specs.Prelude.{Some, None}
use Rattle.std.proofs.lemmas.Option.{none-some, cond_some}
use Rattle.frame.specs.Frame.{is_digit, digit_of, digit_in, byte_of, all_digits, is_frame, number_after, hex_bytes}

both : (p q : Bool) → (p && q) ≡ true → (p ≡ true) × (q ≡ true)
both true q e = (refl, e)
both false q e = absurd (false≢true e)

either : (p q : Bool) → (p || q) ≡ true → (p ≡ true) ⊎ (q ≡ true)
either true q e = inl refl
either false q e = inr e

-- ---- the bytes

pub digit_range : (b : ℕ) → is_digit b ≡ true → ((0x30 ≤ b) × (b ≤ 0x39)) ⊎ ((0x61 ≤ b) × (b ≤ 0x66))
digit_range b e = go (either (leb 0x30 b && leb b 0x39) (leb 0x61 b && leb b 0x66) e)
  where
    go : ((leb 0x30 b && leb b 0x39) ≡ true) ⊎ ((leb 0x61 b && leb b 0x66) ≡ true) → ((0x30 ≤ b) × (b ≤ 0x39)) ⊎ ((0x61 ≤ b) × (b ≤ 0x66))
    go (inl h) = let p = both _ _ h in inl (leb-true 0x30 b p.0, leb-true b 0x39 p.1)
    go (inr h) = let p = both _ _ h in inr (leb-true 0x61 b p.0, leb-true b 0x66 p.1)

pub digit_lt : (b : ℕ) → is_digit b ≡ true → digit_of b < 16
digit_lt b e = go (digit_range b e)
  where
    go : ((0x30 ≤ b) × (b ≤ 0x39)) ⊎ ((0x61 ≤ b) × (b ≤ 0x66)) → digit_of b < 16
    go (inl h) = rw (le-leb b 0x39 h.1) (omega arith)
    go (inr h) = rw (lt-leb b 0x39 (omega arith)) (omega arith)

-- a byte by its value, or as none
pub digit_if : (b d : ℕ) → Some d ≡ digit_in b → is_digit b ≡ true
digit_if b d e = (cond_some (is_digit b) (digit_of b) d (sym e)).0

pub value_if : (b d : ℕ) → Some d ≡ digit_in b → d ≡ digit_of b
value_if b d e = sym (cond_some (is_digit b) (digit_of b) d (sym e)).1

pub none_if : (b : ℕ) → None ≡ digit_in b → is_digit b ≡ false
none_if b e = go (is_digit b) refl e
  where
    go : (t : Bool) → is_digit b ≡ t → None ≡ cond t (Some (digit_of b)) None → is_digit b ≡ false
    go true q k = absurd (none-some (digit_of b) k)
    go false q k = q

-- ---- a line of digits

pub all_at : (l : List ℕ) → all_digits l ≡ true → (i : ℕ) → i < length l → is_digit (get_or l i 0) ≡ true
all_at [] e i h = absurd (let z : ⊥ = omega arith in z)
all_at (b ∷ bs) e zero h = (both (is_digit b) (all_digits bs) e).0
all_at (b ∷ bs) e (suc i) h = all_at bs (both (is_digit b) (all_digits bs) e).1 i (le_of_suc-le-suc h)

-- one that is no digit
pub not_all : (l : List ℕ) (i : ℕ) → i < length l → is_digit (get_or l i 0) ≡ false → all_digits l ≡ false
not_all [] i h e = absurd (let z : ⊥ = omega arith in z)
not_all (b ∷ bs) zero h e = rw e
not_all (b ∷ bs) (suc i) h e = go (is_digit b) (not_all bs i (le_of_suc-le-suc h) e)
  where
    go : (t : Bool) → all_digits bs ≡ false → (t && all_digits bs) ≡ false
    go true k = k
    go false k = refl

pub all_of : (l : List ℕ) → ((i : ℕ) → i < length l → is_digit (get_or l i 0) ≡ true) → all_digits l ≡ true
all_of [] h = refl
all_of (b ∷ bs) h = rw (h 0 (omega arith)) (all_of bs (λ i k. h (suc i) (omega arith)))

all_take : (n : ℕ) (l : List ℕ) → all_digits l ≡ true → all_digits (take n l) ≡ true
all_take zero l e = refl
all_take (suc n) [] e = refl
all_take (suc n) (b ∷ bs) e = let p = both (is_digit b) (all_digits bs) e in rw p.0 (all_take n bs p.1)

all_drop : (n : ℕ) (l : List ℕ) → all_digits l ≡ true → all_digits (drop n l) ≡ true
all_drop zero l e = e
all_drop (suc n) [] e = refl
all_drop (suc n) (b ∷ bs) e = all_drop n bs (both (is_digit b) (all_digits bs) e).1

-- a part of a frame has digits alone
pub digits_in : (from count : ℕ) (l : List ℕ) → is_frame l ≡ true → all_digits (take count (drop from l)) ≡ true
digits_in from count l e = all_take count (drop from l) (all_drop from l (both (eqb (length l) 18) (all_digits l) e).1)

-- ---- the number that digits write

-- one digit more
pub number_append : (n : ℕ) (l : List ℕ) (b : ℕ) → number_after n (l ++ (b ∷ [])) ≡ number_after n l * 16 + digit_of b
number_append n [] b = refl
number_append n (c ∷ l) b = number_append (n * 16 + digit_of c) l b

pub next_digit : (l : List ℕ) (i : ℕ) → i < length l → number_after 0 (take (i + 1) l) ≡ number_after 0 (take i l) * 16 + digit_of (get_or l i 0)
next_digit l i h = rw (add-one i, take-suc l i 0 h) (number_append 0 (take i l) (get_or l i 0))

pub one_more : (l : List ℕ) (from i : ℕ) → from + i < length l → number_after 0 (take (i + 1) (drop from l)) ≡ number_after 0 (take i (drop from l)) * 16 + digit_of (get_or l (from + i) 0)
one_more l from i h = let k : i < length (drop from l) = rw length-drop (omega arith) in next_digit (drop from l) i k ∙ rw (get_or-drop from l i 0)

-- a number of i digits, and one digit more of at most eight
pub shorter : (n i : ℕ) → n < 2 ^ (4 * i) → i < 8 → n * 16 + 15 < 2 ^ 32
shorter n i h k = let p : 2 ^ (4 * i) ≤ 2 ^ 28 = pow_mono {i = 4 * i} {j = 28} (omega arith) in omega arith

pub longer : (n d i : ℕ) → n < 2 ^ (4 * i) → d < 16 → n * 16 + d < 2 ^ (4 * (i + 1))
longer n d i h k =
    let e : 2 ^ (4 * (i + 1)) ≡ 2 ^ (4 * i) * 2 ^ 4 = ap (λ (m : ℕ). 2 ^ m) (let z : 4 * (i + 1) ≡ 4 * i + 4 = omega arith in z) ∙ pow-add 2 (4 * i) 4 in
    rw e (omega arith)

-- ---- a number written

pub hex_length : (k n : ℕ) → length (hex_bytes k n) ≡ k
unfolding hex_bytes
hex_length zero n = refl
hex_length (suc k) n = ap suc (hex_length k n)

pub hex_at : (k n i : ℕ) → i < k → get_or (hex_bytes k n) i 0 ≡ byte_of (n / 16 ^ (k - suc i) % 16)
unfolding hex_bytes
hex_at zero n i h = absurd (let z : ⊥ = omega arith in z)
hex_at (suc k) n zero h = ap (λ (m : ℕ). byte_of (n / 16 ^ m % 16)) (let z : k ≡ suc k - 1 = omega arith in z)
hex_at (suc k) n (suc i) h = hex_at k n i (le_of_suc-le-suc h) ∙ ap (λ (m : ℕ). byte_of (n / 16 ^ m % 16)) (let z : k - suc i ≡ suc k - suc (suc i) = omega arith in z)

-- ---- bytes written one after the other at the front of a list

past_the_next : (xs ys : List ℕ) (i : ℕ) → length xs ≡ i → drop (suc i) (xs ++ drop i ys) ≡ drop (suc i) ys
past_the_next xs ys i e = ap (λ (m : ℕ). drop m (xs ++ drop i ys)) (let z : suc i ≡ length xs + 1 = omega arith in z) ∙ drop-append-add xs (drop i ys) 1 ∙ drop-drop 1 i ys ∙ ap (λ (m : ℕ). drop m ys) (add-one i)

-- the next one, where xs is written already
pub next_written : (xs ys : List ℕ) (i b : ℕ) → length xs ≡ i → i < length ys → set (xs ++ drop i ys) i b ≡ (xs ++ (b ∷ [])) ++ drop (suc i) ys
next_written xs ys i b e h =
    let l : i < length (xs ++ drop i ys) = rw (length-append, length-drop) (omega arith) in
    set_split (xs ++ drop i ys) i b l
    ∙ ap (λ (zs : List ℕ). zs ++ (b ∷ drop (suc i) (xs ++ drop i ys))) (subst (λ (m : ℕ). take m (xs ++ drop i ys) ≡ xs) e (take-append_seam xs (drop i ys)))
    ∙ ap (λ (zs : List ℕ). xs ++ (b ∷ zs)) (past_the_next xs ys i e)
    ∙ sym (append_assoc xs (b ∷ []) (drop (suc i) ys))
