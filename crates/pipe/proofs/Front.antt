-- Some bytes and the first of them, one part after another, where it is known what the writer holds. Assumes nothing.
use Prim.Native.Nat.{ℕ, zero, suc, ◌+◌, ◌-◌, ◌≤◌}
use native.Mathlib.Omega.{arith}
use mathlib.Core.Path.{◌≡◌, refl, ap}
use mathlib.Core.List.{List, [], ◌∷◌, ◌++◌}
use lib.ListN.{length, take, drop, length-drop}
use lib.Seq.{take_all, take-add, take-append-add}
use Rattle.std.specs.Prelude.{Option, Result, Ok, Err, OnErr}
use Rattle.std.specs.Io.KnownBytes.{Appends}
use Rattle.std.proofs.KnownBytes.{Appends-nil, Appends-trans}
use Rattle.pipe.specs.Known.{brought, AppendsFront}

-- ---- the first of some bytes

pub all_in_front : (a b : Option (List ℕ)) (bytes : List ℕ) → Appends a b bytes → AppendsFront a b bytes
all_in_front a b bytes p = (length bytes, rw (take_all (length bytes) bytes (omega arith)) p)

pub none_in_front : (a : Option (List ℕ)) (bytes : List ℕ) → AppendsFront a a bytes
none_in_front a bytes = (0, Appends-nil a)

pub front_after : (a b c : Option (List ℕ)) (bytes more : List ℕ) → Appends a b bytes → AppendsFront b c more → AppendsFront a c (bytes ++ more)
front_after a b c bytes more p q = (length bytes + q.0, rw (take-append-add bytes more q.0) (Appends-trans a b c bytes (take q.0 more) p q.1))

-- the first of some things are so many of them with others behind them
pub take_of_part : {A : Type 0} (n : ℕ) (xs ys : List A) → take (length (take n xs)) (xs ++ ys) ≡ take n xs
take_of_part zero xs ys = refl
take_of_part (suc n) [] ys = refl
take_of_part (suc n) (x ∷ xs) ys = ap (λ (l : List _). x ∷ l) (take_of_part n xs ys)

pub front_of_more : (a b : Option (List ℕ)) (bytes more : List ℕ) → AppendsFront a b bytes → AppendsFront a b (bytes ++ more)
front_of_more a b bytes more p = (length (take p.0 bytes), rw (take_of_part p.0 bytes more) p.1)

pub on_err : {T E P : Type 0} (r : Result T E) → P → OnErr r P
on_err (Ok v) p = tt
on_err (Err e) p = p

-- ---- some bytes written in parts

-- the bytes that are left of them, as they are lent
abbrev pub lent : List ℕ → ℕ → List ℕ
lent bytes done = take (length bytes - done) (drop done bytes)

pub lent_is : (bytes : List ℕ) (done : ℕ) → lent bytes done ≡ drop done bytes
lent_is bytes done = take_all (length bytes - done) (drop done bytes) (omega (arith, length-drop done bytes))

pub within : (bytes : List ℕ) (done n : ℕ) → done ≤ length bytes → n ≤ length (lent bytes done) → done + n ≤ length bytes
within bytes done n h k = omega (arith, ap length (lent_is bytes done), length-drop done bytes)

pub one_more : (a b c : Option (List ℕ)) (bytes : List ℕ) (done n : ℕ) → Appends a b (take done bytes) → Appends b c (take n (lent bytes done))
    → Appends a c (take (done + n) bytes)
one_more a b c bytes done n p q =
    rw take-add (Appends-trans a b c (take done bytes) (take n (drop done bytes)) p (rw lent_is at q))

-- ---- how many bytes a read brought: fewer than there was room for, as many, more, none, and of a read that failed

pub brought_rows : (brought {E = ℕ} (Ok 3) 4 ≡ 3) × (brought {E = ℕ} (Ok 4) 4 ≡ 4) × (brought {E = ℕ} (Ok 5) 4 ≡ 4) × (brought {E = ℕ} (Ok 0) 4 ≡ 0) × (brought {E = ℕ} (Err 5) 4 ≡ 0)
brought_rows = (refl, refl, refl, refl, refl)
