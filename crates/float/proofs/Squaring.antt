-- powi's squaring: the bits of the magnitude run out before those allowed for it, and which products one turn of the loop forms and which
-- it leaves. Assumes nothing.
use Rattle.std.proofs.Common.{◌≡◌, ℕ, zero, suc, ◌/◌, ◌^◌, ◌<◌, ◌≤◌, Bool, cond, eqb, List, [], ◌∷◌, ◌++◌, refl, ap, ◌∙◌, append-nil, arith, eq-eqb, ne_eqb}
use Rattle.float.specs.Powi.{Work, squared, ended, taken, works}

pub half_lt : (m k : ℕ) → m < 2 ^ suc k → m / 2 < 2 ^ k
half_lt m k h = omega arith

-- any number of bits that a magnitude fits gives the same products
pub enough : (j k m : ℕ) (s : Work) → m < 2 ^ j → m < 2 ^ k → works j m s ≡ works k m s
unfolding works
enough zero zero m s p q = refl
enough zero (suc k) zero s p q = refl
enough zero (suc k) (suc m) s p q = absurd (let z : ⊥ = omega arith in z)
enough (suc j) zero zero s p q = refl
enough (suc j) zero (suc m) s p q = absurd (let z : ⊥ = omega arith in z)
enough (suc j) (suc k) m s p q =
    let t = squared (ended s (taken m s)) in
    ap (λ (l : List Work). taken m s ++ cond (eqb (m / 2) 0) [] (t ∷ l)) (enough j k (m / 2) t (half_lt m j p) (half_lt m k q))

-- ---- a turn

module _ (k m : ℕ) (s : Work) where
  turn : let t = squared (ended s (taken m s)) in works (suc k) m s ≡ taken m s ++ cond (eqb (m / 2) 0) [] (t ∷ works k (m / 2) t)
  unfolding works
  turn = refl

  -- the last: its bit alone
  pub stops : m ≤ 1 → works (suc k) m s ≡ taken m s
  stops h =
      let t = squared (ended s (taken m s)) in
      turn ∙ ap (λ (b : Bool). taken m s ++ cond b [] (t ∷ works k (m / 2) t)) (eq-eqb (m / 2) 0 (omega arith)) ∙ append-nil (taken m s)

  -- any other: its bit, a squaring, and what is left with the magnitude halved
  pub turns : 1 < m → m < 2 ^ suc k
      → let t = squared (ended s (taken m s)) in works (suc k) m s ≡ taken m s ++ (t ∷ works (suc k) (m / 2) t)
  turns h l =
      let t = squared (ended s (taken m s)) in
      turn
      ∙ ap (λ (b : Bool). taken m s ++ cond b [] (t ∷ works k (m / 2) t)) (ne_eqb (m / 2) 0 (λ e. omega arith))
      ∙ ap (λ (r : List Work). taken m s ++ (t ∷ r)) (enough k (suc k) (m / 2) t (half_lt m k l) (omega arith))

-- where a list ends that has two parts
pub ended_append : (s : Work) (l r : List Work) → ended s (l ++ r) ≡ ended (ended s l) r
ended_append s [] r = refl
ended_append s (t ∷ l) r = ended_append t l r
