-- A loop over parts joined by operators is the chain of the list reader: what it has read so far, and fuel for what is left, give what
-- the chain gives. Once for both ranks. Assumes nothing.
use Prim.Native.Nat.{ℕ, zero, suc, ◌≤◌, ◌<◌}
use native.Mathlib.Omega.{arith}
use mathlib.Core.Path.{◌≡◌, refl, sym, ap, subst, ◌∙◌}
use mathlib.Core.List.{List, ◌∷◌}
use mathlib.Core.Option.{Option, none, some}
use borrow.Author.Tests.{ne_eqb}
use lib.ListN.{length}
use lib.Ieee.{Float}
use Rattle.recipe.specs.declared.reader.Read.{Read}
use Rattle.recipe.specs.declared.reader.Rank.{Rank}
use Rattle.recipe.specs.declared.reader.Rank.TheVariants.{Sums, Products}
use Rattle.recipe.specs.declared.reader.Operation.{Operation}
use Rattle.recipe.specs.declared.reader.Operation.TheVariants.{Plus, Minus, Times, Over}
use Rattle.recipe.specs.Grammar.{one, plus, minus, single, times, over, write_product, write_factor, proper_product, proper_factor, sooner_of, refusal_sum, value_sum}
use Rattle.recipe.specs.Reader.{Front, front, joined, chain, mapped, head_op, inside, Tree, Part, tree_at, part_at, tree_refusal, tree_value, part_refusal, part_value, up, down, sign, rank_of, value_by, Worth, worth_of, joined_worth, Reads, Operates}
use Rattle.recipe.proofs.Readings.{stops}
use Rattle.recipe.proofs.Sound.{factor_sound, product_sound, inside_sound, left_le}

-- ---- a rank's trees

abbrev lift : (k : Rank) → Part k → Tree k
lift Sums = one
lift Products = single

abbrev join : (k : Rank) → Tree k → Part k → Tree k
join Sums = plus
join Products = times

abbrev unjoin : (k : Rank) → Tree k → Part k → Tree k
unjoin Sums = minus
unjoin Products = over

abbrev run : (k : Rank) → ℕ → ℕ → Option (Front (Tree k)) → Option (Front (Tree k))
run k d = chain (part_at k d) (up k) (down k) (join k) (unjoin k)

-- what an operation makes of a tree and a part
abbrev made : (o : Operation) → Tree (rank_of o) → Part (rank_of o) → Tree (rank_of o)
made Plus = plus
made Minus = minus
made Times = times
made Over = over

tree_is : (k : Rank) (d : ℕ) (l : List ℕ) → tree_at k d l ≡ run k d (length l) (mapped (lift k) (part_at k d l))
tree_is Sums d l = refl
tree_is Products d l = refl

nothing : (k : Rank) (d n : ℕ) → run k d n none ≡ none
unfolding chain
nothing k d zero = refl
nothing k d (suc n) = refl

shorter : (k : Rank) (d : ℕ) (l : List ℕ) (p : Part k) (r : List ℕ) → part_at k d l ≡ some (front p r) → length r ≤ length l
shorter Sums d l p r e = left_le write_product proper_product _ l (product_sound (inside d) (inside_sound d) l) p r e
shorter Products d l p r e = left_le write_factor proper_factor _ l (factor_sound (inside d) (inside_sound d) l) p r e

-- ---- worths

joined_is : (f : Float → Float → Float) (m n : ℕ) (a b : Float) → joined_worth f (worth_of m a) (worth_of n b) ≡ worth_of (sooner_of m n) (f a b)
joined_is f zero zero a b = refl
joined_is f zero (suc n) a b = refl
joined_is f (suc m) n a b = rw (ne_eqb (suc m) 0 (λ (e : suc m ≡ 0). let z : ⊥ = omega arith in z))

lift_worth : (k : Rank) (x : Float) (p : Part k) → worth_of (part_refusal k x p) (part_value k x p) ≡ worth_of (tree_refusal k x (lift k p)) (tree_value k x (lift k p))
unfolding refusal_sum value_sum
lift_worth Sums x p = refl
lift_worth Products x p = refl

made_worth : (o : Operation) (x : Float) (t : Tree (rank_of o)) (p : Part (rank_of o))
    → joined_worth (value_by o) (worth_of (tree_refusal (rank_of o) x t) (tree_value (rank_of o) x t)) (worth_of (part_refusal (rank_of o) x p) (part_value (rank_of o) x p))
    ≡ worth_of (tree_refusal (rank_of o) x (made o t p)) (tree_value (rank_of o) x (made o t p))
unfolding refusal_sum value_sum
made_worth Plus x t p = joined_is _ _ _ _ _
made_worth Minus x t p = joined_is _ _ _ _ _
made_worth Times x t p = joined_is _ _ _ _ _
made_worth Over x t p = joined_is _ _ _ _ _

-- ---- where a loop stands: what it has read, whose chain gives the target

pub record Stands (k : Rank) (x : Float) (d : ℕ) (target : Option (Front (Tree k))) (w : Worth) (rest : List ℕ) : Type 0 where
  pub tree : Tree k
  pub worth : w ≡ worth_of (tree_refusal k x tree) (tree_value k x tree)
  pub fuel : ℕ
  pub enough : length rest ≤ fuel
  pub same : run k d fuel (some (front tree rest)) ≡ target

module _ (k : Rank) (x : Float) (d : ℕ) where
  -- a part first, or none
  pub none_first : (l : List ℕ) → part_at k d l ≡ none → tree_at k d l ≡ none
  none_first l e = tree_is k d l ∙ ap (λ (o : Option (Front (Part k))). run k d (length l) (mapped (lift k) o)) e ∙ nothing k d (length l)

  pub first : (l : List ℕ) (p : Part k) (r : List ℕ) → part_at k d l ≡ some (front p r) → (w : Worth) → w ≡ worth_of (part_refusal k x p) (part_value k x p) → Stands k x d (tree_at k d l) w r
  first l p r e w q =
      record {
        tree = lift k p;
        worth = q ∙ lift_worth k x p;
        fuel = length l;
        enough = shorter k d l p r e;
        same = sym (tree_is k d l ∙ ap (λ (o : Option (Front (Part k))). run k d (length l) (mapped (lift k) o)) e);
      }

  -- no operator more
  pub last : (l : List ℕ) (r : Read) → Stands k x d (tree_at k d l) r.worth r.rest.now → head_op r.rest.now (up k) (down k) ≡ 0 → Reads (tree_refusal k x) (tree_value k x) (tree_at k d l) r
  last l r s e = record { tree = s.tree; same = sym s.same ∙ stops (part_at k d) (up k) (down k) (join k) (unjoin k) s.fuel s.tree r.rest.now e; worth = s.worth }

-- ---- an operator, and a part more or none

module _ (x : Float) (d : ℕ) where
  abbrev more : (o : Operation) → ℕ → Tree (rank_of o) → Option (Front (Part (rank_of o))) → Option (Front (Tree (rank_of o)))
  more o n t p = let k = rank_of o in run k d n (joined (part_at k d) (up k) (down k) (join k) (unjoin k) (made o) t p)

  turned : (o : Operation) (n : ℕ) (t : Tree (rank_of o)) (m : List ℕ) → run (rank_of o) d (suc n) (some (front t (sign o ∷ m))) ≡ more o n t (part_at (rank_of o) d m)
  unfolding chain
  turned Plus n t m = refl
  turned Minus n t m = refl
  turned Times n t m = refl
  turned Over n t m = refl

  module _ (o : Operation) (m : List ℕ) (target : Option (Front (Tree (rank_of o)))) (w : Worth) (s : Stands (rank_of o) x d target w (sign o ∷ m)) where
    -- there is fuel for the operator, and so for what follows it
    stepped : (n : ℕ) × (length m ≤ n) × (more o n s.tree (part_at (rank_of o) d m) ≡ target)
    stepped = go s.fuel s.enough s.same
      where
        go : (n : ℕ) → length (sign o ∷ m) ≤ n → run (rank_of o) d n (some (front s.tree (sign o ∷ m))) ≡ target → (n : ℕ) × (length m ≤ n) × (more o n s.tree (part_at (rank_of o) d m) ≡ target)
        go zero h e = absurd (let z : ⊥ = omega arith in z)
        go (suc n) h e = (n, omega arith, sym (turned o n s.tree m) ∙ e)

    none_of : part_at (rank_of o) d m ≡ none → target ≡ none
    none_of e = sym stepped.2 ∙ ap (more o stepped.0 s.tree) e ∙ nothing (rank_of o) d stepped.0

    one_of : (p : Part (rank_of o)) (r : List ℕ) → part_at (rank_of o) d m ≡ some (front p r) → (v : Worth) → v ≡ worth_of (part_refusal (rank_of o) x p) (part_value (rank_of o) x p)
        → Stands (rank_of o) x d target (joined_worth (value_by o) w v) r
    one_of p r e v q =
        let l = shorter (rank_of o) d m p r e in
        let n = stepped in
        record {
          tree = made o s.tree p;
          worth = rw (s.worth, q) (made_worth o x s.tree p);
          fuel = n.0;
          enough = omega (arith, n.1, l);
          same = sym (ap (more o n.0 s.tree) e) ∙ n.2;
        }

module _ (k : Rank) (x : Float) (d : ℕ) (rest : List ℕ) (o : Operation) (m : List ℕ) (h : Operates k rest o m) where
  none_at : (target : Option (Front (Tree k))) (w : Worth) → Stands k x d target w rest → part_at k d m ≡ none → target ≡ none
  none_at = rw h.written
      (subst (λ (k : Rank). (target : Option (Front (Tree k))) (w : Worth) → Stands k x d target w (sign o ∷ m) → part_at k d m ≡ none → target ≡ none) h.rank (none_of x d o m))

  pub none_more : (l : List ℕ) (w : Worth) → Stands k x d (tree_at k d l) w rest → part_at k d m ≡ none → tree_at k d l ≡ none
  none_more l = none_at (tree_at k d l)

  pub one_more : (target : Option (Front (Tree k))) (w : Worth) → Stands k x d target w rest → (p : Part k) (r : List ℕ) → part_at k d m ≡ some (front p r)
      → (v : Worth) → v ≡ worth_of (part_refusal k x p) (part_value k x p) → Stands k x d target (joined_worth (value_by o) w v) r
  one_more = rw h.written
      (subst
      (λ (k : Rank). (target : Option (Front (Tree k))) (w : Worth) → Stands k x d target w (sign o ∷ m) → (p : Part k) (r : List ℕ) → part_at k d m ≡ some (front p r)
      → (v : Worth) → v ≡ worth_of (part_refusal k x p) (part_value k x p) → Stands k x d target (joined_worth (value_by o) w v) r)
      h.rank (one_of x d o m))

  pub falls : (p : Part k) (r : List ℕ) → part_at k d m ≡ some (front p r) → length r < length rest
  falls p r e = let l = shorter k d m p r e in omega (arith, ap length h.written)
