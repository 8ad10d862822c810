-- Laws over histories: a record's count is of the samples that were taken, and its other number of those refused; up to the last offer that
-- it counts each is one or the other, and past that one nothing changes. Assumes nothing.
use Prim.Native.Nat.{ℕ, zero, suc, ◌+◌, ◌-◌, ◌≤◌, ◌<◌, min}
use native.Mathlib.Nat.{le_of_suc-le-suc, eq-or-lt_of_le}
use native.Mathlib.Omega.{arith}
use mathlib.Core.Path.{◌≡◌, refl, sym, ap}
use mathlib.Core.Logic.{◌⊎◌, inl, inr}
use mathlib.Core.List.{List, [], ◌∷◌}
use mathlib.Core.Bool.{Bool, true, false, cond}
use borrow.Author.Tests.{lt-leb, ne_eqb, eqb-false, leb-false, ltb-false}
use lib.Dec.{leb, ltb, eqb}
use lib.ListN.{length}
use lib.Ieee.{binary32, ones, of_bits}
use Rattle.format.specs.Fields.{magnitude, exponent}
use Rattle.format.specs.Classes.{is_endless}
use Rattle.format.specs.Value.{Finite}
use Rattle.format.proofs.Fields.{exponent_lt}
use Rattle.format.proofs.Order.{either}
use Rattle.grain.specs.declared.Grain.{Grain}
use Rattle.grain.specs.Grain.{fresh, most_offers, most_samples, largest, taken, turned_away, refusal_of, made, record_after, Offered, offered}
use Rattle.grain.specs.History.{after, accepted_in, refused_in, one_if_taken, one_if_refused, EachTaken}
use Rattle.grain.proofs.Answers.{worn_out}

-- ---- one offer

-- what one offer adds, when its refusal is n
pub record Added (n : ℕ) (g r : Grain) : Type 0 where
  pub counted : r.count ≡ g.count + one_if_taken n
  pub tallied : r.refused ≡ g.refused + one_if_refused n

added_by : (n : ℕ) (g : Grain) (w : ℕ) → Added n g (made n g w)
unfolding taken turned_away
added_by zero g w = record { counted = refl; tallied = omega arith }
added_by (suc n) g w = go (eqb (suc n) 12) refl
  where
    go : (b : Bool) → eqb (suc n) 12 ≡ b → Added (suc n) g (made (suc n) g w)
    go true e = record { counted = rw e (omega arith); tallied = rw e (omega arith) }
    go false e =
        let z : eqb (suc n) 0 ≡ false = ne_eqb (suc n) 0 (λ h. omega arith) in
        record { counted = rw (e, z) (omega arith); tallied = rw (e, z) refl }

pub added : (g : Grain) (w : ℕ) → Added (refusal_of g w) g (record_after g w)
unfolding record_after
added g w = added_by (refusal_of g w) g w

-- past the last offer: 12, and the record as it was
pub past_the_limit : (g : Grain) (w : ℕ) → most_offers ≤ g.count + g.refused → offered g w ≡ record { refusal = 12; grain = g }
past_the_limit g w h = sym (worn_out g w h)

refused_past : (g : Grain) (w : ℕ) → most_offers ≤ g.count + g.refused → refusal_of g w ≡ 12
unfolding offered
refused_past g w h = ap (λ (o : Offered). o.refusal) (past_the_limit g w h)

unchanged_past : (g : Grain) (w : ℕ) → most_offers ≤ g.count + g.refused → record_after g w ≡ g
unfolding offered
unchanged_past g w h = ap (λ (o : Offered). o.grain) (past_the_limit g w h)

-- a refused sample leaves the statistics
pub record Kept (g r : Grain) : Type 0 where
  pub count_stays : r.count ≡ g.count
  pub mean_stays : r.mean ≡ g.mean
  pub sum_stays : r.sum ≡ g.sum

kept_by : (n : ℕ) (g : Grain) (w : ℕ) → (n ≡ 0 → ⊥) → Kept g (made n g w)
unfolding turned_away
kept_by n g w h = rw (ne_eqb n 0 h) (go (eqb n 12))
  where
    go : (b : Bool) → Kept g (cond b g (turned_away g))
    go true = record { count_stays = refl; mean_stays = refl; sum_stays = refl }
    go false = record { count_stays = refl; mean_stays = refl; sum_stays = refl }

pub statistics_stay : (g : Grain) (w : ℕ) → (refusal_of g w ≡ 0 → ⊥) → Kept g (record_after g w)
unfolding record_after
statistics_stay g w h = kept_by (refusal_of g w) g w h

-- before it each offer is either taken or refused
one_of_two : (a b c : Bool) → let n : ℕ = cond a 1 (cond b 4 (cond c 11 0)) in one_if_taken n + one_if_refused n ≡ 1
one_of_two true b c = refl
one_of_two false true c = refl
one_of_two false false true = refl
one_of_two false false false = refl

pub taken_or_refused : (g : Grain) (w : ℕ) → g.count + g.refused < most_offers → one_if_taken (refusal_of g w) + one_if_refused (refusal_of g w) ≡ 1
unfolding refusal_of
taken_or_refused g w h =
    rw (lt-leb most_offers (g.count + g.refused) h)
    (one_of_two (is_endless binary32 w) (ltb largest (magnitude binary32 w)) (leb most_samples g.count))

-- ---- what is known of a sample that is taken

pub record Accepted (g : Grain) (w : ℕ) : Type 0 where
  pub finite : Finite binary32 w
  pub within : magnitude binary32 w ≤ largest
  pub room : g.count < most_samples

tests_passed : (a b c d : Bool) → ◌≡◌ {A = ℕ} (cond a 12 (cond b 1 (cond c 4 (cond d 11 0)))) 0 → (b ≡ false) × ((c ≡ false) × (d ≡ false))
tests_passed true b c d e = absurd (omega arith)
tests_passed false true c d e = absurd (omega arith)
tests_passed false false true d e = absurd (omega arith)
tests_passed false false false true e = absurd (omega arith)
tests_passed false false false false e = (refl, (refl, refl))

pub accepted : (g : Grain) (w : ℕ) → refusal_of g w ≡ 0 → Accepted g w
unfolding refusal_of
accepted g w e =
    let t = tests_passed (leb most_offers (g.count + g.refused)) (is_endless binary32 w) (ltb largest (magnitude binary32 w)) (leb most_samples g.count) e in
    record {
      finite = go (eq-or-lt_of_le (le_of_suc-le-suc (exponent_lt binary32 w))) (eqb-false (exponent binary32 w) (ones binary32) t.0);
      within = ltb-false largest (magnitude binary32 w) t.1.0;
      room = leb-false most_samples g.count t.1.1;
    }
  where
    go : (exponent binary32 w ≡ ones binary32) ⊎ (exponent binary32 w < ones binary32) → (exponent binary32 w ≡ ones binary32 → ⊥) → Finite binary32 w
    go (inl h) n = absurd (n h)
    go (inr l) n = l

-- what every sample that is taken keeps, and every refusal too, holds after a history
module _ (P : Grain → Type 0) (Q : ℕ → Type 0)
    (more : (g : Grain) (w : ℕ) → Accepted g w → Q w → P g → P (taken g (of_bits binary32 w)))
    (less : (g : Grain) → P g → P (turned_away g)) where
  made_keeps : (n : ℕ) (g : Grain) (w : ℕ) → refusal_of g w ≡ n → (n ≡ 0 → Q w) → P g → P (made n g w)
  made_keeps zero g w e q h = more g w (accepted g w e) (q refl) h
  made_keeps (suc n) g w e q h = rw (ne_eqb (suc n) 0 (λ k. omega arith)) (go (eqb (suc n) 12))
    where
      go : (b : Bool) → P (cond b g (turned_away g))
      go true = h
      go false = less g h

  pub along : (g : Grain) (ws : List ℕ) → EachTaken Q g ws → P g → P (after g ws)
  unfolding record_after
  along g [] c h = h
  along g (w ∷ ws) c h = along (record_after g w) ws c.1 (made_keeps (refusal_of g w) g w refl c.0 h)

-- ---- a history

pub record Counts (g : Grain) (ws : List ℕ) : Type 0 where
  pub counted : (after g ws).count ≡ g.count + accepted_in g ws
  pub tallied : (after g ws).refused ≡ g.refused + refused_in g ws

pub counts : (g : Grain) (ws : List ℕ) → Counts g ws
counts g [] = record { counted = omega arith; tallied = omega arith }
counts g (w ∷ ws) =
    let one = added g w in
    let rest = counts (record_after g w) ws in
    record { counted = omega (arith, one.counted, rest.counted); tallied = omega (arith, one.tallied, rest.tallied) }

pub all_offers : (g : Grain) (ws : List ℕ) → g.count + g.refused + length ws ≤ most_offers → accepted_in g ws + refused_in g ws ≡ length ws
all_offers g [] h = refl
all_offers g (w ∷ ws) h =
    let here = taken_or_refused g w (omega arith) in
    let one = added g w in
    let rest = all_offers (record_after g w) ws (omega (arith, one.counted, one.tallied)) in
    omega (arith, here, rest)

pub record Still (g : Grain) (ws : List ℕ) : Type 0 where
  pub same : after g ws ≡ g
  pub none_taken : accepted_in g ws ≡ 0
  pub none_refused : refused_in g ws ≡ 0

pub still_past : (g : Grain) (ws : List ℕ) → most_offers ≤ g.count + g.refused → Still g ws
still_past g [] h = record { same = refl; none_taken = refl; none_refused = refl }
still_past g (w ∷ ws) h =
    let rest = still_past g ws h in
    record {
      same = rw (unchanged_past g w h) rest.same;
      none_taken = rw (refused_past g w h, unchanged_past g w h) (omega (arith, rest.none_taken));
      none_refused = rw (refused_past g w h, unchanged_past g w h) (omega (arith, rest.none_refused));
    }

-- ---- from a fresh record

pub fresh_counts : (ws : List ℕ) → ((after fresh ws).count ≡ accepted_in fresh ws) × ((after fresh ws).refused ≡ refused_in fresh ws)
fresh_counts ws = let h = counts fresh ws in (omega (arith, h.counted), omega (arith, h.tallied))

pub fresh_all_offers : (ws : List ℕ) → length ws ≤ most_offers → accepted_in fresh ws + refused_in fresh ws ≡ length ws
fresh_all_offers ws h = all_offers fresh ws (omega arith)

-- of any number of offers, as many as a record counts are taken or refused
abbrev pub UpToTheLimit : Grain → List ℕ → Type 0
UpToTheLimit g ws = accepted_in g ws + refused_in g ws ≡ min (length ws) (most_offers - (g.count + g.refused))

pub up_to_the_limit : (g : Grain) (ws : List ℕ) → g.count + g.refused ≤ most_offers → UpToTheLimit g ws
up_to_the_limit g [] l = omega arith
up_to_the_limit g (w ∷ ws) l = go (either most_offers (g.count + g.refused)) (λ k. up_to_the_limit (record_after g w) ws k)
  where
    go : (most_offers ≤ g.count + g.refused) ⊎ (g.count + g.refused < most_offers)
        → ((record_after g w).count + (record_after g w).refused ≤ most_offers → UpToTheLimit (record_after g w) ws) → UpToTheLimit g (w ∷ ws)
    go (inl h) later = let s = still_past g (w ∷ ws) h in omega (arith, s.none_taken, s.none_refused)
    go (inr h) later =
        let here = taken_or_refused g w h in
        let one = added g w in
        let rest = later (omega (arith, here, one.counted, one.tallied)) in
        omega (arith, here, rest, one.counted, one.tallied)

pub fresh_up_to_the_limit : (ws : List ℕ) → accepted_in fresh ws + refused_in fresh ws ≡ min (length ws) most_offers
fresh_up_to_the_limit ws = up_to_the_limit fresh ws (omega arith)

-- after as many offers as a record counts, or more, each further one is refused with 12 and changes nothing
pub fresh_past : (ws : List ℕ) (w : ℕ) → most_offers ≤ length ws → offered (after fresh ws) w ≡ record { refusal = 12; grain = after fresh ws }
fresh_past ws w h =
    let c = fresh_counts ws in
    past_the_limit (after fresh ws) w (omega (arith, c.0, c.1, fresh_up_to_the_limit ws))
