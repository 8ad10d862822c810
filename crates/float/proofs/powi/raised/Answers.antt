-- A turn forms what stands first of what is left, and the last forms all of it.
use Rattle.std.proofs.Common.{◌≡◌, ℕ, suc, ◌+◌, ◌/◌, ◌^◌, ◌<◌, length, sym, refl, ap, ◌∙◌, zero-add, arith, length-append, rules}
use Rattle.float.specs.Powi.{Work, squared, ended, taken, works, work_of}
use Rattle.float.proofs.Products.{products_at_most}
use Rattle.float.proofs.Squaring.{stops, turns, ended_append}
use Rattle.float.proofs.powi.raised.Invariants.{Left}
use Rattle.float.proofs.powi.raised.Goals as goal

pub loop-m-init : goal.loop-m-init
loop-m-init c = record { fits = c.ranges.magnitude.fits; end = refl; count = zero-add _; most = products_at_most 32 32 _ _ c.ranges.magnitude.fits }

next : (m : ℕ) (s : Work) → 1 < m → m < 2 ^ 32 → length (works 32 m s) ≡ length (taken m s) + suc (length (works 32 (m / 2) (squared (ended s (taken m s)))))
next m s h f = ap length (turns 31 m s h f) ∙ length-append (taken m s) _

pub squared-held-requires : goal.squared-held-requires
squared-held-requires c = let e = next _ (work_of c.loop-m.held) c.loop-m-test.true c.loop-m.invariant.fits in omega arith

again : (m : ℕ) (s : Work) (p w : ℕ) (t : Work) → Left m s p w t → 1 < m → (u : Work) (q : ℕ) → u ≡ squared (ended s (taken m s)) → q ≡ p + length (taken m s) + 1
    → Left (m / 2) u q w t
again m s p w t l h u q e d =
    rw (e, d)
    record {
      fits = omega arith;
      end = sym (ended_append s (taken m s) _) ∙ sym (ap (ended s) (turns 31 m s h l.fits)) ∙ l.end;
      count = omega (arith, next m s h l.fits);
      most = l.most;
    }

pub loop-m-preserved : goal.loop-m-preserved
loop-m-preserved c =
    again _ _ _ _ _ c.loop-m.invariant c.loop-m-test.true _ _ (c.squared-held.ensures.work ∙ ap squared c.taken.ensures.work)
    (c.squared-held.ensures.products ∙ ap (λ (n : ℕ). n + 1) c.taken.ensures.products)

pub returns-clause-work : goal.returns-clause-work
returns-clause-work c = search (rules, stops 31 c.loop-m.m (work_of c.loop-m.held) c.loop-m-test.false)

pub returns-clause-products : goal.returns-clause-products
returns-clause-products c = search (rules, stops 31 c.loop-m.m (work_of c.loop-m.held) c.loop-m-test.false)
