use Rattle.std.proofs.Common.{refl, sym, ◌∙◌, rules}
use Rattle.recipe.specs.Reader.{names}
use Rattle.recipe.proofs.Fronts.{missed, passed, hit}
use Rattle.recipe.proofs.token.opening.Goals.{then-eq+in_default, else-eq}
use Rattle.recipe.proofs.token.opening.Goals as goal

pub loop-name-init : goal.loop-name-init
loop-name-init c = record { left = names; agree = search rules; same = refl }

pub returns-in-Some : goal.returns-in-Some
returns-in-Some c = let e = c.in-Some.ensures.cases in hit _ _ _ _ c.loop-name.invariant c.loop-name-test.true e.0 _ e.1

pub loop-name-preserved : goal.loop-name-preserved
loop-name-preserved c =
    elim c.if-eq.branch [
      | then-eq+in_default w ↦ missed _ _ _ _ c.loop-name.invariant c.loop-name-test.true w.in_default.ensures.cases
      | else-eq w ↦ passed _ _ _ _ c.loop-name.invariant c.loop-name-test.true _ _ c.first.ensures.value c.first-in-loop-name.ensures.value (sym c.eq.ensures ∙ w.if-eq.false)
    ]
