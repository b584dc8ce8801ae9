use Rattle.std.proofs.Common.{◌≢◌, Option, None, Some, MatchOption, ap, refl, sym, ◌∙◌}
use Rattle.mk_script.specs.Endings.{without_returns}
use Rattle.mk_script.proofs.TurnedLines.{no_return, return_gone, returns_none}
use Rattle.mk_script.proofs.endings.without_returns.Goals as goal

pub each-preserved : goal.each-preserved
each-preserved c = sym (return_gone c.in-Some.front.now) ∙ (sym (ap without_returns c.in-Some.ensures) ∙ c.each.invariant)

-- what holds where there is none
when_none : {A P : Type 0} (Q : A → Type 0) (o : Option A) → ((x : A) → o ≢ Some x) → MatchOption o P Q → P
when_none Q None none met = met
when_none Q (Some x) none met = absurd (none x refl)

pub returns : goal.returns
returns c = sym (returns_none c.each.kept.now (no_return c.each.kept.now (when_none _ c.before_return.result c.in_default.not-Some c.before_return.ensures))) ∙ c.each.invariant
