use Rattle.std.proofs.Common.{◌≡◌, IfOk, subst, sym}
use Rattle.mk_texts.specs.TextViews.{text_rule}
use Rattle.mk_texts.specs.inner.ChangeViews.{change_of}
use Rattle.mk_texts.proofs.FieldsSaid.{changed}
use Rattle.mk_texts.proofs.changing.Changer.change.Goals as goal

pub returns-in-Some-clause-change : goal.returns-in-Some-clause-change
returns-in-Some-clause-change c =
    subst (λ t. IfOk c.value_change.result (λ change. change_of change ≡ t))
    (changed (text_rule c.args.rule.now) c.args.eol c.args.raw.now c.in-Some.name.now c.in-Some.value.now c.trimmed-name.result.now (sym c.in-Some.ensures.parts) c.trimmed-name.ensures) c.value_change.ensures.change
