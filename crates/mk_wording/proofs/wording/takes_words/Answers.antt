use Rattle.std.proofs.Common.{◌≡◌, subst, sym}
use Rattle.std.specs.Prelude.{IfOk}
use Rattle.mk_wording.proofs.FieldLemmas.{taken}
use Rattle.mk_wording.proofs.wording.takes_words.Goals as goal

pub returns-in-Some : goal.returns-in-Some
returns-in-Some c =
    subst (λ t. IfOk c.value_takes_words.result (λ takes. takes ≡ t))
    (taken c.args.field.now c.in-Some.name.now c.in-Some.value.now c.trimmed.result.now c.strip.result.now (sym c.in-Some.ensures.parts) c.trimmed.ensures c.strip.ensures) c.value_takes_words.ensures
