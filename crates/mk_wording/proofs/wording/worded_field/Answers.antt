use Rattle.std.proofs.Common.{◌≡◌, subst, sym}
use Rattle.std.specs.Prelude.{IfOk}
use Rattle.mk_wording.proofs.FieldLemmas.{written}
use Rattle.mk_wording.proofs.wording.worded_field.Goals as goal

pub returns-in-Some : goal.returns-in-Some
returns-in-Some c =
    subst (λ t. IfOk c.in_words.result (λ worded. worded.items ≡ t))
    (written c.args.eol c.args.field.now c.in-Some.name.now c.in-Some.value.now c.trimmed.result.now c.strip.result.now (sym c.in-Some.ensures.parts) c.trimmed.ensures c.strip.ensures) c.in_words.ensures
