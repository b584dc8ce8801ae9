use Rattle.mk_texts.proofs.TextsPut.{no_template, template_given}
use Rattle.mk_texts.proofs.changing.template.Goals as goal
use Rattle.regex.specs.Bytes.{regex_names}
use Rattle.regex.specs.Names.{names_of}

pub returns-in_ok-new-in-Some : goal.returns-in_ok-new-in-Some
returns-in_ok-new-in-Some c =
    template_given (names_of c.capture_names-names.result.now) (regex_names c.args.rule.now.pattern) c.args.rule.now.replacement c.in-Some.replacement c.deref.result.now c.in_ok-new-in-Some.field-0 c.in-Some.is c.capture_names-names.ensures c.deref.ensures.value c.in_ok-new-in-Some.ensures.read

pub returns-in-None : goal.returns-in-None
returns-in-None c = no_template (regex_names c.args.rule.now.pattern) c.args.rule.now.replacement c.in-None.is
