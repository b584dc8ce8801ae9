use Rattle.std.proofs.Common.{◌∙◌, ap, refl}
use Rattle.mk_head.specs.Values.{stripped}
use Rattle.mk_texts.specs.TextViews.{text_rule}
use Rattle.mk_texts.proofs.TextsPut.{text_written}
use Rattle.mk_texts.proofs.changing.Changer.text_put.Goals as goal
use Rattle.regex.specs.Bytes.{matcher_pattern}

pub returns-clause-text : goal.returns-clause-text
returns-clause-text c =
    text_written (text_rule c.args.rule.now) c.args.rule.now.replacement c.in-Some.replacement c.args.self.now.template c.in-Some-template.template (matcher_pattern c.args.self.now.matcher) c.in-Some.replacement.each c.args.text.now c.in_ok-made.made.items
    c.in_ok-from_slice.field-0.items c.in-Some.is c.in-Some-template.is c.requires.template c.requires.pattern refl c.in_ok-made.ensures.written (c.in_ok-from_slice.ensures.items ∙ (c.strip.ensures ∙ ap stripped c.deref.ensures.value))
