use Rattle.std.proofs.Common.{◌≡◌, ◌++◌, Some, false, map}
use Rattle.mk_line.specs.Lines.{cut}
use Rattle.mk_head.specs.Fields.{fields_of}
use Rattle.mk_head.specs.Split.{fields_from}
use Rattle.mk_decide.specs.Views.{edit_of}
use Rattle.mk_mail.specs.Rules.{rule_edits}
use Rattle.mk_texts.specs.TextViews.{rule_of, text_rule}
use Rattle.mk_texts.specs.inner.ChangeViews.{IsChanger}
use Rattle.mk_texts.proofs.rules.rule_edits.Given as goal

abbrev pub invariant-loop-field : goal.invariant-loop-field
invariant-loop-field l = record {
  edits : map edit_of l.edits.items ++ rule_edits l.path l.eol (rule_of l.rule) l.next l.field-iterator ≡ rule_edits l.path l.eol (rule_of l.rule) (Some 1) (fields_of (fields_from false (cut l.head)));
  changer : IsChanger (text_rule l.rule) l.changer;
}
