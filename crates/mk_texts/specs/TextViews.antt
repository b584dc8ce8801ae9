-- Rules for texts in memory as plain data.
use Rattle.std.specs.Prelude.{◌&&◌, Bool, true}
use Rattle.std.specs.Option.{option_map, option_map_or}
use Rattle.mk_line.specs.Kinds.{is_name}
use Rattle.mk_mail.specs.Prepended.{is_one_line}
use Rattle.mk_mail.specs.Rules.{FieldRule}
use Rattle.mk_texts.specs.Texts.{PlainReplacement, PlainTextRule, text_change}
use Rattle.mk_texts.specs.declared.rules.Replacement.{Replacement}
use Rattle.mk_texts.specs.declared.rules.TextRule.{TextRule}
use Rattle.regex.specs.Bytes.{regex_names, regex_pattern}

-- a replacement as it is
abbrev pub replacement_in : Replacement → PlainReplacement
replacement_in p = record { text = p.text.items; each = p.each }

-- a rule as it is
abbrev pub text_rule : TextRule → PlainTextRule
text_rule t = record {
  name = t.name.items;
  re = regex_pattern t.pattern;
  groups = regex_names t.pattern;
  put = option_map replacement_in t.replacement;
}

-- what a rule does to the fields of its name
abbrev pub rule_of : TextRule → FieldRule
rule_of t = record { name = t.name.items; change = text_change (text_rule t) }

-- a rule of a valid name, whose replacement is one line
abbrev pub is_rule : TextRule → Bool
is_rule t = is_name t.name.items && option_map_or (λ p. is_one_line p.text.items) t.replacement true
