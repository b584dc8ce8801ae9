-- Changes and what makes them in memory, for private contracts.
use Rattle.std.specs.Prelude.{◌≡◌, ℕ, Option, None, Some, List}
use Rattle.mk_mail.specs.Rules.{FieldChange, Becomes as BecomesText, Goes as GoesAway, Stays as StaysThere}
use Rattle.mk_texts.specs.Texts.{PlainReplacement, PlainTextRule}
use Rattle.mk_texts.specs.declared.changing.Change.{Change}
use Rattle.mk_texts.specs.declared.changing.Change.TheVariants.{Stays, Goes, Becomes}
use Rattle.mk_texts.specs.declared.changing.Changer.{Changer}
use Rattle.regex.specs.Bytes.{IsReadFrom, matcher_pattern}
use Rattle.regex.specs.declared.bytes.template.Template.{Template}

-- a change as it is
abbrev pub change_of : Change → FieldChange
change_of Stays = StaysThere
change_of Goes = GoesAway
change_of (Becomes text) = BecomesText text.items

-- the template of a rule's replacement, where it has one
abbrev pub IsTemplate : List (Option (List ℕ)) → Option PlainReplacement → Option Template → Type 0
IsTemplate groups None None = Unit {0}
IsTemplate groups None (Some t) = ⊥
IsTemplate groups (Some p) None = ⊥
IsTemplate groups (Some p) (Some t) = IsReadFrom groups p.text t

-- what searches and writes for a rule
pub record IsChanger (r : PlainTextRule) (c : Changer) : Type 0 where
  pub pattern : matcher_pattern c.matcher ≡ r.re
  pub template : IsTemplate r.groups r.put c.template
