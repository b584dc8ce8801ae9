-- Filters in memory as plain data, and which of them may be asked for.
use Rattle.std.specs.Prelude.{◌&&◌, ◌||◌, Bool, true, false, List, length, map, nat_lt, not}
use Rattle.std.specs.List.{list_all, list_any}
use Rattle.mk_mail.specs.LetterViews.{letters_of}
use Rattle.mk_mail.specs.Letters.{are_allowed}
use Rattle.mk_mail.specs.Rounds.{ByLetters, ByRule, PlainRound}
use Rattle.mk_texts.specs.TextViews.{rule_of}
use Rattle.mk_field.specs.Filtering.{PlainFilter, ask}
use Rattle.mk_field.specs.declared.filters.FieldFilter.{FieldFilter}
use Rattle.mk_field.specs.declared.filters.Round.{Round}
use Rattle.mk_field.specs.declared.filters.Round.TheVariants.{Letters, Rule}

-- a round as it is
abbrev pub round_of : Round → PlainRound
round_of (Letters lf crlf) = ByLetters (letters_of lf.now) (letters_of crlf.now)
round_of (Rule rule) = ByRule (rule_of rule.now)

-- a filter as it is
abbrev pub filter_of : FieldFilter → PlainFilter
filter_of f = record { rounds = map round_of f.rounds.now; form = f.form; from_lines = f.from_lines; path = f.path.now }

-- the letters of a round may be asked for; a rule always may
abbrev pub is_round : PlainRound → Bool
is_round (ByLetters lf crlf) = are_allowed lf && are_allowed crlf
is_round (ByRule rule) = true

-- a round asks for fields
abbrev pub round_asks : PlainRound → Bool
round_asks (ByLetters lf crlf) = ask lf || ask crlf
round_asks (ByRule rule) = false

-- a round asks for fields of each message, however its lines end
abbrev pub round_asks_always : PlainRound → Bool
round_asks_always (ByLetters lf crlf) = ask lf && ask crlf
round_asks_always (ByRule rule) = false

-- no round edits beside one that asks for fields: there is one round alone, none asks, or all do
abbrev pub ask_alone : List PlainRound → Bool
ask_alone rs = nat_lt (length rs) 2 || (not (list_any round_asks rs) || list_all round_asks_always rs)

-- a filter that may be asked for
abbrev pub is_allowed : PlainFilter → Bool
is_allowed f = list_all is_round f.rounds && ask_alone f.rounds
