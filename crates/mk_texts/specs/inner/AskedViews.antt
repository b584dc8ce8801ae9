-- What words ask for in memory as plain data, for private contracts.
use Rattle.std.specs.Option.{option_map}
use Rattle.mk_texts.specs.TextViews.{replacement_in}
use Rattle.mk_texts.specs.Words.{PlainAsked, PlainFlags}
use Rattle.mk_texts.specs.declared.words.AskedRule.{AskedRule}
use Rattle.mk_texts.specs.declared.subs.Flags.{Flags}

-- what is asked for, as it is
abbrev pub rule_asked : AskedRule → PlainAsked
rule_asked a = record { name = a.name.now; pattern = a.pattern.items; any_case = a.any_case; put = option_map replacement_in a.replacement }

-- flags as they are
abbrev pub flags_in : Flags → PlainFlags
flags_in f = record { each = f.each; any_case = f.any_case }
