-- Letters in memory as plain data.
use Rattle.std.specs.Prelude.{map}
use Rattle.std.specs.Option.{option_map}
use Rattle.mk_mail.specs.declared.letters.Letters.{Letters}
use Rattle.mk_mail.specs.declared.patterns.NamePattern.{NamePattern}
use Rattle.mk_mail.specs.declared.prepending.Prepend.{Prepend}
use Rattle.mk_mail.specs.Letters.{PlainLetters, PlainPattern}
use Rattle.mk_mail.specs.Prepended.{PlainPrepend}

-- a pattern as it is
abbrev pub pattern_of : NamePattern → PlainPattern
pattern_of p = record { text = p.text.items; is_front = p.is_front }

-- a text before fields as it is
abbrev pub prepend_of : Prepend → PlainPrepend
prepend_of p = record { name = p.name.items; text = p.text.items }

-- letters as they are
abbrev pub letters_of : Letters → PlainLetters
letters_of l = record {
  prepend = option_map prepend_of l.prepend;
  drops = map pattern_of l.drops.items;
  keeps = map pattern_of l.keeps.items;
  keep_only = l.keep_only;
  rename = option_map (λ p. (p.0.items, p.1.items)) l.rename;
  add_if = option_map (λ v. v.items) l.add_if;
  add = option_map (λ v. v.items) l.add;
  prefixed = option_map (λ v. v.items) l.prefixed;
  only = option_map (λ v. v.items) l.only;
  first = option_map (λ v. v.items) l.first;
  last = option_map (λ v. v.items) l.last;
  take = option_map (λ v. v.items) l.take;
  whole = option_map (λ v. v.items) l.whole;
}
