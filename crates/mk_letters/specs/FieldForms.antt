-- The forms in which the fields of letters go into a message (own).
use Rattle.std.specs.Prelude.{if◌then◌else◌, ℕ, List}
use Rattle.std.specs.Option.{option_map}
use Rattle.mk_line.specs.declared.cutting.Ending.{Ending}
use Rattle.mk_script.specs.Endings.{turned_to}
use Rattle.mk_letters.specs.Asked.{PlainWords}
use Rattle.mk_wording.specs.Wording.{worded_field}
use Rattle.mk_letters.specs.declared.forms.FieldForm.{FieldForm}

-- a field in a form, for a message whose lines end so: in encoded words (`--encode`), and with the ending of the message at each of
-- its lines (`--eol`), where these are asked for
abbrev pub in_form : FieldForm → Ending → List ℕ → List ℕ
in_form form eol field =
    let encoded = if form.encoded then worded_field eol field else field in
    if form.turned then turned_to eol encoded else encoded

-- words of the command line of which those that are fields are in a form
abbrev pub words_in_form : FieldForm → Ending → PlainWords → PlainWords
words_in_form form eol w = record {
  prepend = w.prepend;
  drops = w.drops;
  keeps = w.keeps;
  keep_only = w.keep_only;
  rename = w.rename;
  add_if = option_map (in_form form eol) w.add_if;
  add = option_map (in_form form eol) w.add;
  prefixed = option_map (in_form form eol) w.prefixed;
  only = option_map (in_form form eol) w.only;
  first = w.first;
  last = w.last;
  take = w.take;
  whole = w.whole;
}
