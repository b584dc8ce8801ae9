use Rattle.std.proofs.Common.{◌≡◌, ◌++◌, drop, map}
use Rattle.std.specs.Prelude.{encode_utf8_all}
use Rattle.std.specs.String.{string_bytes}
use Rattle.mk_view.specs.TextNames.{fitting, plain_character}
use Rattle.mk_view.proofs.text_names.push_fitting.Given as goal

abbrev pub invariant-loop-character : goal.invariant-loop-character
invariant-loop-character l =
    string_bytes l.name ++ encode_utf8_all (fitting l.room (map plain_character (drop l.character-index l.characters)))
    ≡ string_bytes l.fn.name ++ encode_utf8_all (fitting l.most (map plain_character l.characters))
