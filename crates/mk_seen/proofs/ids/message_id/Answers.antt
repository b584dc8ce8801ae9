use Rattle.std.proofs.Common.{◌≡◌, ◌∙◌, Some, map, ap, sym, refl, false}
use Rattle.mk_line.specs.Lines.{is_nil}
use Rattle.mk_seen.specs.SeenIds.{id_of_words}
use Rattle.mk_wording.specs.Values.{line_byte}
use Rattle.mk_seen.proofs.NewLines.{nil_is}
use Rattle.mk_seen.proofs.ids.message_id.Goals as goal

pub returns : goal.returns
returns c =
    let words = c.field_words-words.result.now in
    let some : is_nil words ≡ false = sym (nil_is words) ∙ (sym c.is_empty.ensures ∙ c.if-is_empty.false) in
    let is : id_of_words words ≡ Some (map line_byte words) = rw some refl in
    ap (λ i. Some i) c.in_ok-on_one_line.ensures ∙ (sym is ∙ ap id_of_words c.field_words-words.ensures)
