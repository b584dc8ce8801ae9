use Rattle.std.proofs.Common.{◌∙◌, sym, ap}
use Rattle.std.proofs.lemmas.List.{map-append}
use Rattle.mk_head.specs.ValueViews.{media_type_of}
use Rattle.mk_tree.specs.Documents.{tree}
use Rattle.mk_tree.specs.Sections.{section_at}
use Rattle.mk_decide.specs.Views.{edit_of}
use Rattle.mk_view.specs.Listing.{encoding_in}
use Rattle.mk_expand.specs.Contents.{encoded_in}
use Rattle.mk_expand.specs.FieldWords.{put}
use Rattle.mk_expand.specs.Views.{plain_edits}
use Rattle.mk_expand.specs.Words.{body_set}
use Rattle.mk_expand.proofs.TextsPut.{text_told}
use Rattle.mk_expand.proofs.texts.set_text.Goals as goal

pub returns-in_ok-append-in-Leaf-clause-edits : goal.returns-in_ok-append-in-Leaf-clause-edits
returns-in_ok-append-in-Leaf-clause-edits c =
    let t = tree c.args.doc.now in
    let eol = c.args.eol in
    let charset = c.args.charset.now in
    let bytes = c.args.bytes.now in
    let path = c.args.path.items in
    let section = c.in-Some.section in
    let media = media_type_of c.in_ok-media-in-Leaf.media in
    let found = ap (λ q. section_at q t) (sym c.deref.ensures.value) ∙ (sym c.section.ensures ∙ c.in-Some.is) in
    let made = c.in_ok-edits-in-Leaf.ensures
    ∙ (ap (λ q. put q c.deref-in-Leaf-2.result.now (section_at q t)) c.deref-in-Leaf.ensures.value ∙ ap (λ f. put path f (section_at path t)) c.deref-in-Leaf-2.ensures.value) in
    let body = ap (λ f. body_set eol path f (encoded_in (encoding_in section) eol bytes)) (sym c.followed.ensures)
    ∙ (ap (λ e. body_set eol path c.followed.result (encoded_in e eol bytes)) (sym c.in_ok-encoding-in-Leaf.ensures) ∙ c.in_ok-body-in-Leaf.ensures.edits) in
    let joined = ap plain_edits c.in_ok-append-in-Leaf.ensures.items ∙ map-append edit_of c.in_ok-edits-in-Leaf.edits.items c.in_ok-body-in-Leaf.body.items in
    text_told eol path charset bytes (section_at path t) section media c.in_ok-field-in-Leaf.field.items (plain_edits c.in_ok-edits-in-Leaf.edits.items) (plain_edits c.in_ok-body-in-Leaf.body.items) (plain_edits c.append.new.self.items)
    found (sym c.kind.ensures ∙ c.in-Leaf.is) c.in_ok-media-in-Leaf.ensures c.in_ok-check_text-in-Leaf.ensures.text c.in_ok-field-in-Leaf.ensures made body joined
