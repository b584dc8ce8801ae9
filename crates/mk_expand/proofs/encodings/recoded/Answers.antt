use Rattle.std.proofs.Common.{◌++◌, ◌∷◌, [], ◌∙◌, ap}
use Rattle.std.proofs.lemmas.List.{map-append}
use Rattle.mk_tree.specs.Documents.{tree}
use Rattle.mk_tree.specs.Sections.{section_at}
use Rattle.mk_decide.specs.Edits.{SetBody}
use Rattle.mk_decide.specs.Views.{edit_of}
use Rattle.mk_expand.specs.FieldWords.{put}
use Rattle.mk_expand.specs.Views.{plain_edits}
use Rattle.mk_expand.proofs.encodings.recoded.Goals as goal

pub returns : goal.returns
returns c =
    let t = tree c.args.doc.now in
    let path = c.args.path.items in
    let before = c.in_ok-edits.ensures
    ∙ (ap (λ q. put q c.deref-2.result.now (section_at q t)) c.deref.ensures.value
    ∙ ap (λ f. put path f (section_at path t)) (c.deref-2.ensures.value ∙ c.in_ok-field.ensures)) in
    ap plain_edits c.in_ok-push.ensures.items
    ∙ (map-append edit_of c.in_ok-edits.edits.items _ ∙ ap (λ xs. xs ++ SetBody path c.args.body.items ∷ []) before)
