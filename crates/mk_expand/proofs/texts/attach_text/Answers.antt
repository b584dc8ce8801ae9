use Rattle.std.proofs.Common.{◌∙◌, sym, ap}
use Rattle.std.specs.Option.{option_map}
use Rattle.mk_tree.specs.Documents.{tree}
use Rattle.mk_tree.specs.Sections.{section_at}
use Rattle.mk_build.specs.BuildViews.{attached_of}
use Rattle.mk_expand.specs.Appends.{made_part}
use Rattle.mk_expand.specs.Views.{plain_edits}
use Rattle.mk_expand.specs.Words.{said_charset}
use Rattle.mk_expand.proofs.TextsPut.{attach_text_told}
use Rattle.mk_expand.proofs.texts.attach_text.Goals as goal

pub returns-in-Ok-clause-edits : goal.returns-in-Ok-clause-edits
returns-in-Ok-clause-edits c =
    attach_text_told c.args.eol c.args.path.items c.args.media.now c.args.text.items (section_at c.args.path.items (tree c.args.doc.now)) (option_map (λ x. x.now) c.in_ok-charset.charset) (attached_of c.in_ok-part.part)
    c.in-Ok.text.items c.in_ok-text-in-Ok.text.items (plain_edits c.in_ok-append-in-Ok.field-0.items)
    (sym c.is_text.ensures ∙ c.if-not-is_text.false) (ap said_charset (sym c.deref.ensures.value) ∙ c.in_ok-charset.ensures.charset) c.in_ok-part.ensures.part c.in-Ok.ensures.text.0 c.in-Ok.ensures.text.1 (c.in_ok-text-in-Ok.ensures ∙ ap (λ p. made_part c.args.eol c.in-Ok.text.items (section_at p (tree c.args.doc.now))) c.deref-in-Ok.ensures.value) c.in_ok-append-in-Ok.ensures
