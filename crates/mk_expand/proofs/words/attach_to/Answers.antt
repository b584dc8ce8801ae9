use Rattle.std.proofs.Common.{◌∙◌, ap}
use Rattle.mk_tree.specs.Documents.{tree}
use Rattle.mk_tree.specs.Sections.{section_at}
use Rattle.mk_build.specs.BuildViews.{attached_of}
use Rattle.mk_build.specs.Building.{named_in_utf8}
use Rattle.mk_pack.specs.Parts.{attached_file}
use Rattle.mk_expand.specs.Appends.{made_part}
use Rattle.mk_expand.specs.Views.{plain_edits}
use Rattle.mk_expand.proofs.Attached.{attach_told}
use Rattle.mk_expand.proofs.words.attach_to.Goals as goal

pub returns-in-Ok-clause-edits : goal.returns-in-Ok-clause-edits
returns-in-Ok-clause-edits c =
    attach_told c.args.eol c.args.path.items (named_in_utf8 (attached_file (record { media = c.args.file.now.media.now; path = c.args.file.now.path.now }) c.args.text.items)) (named_in_utf8 (attached_of c.in_ok-part.part)) (section_at c.args.path.items (tree c.args.doc.now))
    c.in-Ok.text.items c.in_ok-text-in-Ok.text.items (plain_edits c.in_ok-append-in-Ok.field-0.items) (ap named_in_utf8 c.in_ok-part.ensures.part) c.in-Ok.ensures.text.0 c.in-Ok.ensures.text.1 (c.in_ok-text-in-Ok.ensures ∙ ap (λ p. made_part c.args.eol c.in-Ok.text.items (section_at p (tree c.args.doc.now))) c.deref.ensures.value) c.in_ok-append-in-Ok.ensures
