use Rattle.std.proofs.Common.{◌∙◌, ap, sym, false}
use Rattle.mk_line.specs.Lines.{cut}
use Rattle.mk_head.specs.Fields.{fields_of}
use Rattle.mk_head.specs.Split.{fields_from}
use Rattle.mk_tree.specs.Documents.{tree}
use Rattle.mk_tree.specs.Sections.{root_of, section_fields}
use Rattle.mk_mailbox.proofs.LinesGathered.{nil_is}
use Rattle.mk_reply.specs.Replies.{reply_for, subject_of_reply}
use Rattle.mk_reply.proofs.HeaderMade.{header_made}
use Rattle.mk_reply.proofs.header.reply_header.Goals as goal

pub returns : goal.returns
returns c =
    let fields = fields_of (fields_from false (cut c.after_envelope-head.result.now)) in
    header_made c.eol_of-eol.result fields _ _ _ _ _ _ _ _ _ _ _
    c.addressees-addressees.ensures (c.deref.ensures.value ∙ (c.in_ok-subject.ensures ∙ ap subject_of_reply c.words.ensures)) c.words-2.ensures (c.deref-2.ensures.value ∙ c.in_ok-references.ensures) c.bytes.ensures
    (sym (nil_is c.addressees-addressees.result.now) ∙ (sym c.is_empty.ensures ∙ c.if-is_empty.false))
    c.new-text.ensures.items c.in_ok-push_line.ensures c.in_ok-push_line-2.ensures c.in_ok-push_line-3.ensures c.in_ok-push_line-4.ensures c.in_ok-extend_from_slice.ensures.items
    ∙ (ap (λ f. reply_for c.eol_of-eol.result f) c.after_envelope-head.ensures ∙ ap (λ e. reply_for e (section_fields (root_of (tree c.args.message.now)))) c.eol_of-eol.ensures)
