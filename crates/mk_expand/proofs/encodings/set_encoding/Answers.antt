use Rattle.std.proofs.Common.{◌∙◌, sym, ap}
use Rattle.mk_tree.specs.Documents.{tree}
use Rattle.mk_tree.specs.Sections.{content_text, section_at}
use Rattle.mk_expand.specs.Contents.{body_with}
use Rattle.mk_expand.specs.Encodings.{decoded_in, encoded_as, may_be_encoded}
use Rattle.mk_expand.specs.Views.{plain_edits}
use Rattle.mk_expand.proofs.Recodings.{recoded_refused, recoded_told}
use Rattle.mk_expand.proofs.encodings.set_encoding.Goals as goal

pub returns-in_ok-recoded-in-Leaf-clause-edits : goal.returns-in_ok-recoded-in-Leaf-clause-edits
returns-in_ok-recoded-in-Leaf-clause-edits c =
    let t = tree c.args.doc.now in
    let eol = c.args.eol in
    let section = c.in-Some.section in
    let found = ap (λ q. section_at q t) (sym c.deref.ensures.value) ∙ (sym c.section.ensures ∙ c.in-Some.is) in
    let read = ap (λ e. decoded_in e (content_text section)) (sym c.in_ok-encoding-in-Leaf.ensures)
    ∙ (ap (decoded_in c.in_ok-encoding-in-Leaf.encoding) (sym c.content.ensures) ∙ c.in_ok-bytes-in-Leaf.ensures.bytes) in
    let allowed = sym (ap (may_be_encoded c.args.to) c.deref-in-Leaf.ensures.value) ∙ (sym c.may_be_encoded.ensures ∙ c.if-not-may_be_encoded.false) in
    let made = c.in_ok-body-in-Leaf.ensures
    ∙ (ap (λ f. body_with eol f c.in_ok-encoded-in-Leaf.field-0.items) c.followed.ensures
    ∙ ap (body_with eol section.followed) (c.in_ok-encoded-in-Leaf.ensures ∙ ap (encoded_as c.args.to eol) c.deref-in-Leaf-2.ensures.value)) in
    recoded_told eol c.args.path.items c.args.to (section_at c.args.path.items t) section c.in_ok-bytes-in-Leaf.bytes.items c.in_ok-body-in-Leaf.body.items (plain_edits c.in_ok-recoded-in-Leaf.field-0.items)
    found (sym c.kind.ensures ∙ c.in-Leaf.is) read allowed made c.in_ok-recoded-in-Leaf.ensures

pub returns-then-not-may_be_encoded-clause-fault : goal.returns-then-not-may_be_encoded-clause-fault
returns-then-not-may_be_encoded-clause-fault c =
    let t = tree c.args.doc.now in
    let section = c.in-Some.section in
    let found = ap (λ q. section_at q t) (sym c.deref.ensures.value) ∙ (sym c.section.ensures ∙ c.in-Some.is) in
    let read = ap (λ e. decoded_in e (content_text section)) (sym c.in_ok-encoding-in-Leaf.ensures)
    ∙ (ap (decoded_in c.in_ok-encoding-in-Leaf.encoding) (sym c.content.ensures) ∙ c.in_ok-bytes-in-Leaf.ensures.bytes) in
    let refused = sym (ap (may_be_encoded c.args.to) c.deref-in-Leaf.ensures.value) ∙ (sym c.may_be_encoded.ensures ∙ c.if-not-may_be_encoded.true) in
    recoded_refused c.args.eol c.args.path.items c.args.to (section_at c.args.path.items t) section c.in_ok-bytes-in-Leaf.bytes.items found (sym c.kind.ensures ∙ c.in-Leaf.is) read refused
