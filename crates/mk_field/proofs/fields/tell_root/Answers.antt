use Rattle.std.proofs.Common.{◌≡◌, ◌∙◌, None, ap, false, is_some, sym, subst}
use Rattle.mk_tree.specs.Documents.{tree}
use Rattle.mk_tree.specs.Sections.{root_of, section_fields}
use Rattle.mk_mail.specs.Apart.{section_made}
use Rattle.mk_field.specs.FilterClauses.{fitted}
use Rattle.mk_field.specs.FilterViews.{filter_of}
use Rattle.mk_field.specs.Filtering.{filter_made, given_of}
use Rattle.mk_field.proofs.FilterLemmas.{fields_at_root}
use Rattle.mk_field.proofs.ToldLemmas.{said_by_header}
use Rattle.mk_field.proofs.fields.tell_root.Goals as goal

pub given-requires : goal.given-requires
given-requires c =
    c.after_envelope.ensures
    ∙ (ap (λ text. section_fields (root_of (tree text))) (c.deref-2.ensures.value ∙ sym c.deref.ensures.value) ∙ sym (fields_at_root c.args.filter.now.path.now c.deref.result.now c.requires.root))

pub returns-in-Ok-clause-told : goal.returns-in-Ok-clause-told
returns-in-Ok-clause-told c = λ number.
    let f = filter_of c.args.filter.now in
    let text = c.args.message.items in
    let place = c.place_to_keep-place.result in
    let told = rw c.in-Ok.is at c.in_ok-told.ensures.told in
    let none : given_of f.path f.form f.rounds text ≡ None = subst (λ t. given_of f.path f.form f.rounds t ≡ None) c.deref.ensures.value (sym (rw c.in_default.is at c.in_ok-text.ensures)) in
    let placed : is_some place ≡ false = sym c.is_some.ensures ∙ told.0 in
    let kept = subst (λ t. fitted place (section_made f.path f.rounds t) ≡ filter_made c.args.each f t) c.deref-3.ensures.value c.place_to_keep-place.ensures in
    said_by_header c.args.each f number text place c.in-Ok.told c.requires.root none placed kept (told.1 number)
