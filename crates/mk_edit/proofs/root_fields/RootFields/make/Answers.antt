use Rattle.std.proofs.Common.{◌≡◌, ◌+◌, ◌-◌, ◌∙◌, ap, arith, length}
use Rattle.mk_splice.specs.Splices.{spliced}
use Rattle.mk_decide.specs.LocalAnswers.{plain_splice}
use Rattle.mk_edit.specs.inner.Gaps.{without_gap}
use Rattle.mk_edit.proofs.GapFields.{copied_there, held_made}
use Rattle.mk_edit.proofs.RootEdits.{made_root, root_within}
use Rattle.mk_edit.proofs.root_fields.RootFields.make.Goals as goal

-- the text then
made : (c : goal.After-len) → let r = plain_splice c.in_ok-place.field-0 in without_gap c.replace.new.self ≡ spliced r.place r.count r.new (without_gap c.self.inside.text)
made c =
    let r = plain_splice c.in_ok-place.field-0 in
    c.in_ok-replace.ensures.ok ∙ (ap (spliced r.place r.count c.deref.result.now) c.decide.ensures.same ∙ ap (λ b. spliced r.place r.count b (without_gap c.self.inside.text)) c.deref.ensures.value)

pub overflow_add-self : goal.overflow_add-self
overflow_add-self c =
    let r = plain_splice c.in_ok-place.field-0 in
    let text = without_gap c.self.inside.text in
    let within = root_within (spliced r.place r.count r.new text) c.self.inside.start (c.self.inside.size - r.count + length r.new) c.in_ok-place.ensures.ok.left in
    omega (arith, within, ap length (made c), c.len.ensures, c.in_ok-replace.ensures.fits)

pub invariant_of-self-2 : goal.invariant_of-self-2
invariant_of-self-2 c =
    let r = plain_splice c.in_ok-place.field-0 in
    let text = without_gap c.self.inside.text in
    let t = c.replace.new.self in
    held_made c.args.edit.now text c.in_ok-name.name.items t c.self.inside.start c.self.inside.size c.len.result c.self.inside.known.bytes c.min-self-inside.result (length c.decide.new.text.front) r c.self.inside.known.marks c.in_ok-place.ensures.ok
    (c.in_ok-replace.ensures.ok ∙ (ap (spliced r.place r.count c.deref.result.now) c.decide.ensures.same ∙ ap (λ b. spliced r.place r.count b text) c.deref.ensures.value))
    c.in_ok-name.ensures.items (omega (arith, c.len.ensures)) c.self.invariant.names c.min-self-inside.ensures c.in_ok-place.ensures.gap c.in_ok-place.ensures.after c.in_ok-replace.ensures.front

pub returns-clause-ok : goal.returns-clause-ok
returns-clause-ok c =
    let r = plain_splice c.in_ok-place.field-0 in
    let text = without_gap c.self.inside.text in
    made_root c.args.edit.now text c.args.self.now (without_gap c.replace.new.self) c.in_ok-old.old.items c.self.inside.start c.self.inside.size r c.in_ok-place.ensures.ok (c.self.view_is ∙ c.begin-bytes.ensures.same)
    (c.in_ok-old.ensures ∙ copied_there text c.decide.new.text c.rest.result.now r.place c.front_len.result r.count c.decide.ensures.same c.rest.ensures c.front_len.ensures.front c.in_ok-place.ensures.after)
    (c.in_ok-replace.ensures.ok ∙ (ap (spliced r.place r.count c.deref.result.now) c.decide.ensures.same ∙ ap (λ b. spliced r.place r.count b text) c.deref.ensures.value))
