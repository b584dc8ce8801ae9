use Rattle.std.proofs.Common.{◌≡◌, sym, ◌∙◌, subst, Result, Ok, Err, OnOk}
use Rattle.mk_tree.specs.Documents.{Document, tree, printed}
use Rattle.mk_tree.specs.ChangeViews.{ChangesTo}
use Rattle.mk_splice.specs.Splices.{spliced}
use Rattle.mk_tree.proofs.Kept.{text_kept}
use Rattle.mk_tree.proofs.Spliced.{part_goes}
use Rattle.mk_tree.proofs.doc.Doc.change.Goals as goal

on_ok : {A E : Type 0} (r : Result A E) (P Q : Type 0) → OnOk r P → (P → Q) → OnOk r Q
on_ok (Ok x) P Q h f = f h
on_ok (Err e) P Q h f = tt

pub returns-in-Header-clause-ok : goal.returns-in-Header-clause-ok
returns-in-Header-clause-ok c =
    let t = tree c.args.self.now in
    on_ok c.change_fields.result _ ((u : Document) → ChangesTo c.args.path.now c.args.change.now t u → c.change_fields.new.self ≡ printed u) c.change_fields.ensures.ok
    (λ h u b.
    h
    ∙ ((λ i. spliced c.in-Header.place c.in-Header.count (c.deref.ensures.value i) (sym (text_kept c.args.self.now) i))
    ∙ sym (subst (λ w. ChangesTo c.args.path.now w t u) c.in-Header.is b).1))

pub returns-in-Some-clause-ok : goal.returns-in-Some-clause-ok
returns-in-Some-clause-ok c =
    let t = tree c.args.self.now in
    on_ok c.change_section-in-Some.result _ ((u : Document) → ChangesTo c.args.path.now c.args.change.now t u → c.change_section-in-Some.new.self ≡ printed u) c.change_section-in-Some.ensures.ok
    (λ h u b. h u (part_goes c.args.path.now c.in-Some.around.now c.in-Some.number.now t u c.in-Some.ensures.cases.0 (subst (λ w. ChangesTo c.args.path.now w t u) c.in-NoPart.is b)))
