use Rattle.std.proofs.Common.{◌≡◌, sym, ◌∙◌, subst, Result, Ok, Err, OnOk}
use Rattle.mk_tree.specs.Documents.{Document, tree, printed}
use Rattle.mk_tree.specs.Planning.{Becomes, Puts, new_of}
use Rattle.mk_splice.specs.Splices.{spliced}
use Rattle.mk_tree.specs.Splicing.{SectionBecomes}
use Rattle.mk_tree.proofs.Kept.{text_kept}
use Rattle.mk_tree.proofs.Spliced.{made, becomes_there, not_missing}
use Rattle.mk_tree.proofs.doc.Doc.change_section.Goals as goal

pub plan_change-requires : goal.plan_change-requires
plan_change-requires c = becomes_there (tree c.args.self.now) c.requires.0 c.args.path.now (Becomes c.args.change) c.section.result c.in-Some.section c.requires.1 c.section.ensures c.in-Some.is

pub put-requires : goal.put-requires
put-requires c =
    subst (λ xs. Puts c.args.path.now xs (tree c.args.self.now) c.in_ok-plan-in-Some.plan) (sym c.text.ensures)
    (made (tree c.args.self.now) c.requires.0 c.args.path.now (Becomes c.args.change) (new_of c.args.change) c.levels_below-left.result c.in_ok-plan-in-Some.plan c.section.result c.in-Some.section c.requires.1 c.section.ensures c.in-Some.is c.levels_below-left.ensures
    c.in_ok-plan-in-Some.ensures).puts

on_ok : {A E : Type 0} (r : Result A E) (P Q : Type 0) → OnOk r P → (P → Q) → OnOk r Q
on_ok (Ok x) P Q h f = f h
on_ok (Err e) P Q h f = tt

pub returns-in_ok-plan-in-Some-clause-ok : goal.returns-in_ok-plan-in-Some-clause-ok
returns-in_ok-plan-in-Some-clause-ok c =
    let t = tree c.args.self.now in
    let q = c.in_ok-plan-in-Some.plan in
    on_ok c.put.result (c.put.new.self ≡ spliced q.place q.count c.text.result.now c.args.self.now) ((u : Document) → SectionBecomes c.args.path.now (Becomes c.args.change) t u → c.put.new.self ≡ printed u) c.put.ensures.ok
    (λ h u b.
    let m = made t u c.args.path.now (Becomes c.args.change) (new_of c.args.change) c.levels_below-left.result q c.section.result c.in-Some.section b c.section.ensures c.in-Some.is c.levels_below-left.ensures c.in_ok-plan-in-Some.ensures in
    h ∙ ((λ i. spliced q.place q.count (c.text.ensures i) (sym (text_kept c.args.self.now) i)) ∙ m.text))

pub returns-in-None-clause-ok : goal.returns-in-None-clause-ok
returns-in-None-clause-ok c = λ u b. absurd (not_missing (tree c.args.self.now) u c.args.path.now (Becomes c.args.change) c.section.result b c.section.ensures c.in-None.is)
