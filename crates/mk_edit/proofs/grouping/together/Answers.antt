use Rattle.std.proofs.Common.{◌∙◌, [], ◌∷◌, Err, ap, sym, arith, map, get_or, subst}
use Rattle.std.proofs.lemmas.List.{map-append}
use Rattle.mk_tree.specs.Documents.{tree}
use Rattle.mk_decide.specs.Answers.{refusal_of, IsRefusedBy}
use Rattle.mk_edit.specs.Drafts.{text_in}
use Rattle.mk_decide.specs.Edits.{Member}
use Rattle.mk_edit.specs.Groups.{together as defined}
use Rattle.mk_edit.specs.Histories.{grouped_by}
use Rattle.mk_edit.specs.Made.{IsMade}
use Rattle.mk_decide.specs.Outcomes.{edited}
use Rattle.mk_decide.specs.Views.{edit_of}
use Rattle.mk_splice.specs.Views.{splice_of}
use Rattle.mk_edit.proofs.GroupsMade.{told_next, goes_next, text_next, told_refused}
use Rattle.mk_edit.proofs.grouping.together.Goals as goal

pub returns-in-Err-clause-err : goal.returns-in-Err-clause-err
returns-in-Err-clause-err c = λ h.
    c.refused.ensures (grouped_by h (defined (map edit_of c.args.list.now) (tree c.args.doc.now)))
    (λ reason named.
    let refused =
    subst (λ x. IsRefusedBy (refusal_of c.in-Err.error) (edited (edit_of (get_or c.args.list.now c.loop-edit.edit-index c.edit-item.result)) (tree x))) c.ready-next.ensures
    (subst (λ e. IsRefusedBy (refusal_of c.in-Err.error) (edited (edit_of e) (tree (text_in c.ready-next.result)))) c.edit-item.is c.in-Err.ensures.err) in
    told_refused edit_of c.args.list.now c.loop-edit.edit-index c.edit-item.result (text_in c.loop-edit.draft) (map splice_of c.loop-edit.splices.items) (defined (map edit_of c.args.list.now) (tree c.args.doc.now)) (refusal_of c.in-Err.error) reason h c.loop-edit-test.true
    c.loop-edit.invariant.told refused named
    ∙ ap (λ k. Err (Member k reason)) (sym (c.len-in-Err.ensures ∙ c.loop-edit.invariant.size)))

pub loop-edit-preserved : goal.loop-edit-preserved
loop-edit-preserved c =
    let old = text_in c.loop-edit.draft in
    let new = text_in c.in-Ok.made in
    let one = subst (λ x. IsMade (edit_of c.edit-item.result) x (splice_of c.in-Ok.splice) new) c.ready-next.ensures c.in-Ok.ensures.ok in
    let made = subst (λ e. IsMade (edit_of e) old (splice_of c.in-Ok.splice) new) c.edit-item.is one in
    let more = ap (map splice_of) c.push_reserved.ensures.items ∙ map-append splice_of c.loop-edit.splices.items (c.in-Ok.splice ∷ []) in
    record {
      told = told_next edit_of c.args.list.now c.loop-edit.edit-index c.edit-item.result old new (map splice_of c.loop-edit.splices.items) (map splice_of c.push_reserved.new.self.items) (splice_of c.in-Ok.splice) (defined (map edit_of c.args.list.now) (tree c.args.doc.now)) c.loop-edit-test.true made more c.loop-edit.invariant.told;
      goes = goes_next (edit_of c.edit-item.result) c.args.doc.now old new (map splice_of c.loop-edit.splices.items) (map splice_of c.push_reserved.new.self.items) (splice_of c.in-Ok.splice) one more c.loop-edit.invariant.text c.loop-edit.invariant.goes;
      text = text_next (edit_of c.edit-item.result) c.args.doc.now old new (map splice_of c.loop-edit.splices.items) (map splice_of c.push_reserved.new.self.items) (splice_of c.in-Ok.splice) one more c.loop-edit.invariant.text;
      size = omega (arith, c.push_reserved.ensures.len, c.loop-edit.invariant.size);
      room = omega (arith, c.push_reserved.ensures.capacity, c.loop-edit.invariant.room);
    }
