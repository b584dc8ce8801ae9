use Rattle.std.proofs.Common.{[], ◌∷◌, ◌++◌, ap, map, sym, subst, ◌∙◌}
use Rattle.std.proofs.lemmas.List.{map-append}
use Rattle.std.proofs.lemmas.Result.{err_from_is_err_and}
use Rattle.mk_tree.specs.Documents.{tree}
use Rattle.mk_view.specs.Extracts.{IsExtract, IsExtractRefused}
use Rattle.mk_view.specs.LeafViews.{AreAt, leaf_view}
use Rattle.mk_uses.specs.Walked.{AreContents, IsRefusedSomewhere, path_and_name}
use Rattle.mk_uses.proofs.Walking.{content_more}
use Rattle.mk_uses.proofs.listings.attachments.Goals as goal

pub loop-leaf-init : goal.loop-leaf-init
loop-leaf-init c =
    let t = tree c.args.doc.now in
    let gives = c.into_iter-leaf-iterator.ensures.into_iter_gives.0 in
    (ap (map path_and_name) c.new-found.ensures.items, subst (AreContents t) (sym c.new-found.ensures.items) tt, subst (AreAt t) (sym gives) c.in-Ok.ensures.placed)

pub loop-leaf-preserved : goal.loop-leaf-preserved
loop-leaf-preserved c =
    let t = tree c.args.doc.now in
    let at = subst (AreAt t) c.in-Some.ensures.steps.0 c.loop-leaf.invariant.2 in
    let shown = subst (λ s. IsExtract s c.in_ok-content.content.items) (sym at.0) c.in_ok-content.ensures.content in
    let named = ap (map path_and_name) c.in-Ok-push.ensures.items ∙ map-append path_and_name c.loop-leaf.found.items _ ∙ ap (λ views. views ++ leaf_view c.in-Some.leaf ∷ []) c.loop-leaf.invariant.0 ∙ sym (map-append leaf_view c.loop-leaf.yielded (c.in-Some.leaf ∷ [])) in
    (named, subst (AreContents t) (sym c.in-Ok-push.ensures.items) (content_more t c.loop-leaf.found.items _ c.loop-leaf.invariant.1 shown), at.1)

pub returns-in_err-content-clause-refused : goal.returns-in_err-content-clause-refused
returns-in_err-content-clause-refused c =
    let t = tree c.args.doc.now in
    let at = subst (AreAt t) c.in-Some.ensures.steps.0 c.loop-leaf.invariant.2 in
    let stopped = err_from_is_err_and c.from_residual.result c.from_residual.ensures.1 in
    rw stopped.1 (subst (IsRefusedSomewhere t) (sym stopped.2) (c.in-Some.leaf.path.items, subst (λ s. IsExtractRefused s c.in_err-content.field-0.0) (sym at.0) c.in_err-content.ensures.refused))

pub returns-in-Err-clause-refused : goal.returns-in-Err-clause-refused
returns-in-Err-clause-refused c = (1 ∷ [], tt)

pub returns-in-Err-push-clause-refused : goal.returns-in-Err-push-clause-refused
returns-in-Err-push-clause-refused c = (1 ∷ [], tt)
