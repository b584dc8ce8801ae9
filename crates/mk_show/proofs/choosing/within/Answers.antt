use Rattle.std.proofs.Common.{sym, subst}
use Rattle.mk_view.specs.LeafViews.{AreAt}
use Rattle.mk_script.specs.ScriptViews.{items_of}
use Rattle.mk_show.proofs.ChoosingLemmas.{kept_more, kept_same, safe_more, at_more}
use Rattle.mk_show.proofs.choosing.within.Goals as goal

pub loop-leaf-preserved-in-Continue-1 : goal.loop-leaf-preserved-in-Continue-1
loop-leaf-preserved-in-Continue-1 c =
    let items = c.in-Some.ensures.steps.0 in
    let chosen = rw c.deref.ensures.value at (sym c.if-is_within.ensures) in
    record {
      kept = kept_more (items_of c.args.sections.now) _ _ c.in-Some.leaf _ _ c.in_ok-push.ensures.items chosen (rw items at c.loop-leaf.invariant.kept);
      safe = λ all.
          let before = c.loop-leaf.invariant.safe all in
          let rest = rw items at before.0 in
          (rest.1, safe_more _ _ c.in-Some.leaf c.in_ok-push.ensures.items before.1 rest.0);
      placed = λ t all.
          let before = c.loop-leaf.invariant.placed t all in
          let rest = subst (AreAt t) items before.0 in
          (rest.1, at_more t _ _ c.in-Some.leaf c.in_ok-push.ensures.items before.1 rest.0);
    }

pub loop-leaf-preserved : goal.loop-leaf-preserved
loop-leaf-preserved c =
    let items = c.in-Some.ensures.steps.0 in
    let left = rw c.deref.ensures.value at (sym c.if-is_within.ensures) in
    record {
      kept = kept_same (items_of c.args.sections.now) _ c.in-Some.leaf _ _ left (rw items at c.loop-leaf.invariant.kept);
      safe = λ all.
          let before = c.loop-leaf.invariant.safe all in
          let rest = rw items at before.0 in
          (rest.1, before.1);
      placed = λ t all.
          let before = c.loop-leaf.invariant.placed t all in
          let rest = subst (AreAt t) items before.0 in
          (rest.1, before.1);
    }

pub returns-clause-placed : goal.returns-clause-placed
returns-clause-placed c = λ t all. (c.loop-leaf.invariant.placed t all).1
