use Rattle.std.proofs.Common.{rules, ◌≡◌, ◌++◌, [], ap, map, ◌∙◌}
use Rattle.std.specs.List.{flat_map}
use Rattle.std.specs.Vec.Iter.{into_iter_items}
use Rattle.mk_decide.specs.Views.{edit_of}
use Rattle.mk_view.specs.ListedViews.{listed_view}
use Rattle.mk_uses.proofs.Walking.{all_gone, count_left, more_gone, none_left}
use Rattle.mk_uses.specs.Inserted.{insertion}
use Rattle.mk_uses.proofs.insertions.insertions.Goals as goal

pub loop-listed-init : goal.loop-listed-init
loop-listed-init c =
    let gives : into_iter_items c.into_iter-listed-iterator.result ≡ c.in_ok-listed-items.listed-items.items = search rules in
    record {
      made =
          (λ i. map edit_of (c.new-edits.ensures.items i) ++ flat_map (insertion c.args.part.now) (map listed_view (gives i)))
          ∙ ap (flat_map (insertion c.args.part.now)) c.in_ok-listed-items.ensures.all;
      counted = search rules;
    }

pub loop-listed-preserved : goal.loop-listed-preserved
loop-listed-preserved c = record {
  made = more_gone (insertion c.args.part.now) listed_view (map edit_of c.loop-listed.edits.items) _ c.in-Some.listed _ _ _ c.in-Some.ensures.steps.0 c.loop-listed.invariant.made c.in_ok-push_insertion.ensures;
  counted = count_left c.in-Some.listed _ _ _ _ c.loop-listed.invariant.counted c.in-Some.ensures.steps.0 c.in-Some.ensures.steps.1;
}

pub returns : goal.returns
returns c =
    let none : into_iter_items c.loop-listed.listed-iterator ≡ [] = none_left _ (c.loop-listed.invariant.counted ∙ c.in-None.ensures.steps.0) in
    all_gone (insertion c.args.part.now) listed_view (map edit_of c.loop-listed.edits.items) _ _ none c.loop-listed.invariant.made
