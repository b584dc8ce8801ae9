use Rattle.std.proofs.Common.{rules, ◌≡◌, ◌++◌, List, [], Result, Ok, Err, map, ap, sym, subst, ◌∙◌, IfOk}
use Rattle.std.specs.List.{flat_map}
use Rattle.std.specs.Vec.Iter.{into_iter_items}
use Rattle.mk_tree.specs.Documents.{Document, tree}
use Rattle.mk_view.specs.Listed.{listed}
use Rattle.mk_view.specs.FileNames.{Named}
use Rattle.mk_view.specs.TextNames.{stored_in}
use Rattle.mk_view.specs.GivenNames.{AreGiven, AreDistinct, AreSafe}
use Rattle.mk_view.specs.LeafViews.{AreAt, leaf_view}
use Rattle.mk_view.specs.ListedViews.{AreListedAt, listed_view}
use Rattle.mk_view.proofs.SafeNames.{names_well}
use Rattle.mk_view.proofs.Walks.{all_made, count_left, more_made, none_left}
use Rattle.mk_view.proofs.storing.leaves_in.Goals as goal

follows : {T E : Type 0} (P Q : T → Type 0) → ((value : T) → P value → Q value) → (r : Result T E) → IfOk r P → IfOk r Q
follows P Q f (Ok value) h = f value h
follows P Q f (Err error) h = tt

pub loop-listed-init : goal.loop-listed-init
loop-listed-init c =
    let t = tree c.args.doc.now in
    let gives : into_iter_items c.into_iter-listed-iterator.result ≡ c.in_ok-listed-items.listed-items.items = search rules in
    record {
      stored =
          (λ i. map leaf_view (c.new-list.ensures.items i) ++ flat_map (stored_in c.args.storing) (map listed_view (gives i)))
          ∙ ap (flat_map (stored_in c.args.storing)) c.in_ok-listed-items.ensures.all;
      placed = subst (AreAt t) (sym c.new-list.ensures.items) tt;
      counted = search rules;
      rest = subst (AreListedAt t) (sym gives) c.in_ok-listed-items.ensures.placed;
    }

pub loop-listed-preserved : goal.loop-listed-preserved
loop-listed-preserved c =
    let t = tree c.args.doc.now in
    let at = subst (AreListedAt t) c.in-Some.ensures.steps.0 c.loop-listed.invariant.rest in
    record {
      stored = more_made (stored_in c.args.storing) (map leaf_view c.loop-listed.list.items) _ c.in-Some.listed _ _ _ c.in-Some.ensures.steps.0 c.loop-listed.invariant.stored c.in_ok-push_own.ensures.stored;
      placed = c.in_ok-push_own.ensures.placed t at.0 c.loop-listed.invariant.placed;
      counted = count_left c.in-Some.listed _ _ _ _ c.loop-listed.invariant.counted c.in-Some.ensures.steps.0 c.in-Some.ensures.steps.1;
      rest = at.1;
    }

-- the names that are told apart are those of all leaves
made : (c : goal.After-give_all) → map leaf_view c.loop-listed.list.items ≡ flat_map (stored_in c.args.storing) (listed (tree c.args.doc.now))
made c =
    let none : into_iter_items c.loop-listed.listed-iterator ≡ [] = none_left _ (c.loop-listed.invariant.counted ∙ c.in-None.ensures.steps.0) in
    all_made (stored_in c.args.storing) (map leaf_view c.loop-listed.list.items) _ _ none c.loop-listed.invariant.stored

pub returns-clause-given : goal.returns-clause-given
returns-clause-given c =
    follows (λ leaves. AreGiven [] (map leaf_view c.loop-listed.list.items) (map leaf_view leaves.items)) _
    (λ leaves h. subst (λ os. AreGiven [] os (map leaf_view leaves.items)) (made c) h) c.give_all.result c.give_all.ensures.given

well : (c : goal.After-give_all) (gs : List Named) → AreGiven [] (map leaf_view c.loop-listed.list.items) gs → AreSafe gs × AreDistinct [] gs
well c gs h = names_well c.args.storing (listed (tree c.args.doc.now)) gs (subst (λ os. AreGiven [] os gs) (made c) h)

pub returns-clause-distinct : goal.returns-clause-distinct
returns-clause-distinct c =
    follows (λ leaves. AreGiven [] (map leaf_view c.loop-listed.list.items) (map leaf_view leaves.items)) (λ leaves. AreDistinct [] (map leaf_view leaves.items))
    (λ leaves h. (well c (map leaf_view leaves.items) h).1) c.give_all.result c.give_all.ensures.given

pub returns-clause-safe : goal.returns-clause-safe
returns-clause-safe c =
    follows (λ leaves. AreGiven [] (map leaf_view c.loop-listed.list.items) (map leaf_view leaves.items)) (λ leaves. AreSafe (map leaf_view leaves.items))
    (λ leaves h. (well c (map leaf_view leaves.items) h).0) c.give_all.result c.give_all.ensures.given

pub returns-clause-placed : goal.returns-clause-placed
returns-clause-placed c =
    follows (λ leaves. (t : Document) → AreAt t c.loop-listed.list.items → AreAt t leaves.items) (λ leaves. AreAt (tree c.args.doc.now) leaves.items)
    (λ leaves h. h (tree c.args.doc.now) c.loop-listed.invariant.placed) c.give_all.result c.give_all.ensures.placed
