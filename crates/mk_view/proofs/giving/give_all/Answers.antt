use Rattle.std.proofs.Common.{◌≡◌, rules, refl, sym, subst}
use Rattle.std.specs.Vec.Iter.{into_iter_items}
use Rattle.mk_view.specs.LeafViews.{AreAt}
use Rattle.mk_view.specs.inner.Taken.{number_at}
use Rattle.mk_view.proofs.InTurn.{known_more, told_more}
use Rattle.mk_view.proofs.LeavesAt.{at_named}
use Rattle.mk_view.proofs.giving.give_all.Goals as goal

pub loop-leaf-init : goal.loop-leaf-init
loop-leaf-init c =
    let items : into_iter_items c.into_iter-leaf-iterator.result ≡ c.args.list.items = search rules in
    record {
      knows = search rules;
      given = search rules;
      placed = λ t h. (subst (AreAt t) (sym items) h, subst (AreAt t) (sym c.new-leaves.ensures.items) tt);
    }

pub loop-leaf-preserved : goal.loop-leaf-preserved
loop-leaf-preserved c =
    let now = c.in_ok-name.ensures _ c.loop-leaf.invariant.knows in
    record {
      knows = known_more (number_at c.give.new.taken) c.loop-leaf.leaves.items c.push.new.self.items _ c.in_ok-push.ensures.items now.1;
      given = told_more c.loop-leaf.yielded c.loop-leaf.leaves.items c.push.new.self.items c.in-Some.leaf _ c.in_ok-push.ensures.items refl c.loop-leaf.invariant.given now.0;
      placed = λ t h.
          let before = c.loop-leaf.invariant.placed t h in
          let first = subst (AreAt t) c.in-Some.ensures.steps.0 before.0 in
          (first.1, at_named t c.loop-leaf.leaves.items c.push.new.self.items c.in-Some.leaf _ c.in_ok-push.ensures.items refl refl before.1 first.0);
    }

pub returns-clause-placed : goal.returns-clause-placed
returns-clause-placed c = λ t h. (c.loop-leaf.invariant.placed t h).1
