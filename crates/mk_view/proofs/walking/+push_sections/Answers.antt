use Rattle.std.proofs.Common.{rules, ◌∙◌, arith, map, sym, subst}
use Rattle.mk_tree.specs.Sections.{children}
use Rattle.mk_view.specs.Listed.{depth}
use Rattle.mk_view.specs.ListedViews.{listed_view}
use Rattle.mk_view.proofs.Depths.{AreLower, are_lower}
use Rattle.mk_view.proofs.LeavesAt.{at_below, first_from, from_first, from_next}
use Rattle.mk_view.proofs.Walks.{walk_begins, walk_ends, walk_goes_on}
use Rattle.mk_view.proofs.walking.+push_sections.Goals as goal

pub loop-child-init : goal.loop-child-init
loop-child-init t c =
    let same = c.into_iter-child-iterator.ensures.into_iter_gives ∙ c.children-below.ensures in
    record {
      lower = subst (AreLower (depth c.args.section.entity)) (sym same) (are_lower c.args.section);
      fits = omega arith;
      listed = walk_begins (map listed_view c.args.found.now.items) (map listed_view c.push_section.new.found.items) c.args.path.now c.args.section c.into_iter-child-iterator.result c.in_ok-push_section.ensures.listed same;
      from = from_first (children c.args.section) c.into_iter-child-iterator.result same;
      placed = c.in_ok-push_section.ensures.placed;
    }

pub returns-in_default-clause-listed : goal.returns-in_default-clause-listed
returns-in_default-clause-listed t c =
    walk_ends (map listed_view c.loop-child.found.items) (map listed_view c.push_sections.new.found.items) _ c.args.path.now c.deref.result.now c.loop-child.number c.in-Some.child c.next.new.self c.loop-child.child-iterator
    (c.deref.ensures.value ∙ c.in_ok-child_path.ensures) c.in-Some.ensures.steps c.loop-child.invariant.fits (omega (arith, c.in_default.ensures)) c.loop-child.invariant.listed c.in_ok-push_sections.ensures.listed

pub returns-in_default-clause-placed : goal.returns-in_default-clause-placed
returns-in_default-clause-placed t c = λ d here at_old.
    let child = first_from c.loop-child.number (children c.args.section) c.loop-child.child-iterator c.next.new.self c.in-Some.child c.loop-child.invariant.from c.in-Some.ensures.steps in
    c.in_ok-push_sections.ensures.placed d
    (at_below d c.args.path.now c.deref.result.now c.loop-child.number c.args.section c.in-Some.child (c.deref.ensures.value ∙ c.in_ok-child_path.ensures) here child)
    (c.loop-child.invariant.placed d here at_old)

pub loop-child-preserved : goal.loop-child-preserved
loop-child-preserved t c =
    let child = first_from c.loop-child.number (children c.args.section) c.loop-child.child-iterator c.next.new.self c.in-Some.child c.loop-child.invariant.from c.in-Some.ensures.steps in
    record {
      lower = search rules;
      fits = search rules;
      listed = walk_goes_on (map listed_view c.loop-child.found.items) (map listed_view c.push_sections.new.found.items) _ c.args.path.now c.deref.result.now c.loop-child.number _ c.in-Some.child c.next.new.self c.loop-child.child-iterator
          (c.deref.ensures.value ∙ c.in_ok-child_path.ensures) c.in-Some.ensures.steps c.loop-child.invariant.fits (search rules) c.loop-child.invariant.listed c.in_ok-push_sections.ensures.listed;
      from = from_next c.loop-child.number _ (children c.args.section) c.loop-child.child-iterator c.next.new.self c.in-Some.child c.loop-child.invariant.from c.in-Some.ensures.steps (search rules);
      placed = λ d here at_old.
          c.in_ok-push_sections.ensures.placed d
          (at_below d c.args.path.now c.deref.result.now c.loop-child.number c.args.section c.in-Some.child (c.deref.ensures.value ∙ c.in_ok-child_path.ensures) here child)
          (c.loop-child.invariant.placed d here at_old);
    }
