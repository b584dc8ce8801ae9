use Rattle.std.proofs.Common.{◌≡◌, ◌∙◌, ◌-◌, ◌++◌, [], ap, arith, refl, rules, sym, subst, append-nil, drop, length}
use Rattle.std.specs.List.{flat_map}
use Rattle.mk_tree.specs.Sections.{body_lines, children}
use Rattle.mk_view.specs.Listed.{along, depth, listed_from}
use Rattle.mk_view.specs.Listing.{listing_line}
use Rattle.mk_view.proofs.Depths.{AreLower, are_lower}
use Rattle.mk_view.proofs.Gaps.{all_counted, body_counted, body_few, if_ok, left_begun, left_moved, listed_written, next_one, next_room}
use Rattle.mk_line.proofs.Joined.{on_ok}
use Rattle.mk_view.proofs.Sections.{sections_end, sections_next}
use Rattle.mk_view.proofs.listing.+push_sections.Goals as goal

pub loop-child-init : goal.loop-child-init
loop-child-init t c =
    let p = c.args.section.now in
    let same = c.into_iter-child-iterator.ensures.into_iter_gives ∙ c.children-child-items.ensures in
    record {
      lower = subst (AreLower (depth p.entity)) (sym same) (are_lower p);
      fits = omega arith;
      lines = rw c.new-below.ensures.items (ap (λ ps. flat_map listing_line (along listed_from c.args.path.now 1 ps)) same);
      kept = refl;
      few = body_few p c.body-rest.result.now c.requires c.body-rest.ensures (search rules);
      left = left_begun p c.body-rest.result.now c.body_start-place.result c.into_iter-child-iterator.result c.requires c.body-rest.ensures c.body_start-place.ensures same;
    }

pub split_at-requires : goal.split_at-requires
split_at-requires t c =
    let n = next_one _ _ _ _ c.in-Some.child c.loop-child.child-iterator c.next.new.self c.loop-child.invariant.left c.in-Some.ensures.steps in
    rw c.body_start.ensures n.within

pub overflow_add-count : goal.overflow_add-count
overflow_add-count t c =
    let n = next_one _ _ _ _ c.in-Some.child c.loop-child.child-iterator c.next.new.self c.loop-child.invariant.left c.in-Some.ensures.steps in
    let room = next_room _ _ _ _ c.in-Some.child c.next.new.self n c.body_start.result c.line_count.result (length (body_lines c.in-Some.child.entity)) c.split_at.result.0.now c.body_start.ensures c.split_at.ensures.front c.line_count.ensures refl in
    omega (arith, room, c.loop-child.invariant.few)

pub push_sections-requires : goal.push_sections-requires
push_sections-requires t c =
    let n = next_one _ _ _ _ c.in-Some.child c.loop-child.child-iterator c.next.new.self c.loop-child.invariant.left c.in-Some.ensures.steps in
    (search rules, n.own)

pub overflow_add-count-in-loop-child : goal.overflow_add-count-in-loop-child
overflow_add-count-in-loop-child t c =
    let n = next_one _ _ _ _ c.in-Some.child c.loop-child.child-iterator c.next.new.self c.loop-child.invariant.left c.in-Some.ensures.steps in
    let room = next_room _ _ _ _ c.in-Some.child c.next.new.self n c.body_start.result c.line_count.result c.in_ok-count.field-0 c.split_at.result.0.now c.body_start.ensures c.split_at.ensures.front c.line_count.ensures c.in_ok-count.ensures.count in
    omega (arith, room, c.loop-child.invariant.few)

pub overflow_sub-end : goal.overflow_sub-end
overflow_sub-end t c =
    let n = next_one _ _ _ _ c.in-Some.child c.loop-child.child-iterator c.next.new.self c.loop-child.invariant.left c.in-Some.ensures.steps in
    rw (c.body_start-in-loop-child.ensures, c.end.ensures) n.ordered

pub split_at-requires-in-loop-child : goal.split_at-requires-in-loop-child
split_at-requires-in-loop-child t c =
    let n = next_one _ _ _ _ c.in-Some.child c.loop-child.child-iterator c.next.new.self c.loop-child.invariant.left c.in-Some.ensures.steps in
    rw (c.end.ensures, c.body_start-in-loop-child.ensures, c.split_at.ensures.back, c.body_start.ensures) n.fits

pub overflow_add-count-in_default : goal.overflow_add-count-in_default
overflow_add-count-in_default t c =
    let n = next_one _ _ _ _ c.in-Some.child c.loop-child.child-iterator c.next.new.self c.loop-child.invariant.left c.in-Some.ensures.steps in
    let left = left_moved _ _ _ _ c.in-Some.child c.next.new.self n c.body_start.result c.end.result c.line_count.result c.in_ok-count.field-0 c.end-place.result c.split_at.result.0.now c.split_at.result.1.now c.split_at-in-loop-child.result.1.now
    c.body_start.ensures c.end.ensures c.split_at.ensures.front c.split_at.ensures.back c.line_count.ensures c.in_ok-count.ensures.count
    (c.split_at-in-loop-child.ensures.back ∙ ap (λ m. drop (c.end.result - m) c.split_at.result.1.now) (c.body_start-in-loop-child.ensures ∙ sym c.body_start.ensures)) c.end-place.ensures in
    let all = all_counted c.args.section.now _ _ c.line_count-in_default.result _ c.next.new.self c.requires left c.line_count-in_default.ensures in
    omega (arith, all, body_counted c.args.section.now c.requires, c.loop-child.invariant.few)

pub push_listed-requires : goal.push_listed-requires
push_listed-requires t c =
    let n = next_one _ _ _ _ c.in-Some.child c.loop-child.child-iterator c.next.new.self c.loop-child.invariant.left c.in-Some.ensures.steps in
    let left = left_moved _ _ _ _ c.in-Some.child c.next.new.self n c.body_start.result c.end.result c.line_count.result c.in_ok-count.field-0 c.end-place.result c.split_at.result.0.now c.split_at.result.1.now c.split_at-in-loop-child.result.1.now
    c.body_start.ensures c.end.ensures c.split_at.ensures.front c.split_at.ensures.back c.line_count.ensures c.in_ok-count.ensures.count
    (c.split_at-in-loop-child.ensures.back ∙ ap (λ m. drop (c.end.result - m) c.split_at.result.1.now) (c.body_start-in-loop-child.ensures ∙ sym c.body_start.ensures)) c.end-place.ensures in
    all_counted c.args.section.now _ _ c.line_count-in_default.result _ c.next.new.self c.requires left c.line_count-in_default.ensures

pub returns-in_default-clause-lines : goal.returns-in_default-clause-lines
returns-in_default-clause-lines t c =
    let below =
    sections_end listing_line c.loop-child.below.items c.push_sections.new.lines.items _ c.args.path.now c.deref.result.now c.loop-child.number c.in-Some.child c.next.new.self c.loop-child.child-iterator
    (c.deref.ensures.value ∙ c.in_ok-child_path.ensures) c.in-Some.ensures.steps c.loop-child.invariant.fits (omega (arith, c.in_default.ensures)) c.loop-child.invariant.lines c.in_ok-count.ensures.lines in
    on_ok c.push_listed.result _ _ c.push_listed.ensures.lines (λ h. listed_written c.args.path.now c.args.section.now c.args.lines.now.items _ _ (c.deref-in_default.ensures.value ∙ below) (h ∙ ap (λ x. x ++ (listing_line (record { path = c.args.path.now; section = c.args.section.now }) ++ c.deref-in_default.result.now)) c.loop-child.invariant.kept))

pub returns-in_default-clause-count : goal.returns-in_default-clause-count
returns-in_default-clause-count t c =
    let n = next_one _ _ _ _ c.in-Some.child c.loop-child.child-iterator c.next.new.self c.loop-child.invariant.left c.in-Some.ensures.steps in
    let left = left_moved _ _ _ _ c.in-Some.child c.next.new.self n c.body_start.result c.end.result c.line_count.result c.in_ok-count.field-0 c.end-place.result c.split_at.result.0.now c.split_at.result.1.now c.split_at-in-loop-child.result.1.now
    c.body_start.ensures c.end.ensures c.split_at.ensures.front c.split_at.ensures.back c.line_count.ensures c.in_ok-count.ensures.count
    (c.split_at-in-loop-child.ensures.back ∙ ap (λ m. drop (c.end.result - m) c.split_at.result.1.now) (c.body_start-in-loop-child.ensures ∙ sym c.body_start.ensures)) c.end-place.ensures in
    let all = all_counted c.args.section.now _ _ c.line_count-in_default.result _ c.next.new.self c.requires left c.line_count-in_default.ensures in
    if_ok c.push_listed.result _ _ c.push_listed.ensures.count (all ∙ body_counted c.args.section.now c.requires)

pub loop-child-preserved : goal.loop-child-preserved
loop-child-preserved t c =
    let n = next_one _ _ _ _ c.in-Some.child c.loop-child.child-iterator c.next.new.self c.loop-child.invariant.left c.in-Some.ensures.steps in
    let left = left_moved _ _ _ _ c.in-Some.child c.next.new.self n c.body_start.result c.end.result c.line_count.result c.in_ok-count.field-0 c.end-place.result c.split_at.result.0.now c.split_at.result.1.now c.split_at-in-loop-child.result.1.now
    c.body_start.ensures c.end.ensures c.split_at.ensures.front c.split_at.ensures.back c.line_count.ensures c.in_ok-count.ensures.count
    (c.split_at-in-loop-child.ensures.back ∙ ap (λ m. drop (c.end.result - m) c.split_at.result.1.now) (c.body_start-in-loop-child.ensures ∙ sym c.body_start.ensures)) c.end-place.ensures in
    let lower = subst (AreLower (depth c.args.section.now.entity)) c.in-Some.ensures.steps c.loop-child.invariant.lower in
    record {
      lower = lower.1;
      fits = omega (arith, c.in-Some-checked_add.ensures);
      lines =
          sections_next listing_line c.loop-child.below.items c.push_sections.new.lines.items _ c.args.path.now c.deref.result.now c.loop-child.number c.in-Some-checked_add.next c.in-Some.child c.next.new.self c.loop-child.child-iterator
          (c.deref.ensures.value ∙ c.in_ok-child_path.ensures) c.in-Some.ensures.steps c.loop-child.invariant.fits (omega (arith, c.in-Some-checked_add.ensures)) c.loop-child.invariant.lines c.in_ok-count.ensures.lines;
      kept = c.loop-child.invariant.kept;
      few = c.loop-child.invariant.few;
      left = left;
    }

pub overflow_add-count-2 : goal.overflow_add-count-2
overflow_add-count-2 t c =
    let all = all_counted c.args.section.now _ _ c.line_count-2.result _ c.loop-child.child-iterator c.requires c.loop-child.invariant.left c.line_count-2.ensures in
    omega (arith, all, body_counted c.args.section.now c.requires, c.loop-child.invariant.few)

pub push_listed-requires-2 : goal.push_listed-requires-2
push_listed-requires-2 t c = all_counted c.args.section.now _ _ c.line_count-2.result _ c.loop-child.child-iterator c.requires c.loop-child.invariant.left c.line_count-2.ensures

pub returns-clause-lines : goal.returns-clause-lines
returns-clause-lines t c =
    let none : c.loop-child.child-iterator ≡ [] = search rules in
    let below : c.loop-child.below.items ≡ flat_map listing_line (along listed_from c.args.path.now 1 (children c.args.section.now)) =
    sym (append-nil c.loop-child.below.items) ∙ (ap (λ ps. c.loop-child.below.items ++ flat_map listing_line (along listed_from c.args.path.now c.loop-child.number ps)) (sym none) ∙ c.loop-child.invariant.lines) in
    on_ok c.push_listed-2.result _ _ c.push_listed-2.ensures.lines (λ h. listed_written c.args.path.now c.args.section.now c.args.lines.now.items _ _ (c.deref-2.ensures.value ∙ below) (h ∙ ap (λ x. x ++ (listing_line (record { path = c.args.path.now; section = c.args.section.now }) ++ c.deref-2.result.now)) c.loop-child.invariant.kept))

pub returns-clause-count : goal.returns-clause-count
returns-clause-count t c =
    let all = all_counted c.args.section.now _ _ c.line_count-2.result _ c.loop-child.child-iterator c.requires c.loop-child.invariant.left c.line_count-2.ensures in
    if_ok c.push_listed-2.result _ _ c.push_listed-2.ensures.count (all ∙ body_counted c.args.section.now c.requires)
