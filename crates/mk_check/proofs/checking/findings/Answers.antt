use Rattle.std.proofs.Common.{rules, ◌≡◌, ◌∙◌, ◌++◌, [], ap, map, subst, sym, refl}
use Rattle.std.proofs.lemmas.List.{append-nil}
use Rattle.std.specs.List.{flat_map}
use Rattle.std.specs.Vec.Iter.{into_iter_items}
use Rattle.mk_tree.specs.Documents.{tree}
use Rattle.mk_view.specs.Listed.{listed}
use Rattle.mk_view.specs.ListedViews.{listed_view}
use Rattle.mk_view.proofs.Walks.{count_left, none_left}
use Rattle.mk_check.specs.FindingLines.{AreFindingLines, finding_line}
use Rattle.mk_check.proofs.InTurn.{GoesOnto, one_more}
use Rattle.mk_check.proofs.checking.findings.Goals as goal

pub loop-listed-init : goal.loop-listed-init
loop-listed-init c =
    let gives : into_iter_items c.into_iter-listed-iterator.result ≡ c.in_ok-listed-items.listed-items.items = search rules in
    let all : map listed_view (into_iter_items c.into_iter-listed-iterator.result) ≡ listed (tree c.args.doc.now) = ap (map listed_view) gives ∙ c.in_ok-listed-items.ensures.all in
    record {
      lines = λ rest lines.
          subst (λ text. AreFindingLines c.args.form (listed (tree c.args.doc.now)) text) (ap (λ t. t ++ rest) (sym c.new-text.ensures.items))
          (subst (λ ls. AreFindingLines c.args.form ls rest) all lines);
      counted = search rules;
    }

pub loop-listed-preserved : goal.loop-listed-preserved
loop-listed-preserved c =
    let pushed = c.in_ok-push_faults.ensures in
    record {
      lines = one_more c.args.form (listed (tree c.args.doc.now)) (listed_view c.in-Some.listed) _ c.loop-listed.text.items _ pushed.0
          (subst (λ ls. GoesOnto c.args.form (listed (tree c.args.doc.now)) ls c.loop-listed.text.items) (ap (map listed_view) c.in-Some.ensures.steps.0) c.loop-listed.invariant.lines)
          pushed.1 (pushed.2 ∙ ap (λ path. c.loop-listed.text.items ++ flat_map (finding_line c.args.form path) pushed.0) c.deref.ensures.value);
      counted = count_left c.in-Some.listed _ _ _ _ c.loop-listed.invariant.counted c.in-Some.ensures.steps.0 c.in-Some.ensures.steps.1;
    }

pub returns : goal.returns
returns c =
    let none : into_iter_items c.loop-listed.listed-iterator ≡ [] = none_left _ (c.loop-listed.invariant.counted ∙ c.in-None.ensures.steps.0) in
    let lines = subst (λ ls. GoesOnto c.args.form (listed (tree c.args.doc.now)) ls c.loop-listed.text.items) (ap (map listed_view) none) c.loop-listed.invariant.lines in
    subst (AreFindingLines c.args.form (listed (tree c.args.doc.now))) (append-nil c.loop-listed.text.items) (lines [] refl)
