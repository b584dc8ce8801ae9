-- A node that is changed itself.
use Rattle.std.proofs.Common.{◌≡◌, ◌≤◌, ◌<◌, ◌+◌, ◌-◌, ℕ, zero, suc, List, [], ◌∷◌, refl, ap, sym, ◌∙◌, subst, length, arith}
use Rattle.std.specs.List.{insert, remove}
use Rattle.std.specs.Global.{Vec}
use Rattle.mk_tree.specs.declared.changing.Own.{Own}
use Rattle.mk_tree.specs.declared.changing.Own.TheVariants as own
use Rattle.mk_tree.specs.declared.node.Node.{Node}
use Rattle.mk_tree.specs.declared.node.Node.TheViews.{out-Node}
use Rattle.mk_tree.specs.declared.node.Node.TheFolds.{fold-roll-Node}
use Rattle.mk_tree.specs.Spans.{Span, span, Spans, more_spans}
use Rattle.mk_tree.specs.Nodes.{form_of, span_step, node_span}
use Rattle.mk_tree.specs.Changed.{FitsOwn, own_changed, resized, with_span, without_span, span_count}
use Rattle.mk_tree.proofs.SectionViews.{opens}
use Rattle.mk_tree.proofs.ChangedNodes.{spans_along, with_parts}

counted : (nodes : List Node) → span_count (spans_along nodes) ≡ length nodes
counted [] = refl
counted (n ∷ ns) = ap suc (counted ns)

inserted : (place : ℕ) (nodes : List Node) (x : Node) → place ≤ length nodes → spans_along (insert nodes place x) ≡ with_span place (node_span x) (spans_along nodes)
inserted zero nodes x h = refl
inserted (suc k) [] x h = absurd (omega (arith, h))
inserted (suc k) (n ∷ ns) x h = ap (more_spans (node_span n)) (inserted k ns x (omega (arith, h)))

removed : (place : ℕ) (nodes : List Node) → spans_along (remove nodes place) ≡ without_span place (spans_along nodes)
removed zero [] = refl
removed (suc k) [] = refl
removed zero (n ∷ ns) = refl
removed (suc k) (n ∷ ns) = ap (more_spans (node_span n)) (removed k ns)

-- the places of parts that come or go
pub part_fits : (place count : ℕ) (node x : Node) (o : Own) → o ≡ own.Part place x → FitsOwn o count (node_span node) → place ≤ length (out-Node node).parts.items
part_fits place count node x o e h =
    let f : place ≤ span_count (spans_along (out-Node node).parts.items) = subst (FitsOwn (own.Part place x) count) (opens node) (subst (λ w. FitsOwn w count (node_span node)) e h) in
    omega (arith, f, counted (out-Node node).parts.items)

pub part_there : (place count : ℕ) (node : Node) (o : Own) → o ≡ own.NoPart place → FitsOwn o count (node_span node) → place < length (out-Node node).parts.items
part_there place count node o e h =
    let f : place < span_count (spans_along (out-Node node).parts.items) = subst (FitsOwn (own.NoPart place) count) (opens node) (subst (λ w. FitsOwn w count (node_span node)) e h) in
    omega (arith, f, counted (out-Node node).parts.items)

-- the lengths that follow
abbrev changed_spans : Node → ℕ → ℕ → Spans → Span
changed_spans node count added ss = span (out-Node node).delimiter (out-Node node).fields (out-Node node).separator ((out-Node node).size - count + added) (form_of (out-Node node).shape) ss

pub part_put : (place count added : ℕ) (node x new : Node) (o : Own) (ps : Vec Node) → o ≡ own.Part place x → FitsOwn o count (node_span node) → ps.items ≡ insert (out-Node node).parts.items place x
    → node_span new ≡ resized count added (node_span (with_parts node ps)) → node_span new ≡ own_changed o count added (node_span node)
part_put place count added node x new o ps e f h r =
    r
    ∙ (ap (resized count added) (fold-roll-Node Span span_step _)
    ∙ (ap (λ ns. changed_spans node count added (spans_along ns)) h
    ∙ (ap (changed_spans node count added) (inserted place (out-Node node).parts.items x (part_fits place count node x o e f))
    ∙ (ap (own_changed (own.Part place x) count added) (sym (opens node)) ∙ ap (λ w. own_changed w count added (node_span node)) (sym e)))))

pub part_gone : (place count added : ℕ) (node new : Node) (o : Own) (ps : Vec Node) → o ≡ own.NoPart place → ps.items ≡ remove (out-Node node).parts.items place
    → node_span new ≡ resized count added (node_span (with_parts node ps)) → node_span new ≡ own_changed o count added (node_span node)
part_gone place count added node new o ps e h r =
    r
    ∙ (ap (resized count added) (fold-roll-Node Span span_step _)
    ∙ (ap (λ ns. changed_spans node count added (spans_along ns)) h
    ∙ (ap (changed_spans node count added) (removed place (out-Node node).parts.items)
    ∙ (ap (own_changed (own.NoPart place) count added) (sym (opens node)) ∙ ap (λ w. own_changed w count added (node_span node)) (sym e)))))
