-- Nodes where one entity is changed.
use Rattle.std.proofs.Common.{◌≡◌, ◌≤◌, ◌<◌, ◌+◌, ◌-◌, ℕ, zero, suc, List, [], ◌∷◌, refl, ap, sym, ◌∙◌, subst, length, map, set, get_or, arith}
use Rattle.std.specs.Vec.{with_item}
use Rattle.std.specs.Global.{Vec}
use Rattle.mk_tree.specs.declared.node.Node.{Node}
use Rattle.mk_tree.specs.declared.node.Node.TheViews.{out-Node, roll-Node}
use Rattle.mk_tree.specs.declared.node.Node.TheFolds.{fold-roll-Node}
use Rattle.mk_tree.specs.Spans.{Span, span, Spans, no_spans, more_spans}
use Rattle.mk_tree.specs.Nodes.{form_of, spans_with, span_step, node_span}
use Rattle.mk_tree.specs.Changed.{LeadsAt, LeadsTo, Resizes, changed_at, resized, respan}
use Rattle.mk_tree.proofs.SectionViews.{opens}

-- nodes as spans one after another
abbrev pub spans_along : List Node → Spans
spans_along nodes = spans_with (map node_span nodes) no_spans

leads_node : (i : ℕ) (P : Span → Type 0) (nodes : List Node) (d : Node) → LeadsAt (suc i) P (spans_along nodes) → (i < length nodes) × P (node_span (get_or nodes i d))
leads_node i P [] d h = absurd h
leads_node zero P (n ∷ ns) d h = (omega arith, h)
leads_node (suc i) P (n ∷ ns) d h = let r = leads_node i P ns d h in (omega (arith, r.0), r.1)

changed_node : (i : ℕ) (f : Span → Span) (nodes : List Node) (d x : Node) → i < length nodes → node_span x ≡ f (node_span (get_or nodes i d)) → spans_along (set nodes i x) ≡ changed_at (suc i) f (spans_along nodes)
changed_node i f [] d x l e = absurd (omega (arith, l))
changed_node zero f (n ∷ ns) d x l e = ap (λ s. more_spans s (spans_along ns)) e
changed_node (suc i) f (n ∷ ns) d x l e = ap (more_spans (node_span n)) (changed_node i f ns d x (omega (arith, l)) e)

-- the part of a number, counted from 1, is there
pub record PartAt (k : ℕ) (P : Span → Type 0) (nodes : List Node) (d : Node) : Type 0 where
  pub counts : 1 ≤ k
  pub within : k - 1 < length nodes
  pub meets : P (node_span (get_or nodes (k - 1) d))

part_at : (k : ℕ) (P : Span → Type 0) (nodes : List Node) (d : Node) → LeadsAt k P (spans_along nodes) → PartAt k P nodes d
part_at zero P [] d h = absurd h
part_at zero P (n ∷ ns) d h = absurd h
part_at (suc i) P nodes d h =
    let r = leads_node i P nodes d h in
    let j : suc i - 1 ≡ i = omega arith in
    record { counts = omega arith; within = omega (arith, r.0); meets = subst (λ m. P (node_span (get_or nodes m d))) (sym j) r.1 }

changed_part : (k : ℕ) (f : Span → Span) (nodes : List Node) (d x : Node) → 1 ≤ k → k - 1 < length nodes → node_span x ≡ f (node_span (get_or nodes (k - 1) d)) → spans_along (set nodes (k - 1) x) ≡ changed_at k f (spans_along nodes)
changed_part zero f nodes d x c l e = absurd (omega (arith, c))
changed_part (suc i) f nodes d x c l e =
    let j : suc i - 1 ≡ i = omega arith in
    ap (λ m. spans_along (set nodes m x)) j ∙ changed_node i f nodes d x (omega (arith, l)) (e ∙ ap (λ m. f (node_span (get_or nodes m d))) j)

pub leads : (k : ℕ) (numbers rest : List ℕ) (count added : ℕ) (P : Span → Type 0) (node d : Node) → numbers ≡ k ∷ rest → LeadsTo numbers count added P (node_span node) → PartAt k (LeadsTo rest count added P) (out-Node node).parts.items d
leads k numbers rest count added P node d e h =
    part_at k (LeadsTo rest count added P) (out-Node node).parts.items d
    (subst (λ s. LeadsTo (k ∷ rest) count added P s) (opens node) (subst (λ ks. LeadsTo ks count added P (node_span node)) e h)).2

-- the node itself loses and gets bytes within what it has
pub resizes : (k : ℕ) (numbers rest : List ℕ) (count added : ℕ) (P : Span → Type 0) (node : Node) → numbers ≡ k ∷ rest → LeadsTo numbers count added P (node_span node) → Resizes count added (node_span node)
resizes k numbers rest count added P node e h =
    let there = subst (λ s. LeadsTo (k ∷ rest) count added P s) (opens node) (subst (λ ks. LeadsTo ks count added P (node_span node)) e h) in
    subst (Resizes count added) (sym (opens node)) (there.0, there.1)

-- a node with other parts
abbrev pub with_parts : Node → Vec Node → Node
with_parts node ps =
    roll-Node (record {
      delimiter = (out-Node node).delimiter;
      fields = (out-Node node).fields;
      separator = (out-Node node).separator;
      size = (out-Node node).size;
      shape = (out-Node node).shape;
      parts = ps;
    })

abbrev pub with_part : Node → ℕ → Node → Node
with_part node i x = with_parts node (with_item (out-Node node).parts i x)

-- a part of a number that is another has other lengths, and all others stay
part_spans : (k : ℕ) (numbers rest : List ℕ) (count added : ℕ) (P : Span → Type 0) (f : Span → Span) (node child changed : Node) → numbers ≡ k ∷ rest → LeadsTo numbers count added P (node_span node)
    → child ≡ get_or (out-Node node).parts.items (k - 1) child → node_span changed ≡ f (node_span child)
    → spans_along (set (out-Node node).parts.items (k - 1) changed) ≡ changed_at k f (spans_along (out-Node node).parts.items)
part_spans k numbers rest count added P f node child changed e h c r =
    let p = leads k numbers rest count added P node child e h in
    changed_part k f (out-Node node).parts.items child changed p.counts p.within (r ∙ ap (λ n. f (node_span n)) c)

pub part_changed : (k : ℕ) (numbers rest : List ℕ) (count added : ℕ) (P : Span → Type 0) (own : Span → Span) (node child changed new : Node) → numbers ≡ k ∷ rest → LeadsTo numbers count added P (node_span node)
    → child ≡ get_or (out-Node node).parts.items (k - 1) child
    → node_span changed ≡ respan rest count added own (node_span child)
    → node_span new ≡ resized count added (node_span (with_part node (k - 1) changed))
    → node_span new ≡ respan numbers count added own (node_span node)
part_changed k numbers rest count added P own node child changed new e h c f r =
    let spans = part_spans k numbers rest count added P (respan rest count added own) node child changed e h c f in
    r
    ∙ (ap (resized count added) (fold-roll-Node Span span_step _)
    ∙ (ap (λ ss. span (out-Node node).delimiter (out-Node node).fields (out-Node node).separator ((out-Node node).size - count + added) (form_of (out-Node node).shape) ss) spans
    ∙ (ap (respan (k ∷ rest) count added own) (sym (opens node)) ∙ ap (λ ks. respan ks count added own (node_span node)) (sym e))))

-- a part that stays leaves all as it was
unchanged_at : (k : ℕ) (ss : Spans) → changed_at k (λ s. s) ss ≡ ss
unchanged_at k no_spans = refl
unchanged_at zero (more_spans s ss) = refl
unchanged_at (suc zero) (more_spans s ss) = refl
unchanged_at (suc (suc k)) (more_spans s ss) = ap (more_spans s) (unchanged_at (suc k) ss)

pub part_stayed : (k : ℕ) (numbers rest : List ℕ) (count added : ℕ) (P : Span → Type 0) (node child changed : Node) → numbers ≡ k ∷ rest → LeadsTo numbers count added P (node_span node)
    → child ≡ get_or (out-Node node).parts.items (k - 1) child → node_span changed ≡ node_span child
    → node_span (with_part node (k - 1) changed) ≡ node_span node
part_stayed k numbers rest count added P node child changed e h c f =
    let spans = part_spans k numbers rest count added P (λ s. s) node child changed e h c f ∙ unchanged_at k (spans_along (out-Node node).parts.items) in
    fold-roll-Node Span span_step _
    ∙ (ap (λ ss. span (out-Node node).delimiter (out-Node node).fields (out-Node node).separator (out-Node node).size (form_of (out-Node node).shape) ss) spans ∙ sym (opens node))
