use Rattle.std.proofs.Common.{◌≡◌, ◌||◌, ◌+◌, ℕ, Bool, List, ap, sym, subst, ◌∙◌, arith, true, false, length, map, drop}
use Rattle.mk_tree.specs.Nodes.{form_of, node_span}
use Rattle.mk_tree.specs.declared.node.Node.{Node}
use Rattle.mk_tree.specs.Layouts.{placed_over, placed_along, AreSpansOver}
use Rattle.mk_tree.specs.Forms.{form_closed}
use Rattle.mk_tree.specs.Sections.{children}
use Rattle.mk_tree.specs.declared.node.Node.TheViews.{out-Node}
use Rattle.mk_tree.proofs.SectionViews.{section_keeps, front_fits}
use Rattle.mk_tree.proofs.Below.{IsBelow, node_front, front_fits_in, node_below}
use Rattle.mk_tree.proofs.section.Section.children.Goals.{then-is_closed, else-is_closed}
use Rattle.mk_tree.proofs.section.Section.children.Goals as goal

pub overflow_add-front : goal.overflow_add-front
overflow_add-front c =
    let k = section_keeps c.self.inside.node.now c.self.inside.raw.now c.self.inside.start c.self.inside.digest c.self.inside.left c.self.invariant in
    omega (arith, front_fits c.self.inside.raw.now c.self.inside.left c.self.inside.digest _ _ k.fields k.separator, c.self.invariant.fits)

pub overflow_add-front-2 : goal.overflow_add-front-2
overflow_add-front-2 c =
    let k = section_keeps c.self.inside.node.now c.self.inside.raw.now c.self.inside.start c.self.inside.digest c.self.inside.left c.self.invariant in
    omega (arith, node_front c.self.inside.node.now c.self.inside.raw.now c.self.inside.digest c.self.inside.left c.preamble.result k c.preamble.ensures, front_fits_in c.self.inside.raw.now c.self.inside.left c.self.inside.digest, c.self.invariant.fits)

pub split_at-requires : goal.split_at-requires
split_at-requires c =
    let k = section_keeps c.self.inside.node.now c.self.inside.raw.now c.self.inside.start c.self.inside.digest c.self.inside.left c.self.invariant in
    omega (arith, node_front c.self.inside.node.now c.self.inside.raw.now c.self.inside.digest c.self.inside.left c.preamble.result k c.preamble.ensures, front_fits_in c.self.inside.raw.now c.self.inside.left c.self.inside.digest)

closed_or : (closed followed r t : Bool) → t ≡ closed → t ≡ true → r ≡ t → r ≡ (closed || followed)
closed_or closed followed r t e h q = q ∙ (h ∙ ap (λ b. b || followed) (sym h ∙ e))

open_or : (closed followed r t : Bool) → t ≡ closed → t ≡ false → r ≡ followed → r ≡ (closed || followed)
open_or closed followed r t e h q = q ∙ ap (λ b. b || followed) (sym h ∙ e)

is_below : (c : goal.After-saturating_sub) → IsBelow (map node_span (out-Node c.self.inside.node.now).parts.items) (drop ((out-Node c.self.inside.node.now).fields + (out-Node c.self.inside.node.now).separator + c.preamble.result) c.self.inside.raw.now)
    (c.self.inside.start + ((out-Node c.self.inside.node.now).fields + (out-Node c.self.inside.node.now).separator + c.preamble.result)) c.if-is_closed.result c.is_digest.result c.saturating_sub.result
    (children (placed_over c.self.inside.raw.now c.self.inside.start c.self.inside.followed c.self.inside.digest c.self.inside.left))
is_below c =
    let k = section_keeps c.self.inside.node.now c.self.inside.raw.now c.self.inside.start c.self.inside.digest c.self.inside.left c.self.invariant in
    let f = node_front c.self.inside.node.now c.self.inside.raw.now c.self.inside.digest c.self.inside.left c.preamble.result k c.preamble.ensures in
    let e : c.if-is_closed.result ≡ (form_closed (form_of (out-Node c.self.inside.node.now).shape) || c.self.inside.followed) =
    elim c.if-is_closed.branch [
      | then-is_closed w ↦ closed_or _ _ _ _ c.is_closed.ensures w.if-is_closed.true w.result-is
      | else-is_closed w ↦ open_or _ _ _ _ c.is_closed.ensures w.if-is_closed.false w.result-is
    ] in
    node_below c.self.inside.node.now c.self.inside.raw.now c.self.inside.start c.self.inside.followed c.self.inside.digest c.self.inside.left _ c.if-is_closed.result c.is_digest.result c.saturating_sub.result k f e c.is_digest.ensures c.saturating_sub.ensures

pub invariant_of-result : goal.invariant_of-result
invariant_of-result c = record {
  lengths =
      subst (λ (t : List Node × List ℕ). AreSpansOver (map node_span t.0) t.1 c.is_digest.result c.saturating_sub.result) (λ i. (sym c.deref.ensures.value i, sym c.split_at.ensures.back i)) (is_below c).over;
  fits = omega (arith, c.self.invariant.fits, ap length c.split_at.ensures.back, c.split_at.ensures.back_len);
}

pub returns : goal.returns
returns c =
    (λ i. placed_along (map node_span (c.deref.ensures.value i)) (c.split_at.ensures.back i) (c.self.inside.start + ((out-Node c.self.inside.node.now).fields + (out-Node c.self.inside.node.now).separator + c.preamble.result)) c.if-is_closed.result c.is_digest.result c.saturating_sub.result)
    ∙ ((is_below c).placed ∙ ap children c.self.view_is)
