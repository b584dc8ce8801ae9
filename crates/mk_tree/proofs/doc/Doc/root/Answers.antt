use Rattle.std.proofs.Common.{◌≡◌, ap, ◌∙◌, arith, false, drop, length}
use Rattle.mk_line.specs.Lines.{cut}
use Rattle.mk_tree.specs.Tree.{read}
use Rattle.mk_tree.specs.Documents.{tree}
use Rattle.mk_tree.specs.Nodes.{node_span}
use Rattle.mk_tree.specs.Sections.{Placed, root_of}
use Rattle.mk_tree.proofs.Roots.{envelope_within, root_read, root_over}
use Rattle.mk_tree.proofs.doc.Doc.root.Goals as goal

pub split_at-requires : goal.split_at-requires
split_at-requires c = omega (arith, envelope_within c.self.inside.text.bytes c.self.inside.envelope c.self.invariant.front, ap length c.bytes.ensures)

pub invariant_of-result : goal.invariant_of-result
invariant_of-result c = record {
  lengths =
      root_over c.self.inside.text.bytes c.split_at.result.1.now c.self.inside.envelope (node_span c.self.inside.root) c.self.invariant.lengths c.self.invariant.front (c.split_at.ensures.back ∙ ap (drop c.self.inside.envelope) c.bytes.ensures);
  fits = omega (arith, c.split_at.ensures.back_len);
}

pub returns : goal.returns
returns c =
    let e = root_read c.self.inside.text.bytes c.split_at.result.1.now c.self.inside.envelope c.self.invariant.front (c.split_at.ensures.back ∙ ap (drop c.self.inside.envelope) c.bytes.ensures) in
    let p : ◌≡◌ {A = Placed} (record { start = c.self.inside.envelope; followed = false; digest = false; entity = read 100 false (cut c.split_at.result.1.now) }) (root_of (tree c.self.inside.text.bytes)) =
    λ i. record { start = c.self.invariant.front i; followed = false; digest = false; entity = e i } in
    p ∙ ap (λ t. root_of (tree t)) c.self.view_is
