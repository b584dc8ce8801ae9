use Rattle.std.proofs.Common.{ap, refl, sym, ◌∙◌, ◌-◌, length, subst, map, arith}
use Rattle.mk_line.specs.Lines.{cut as lines_of}
use Rattle.mk_tree.specs.declared.node.Node.TheFolds.{fold-roll-Node}
use Rattle.mk_tree.specs.Spans.{Span, no_spans}
use Rattle.mk_tree.specs.Nodes.{form_of, node_span, span_step, spans_with}
use Rattle.mk_tree.proofs.EntityRead.{entity_kept, entity_rest}
use Rattle.mk_tree.specs.Steps.{boundaries_of}
use Rattle.mk_tree.proofs.PartsRead.{PartsRead, parts_begin, parts_next, parts_end, shorter_beyond}
use Rattle.mk_tree.proofs.reading.+reading.Goals as goal

pub read_entity-overflow_sub-size : goal.read_entity-overflow_sub-size
read_entity-overflow_sub-size t c =
    shorter_beyond (boundaries_of c.args.opened.now) c.args.text.now c.in_ok-shape.rest.now
    (entity_rest (boundaries_of c.args.opened.now) c.args.text.now c.skip_fields-after_fields.result.now c.skip_separator-body.result.now c.in_ok-shape.rest.now c.skip_fields-after_fields.ensures.rest c.skip_separator-body.ensures.body c.in_ok-shape.ensures.rest)

pub read_entity-returns-clause-node : goal.read_entity-returns-clause-node
read_entity-returns-clause-node t c =
    fold-roll-Node Span span_step _
    ∙ entity_kept c.args.left c.args.digest (boundaries_of c.args.opened.now) c.args.delimiter c.args.text.now c.skip_fields-after_fields.result.now c.skip_separator-body.result.now c.in_ok-shape.rest.now (form_of c.in_ok-shape.shape) (spans_with (map node_span c.in_ok-shape.parts.items) no_spans)
    c.skip_fields-after_fields.ensures.fields c.skip_fields-after_fields.ensures.rest c.skip_separator-body.ensures.separator c.skip_separator-body.ensures.body c.in_ok-shape.ensures.body c.in_ok-shape.ensures.rest

pub read_entity-returns-clause-rest : goal.read_entity-returns-clause-rest
read_entity-returns-clause-rest t c =
    entity_rest (boundaries_of c.args.opened.now) c.args.text.now c.skip_fields-after_fields.result.now c.skip_separator-body.result.now c.in_ok-shape.rest.now c.skip_fields-after_fields.ensures.rest c.skip_separator-body.ensures.body c.in_ok-shape.ensures.rest

pub read_parts-each-init : goal.read_parts-each-init
read_parts-each-init t c = record {
  inside = c.in_ok-inside.ensures;
  parts =
      subst (λ xs. PartsRead c.args.left c.args.digest (boundaries_of c.args.opened.now) c.args.boundary.now (lines_of c.args.body.now) (length c.args.body.now - length c.skip_unmarked-rest.result.now) (map node_span xs) (lines_of c.skip_unmarked-rest.result.now))
      (sym c.new-parts.ensures.items)
      (parts_begin c.args.left c.args.digest (boundaries_of c.args.opened.now) _ c.args.boundary.now c.args.body.now c.skip_unmarked-rest.result.now
      (ap boundaries_of c.deref.ensures.value ∙ c.in_ok-inside.ensures) c.skip_unmarked-rest.ensures.front c.skip_unmarked-rest.ensures.rest);
}

pub read_parts-each-smaller : goal.read_parts-each-smaller
read_parts-each-smaller t c = omega (arith, shorter_beyond _ c.in-Some.start.now c.in_ok-part.next.now c.in_ok-part.ensures.rest, c.in-Some.ensures.less)

pub read_parts-each-preserved : goal.read_parts-each-preserved
read_parts-each-preserved t c = record {
  inside = c.in_ok-inside.ensures;
  parts =
      parts_next c.args.left c.args.digest (boundaries_of c.args.opened.now) _ c.args.boundary.now (lines_of c.args.body.now) _ c.each.parts.items c.push.new.self.items c.in_ok-part.part _ c.each.rest.now c.in-Some.start.now c.in_ok-part.next.now
      (ap boundaries_of c.deref-in-Some.ensures.value ∙ c.in_ok-inside.ensures)
      c.each.invariant.parts c.in-Some.ensures.begins c.in-Some.ensures.rest c.in-Some.ensures.delimiter refl c.in_ok-part.ensures.node c.in_ok-part.ensures.rest c.in_ok-push.ensures.items;
}

pub read_parts-returns : goal.read_parts-returns
read_parts-returns t c = parts_end c.args.left c.args.digest (boundaries_of c.args.opened.now) c.args.boundary.now (lines_of c.args.body.now) _ (map node_span c.each.parts.items) (lines_of c.each.rest.now) c.each.invariant.parts c.in_default.ensures.none
