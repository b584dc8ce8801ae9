use Rattle.std.proofs.Common.{sym, ap, ◌∙◌, arith}
use Rattle.mk_tree.specs.Spans.{size}
use Rattle.mk_tree.specs.Steps.{boundaries_of}
use Rattle.mk_tree.proofs.FieldsMarked.{rest_passed, size_passed, unnamed}
use Rattle.mk_tree.proofs.marking.skip_fields.Goals as goal

pub each-preserved : goal.each-preserved
each-preserved c =
    let bs = boundaries_of c.args.opened.now in
    let unmarked = sym c.begins_marked.ensures ∙ c.if-begins_marked.false in
    let passed = size_passed bs c.each.rest.now c.in-Some.following.now c.in-Some.ensures.begins unmarked in
    record {
      size = omega (arith, c.each.invariant.size, passed);
      rest = c.each.invariant.rest ∙ rest_passed bs c.each.rest.now c.in-Some.following.now c.in-Some.ensures.begins unmarked;
    }

pub returns-in_default-clause-fields : goal.returns-in_default-clause-fields
returns-in_default-clause-fields c = omega (arith, c.each.invariant.size, ap size (unnamed (boundaries_of c.args.opened.now) c.each.rest.now c.in_default.ensures.none).0)

pub returns-in_default-clause-rest : goal.returns-in_default-clause-rest
returns-in_default-clause-rest c = c.each.invariant.rest ∙ (unnamed (boundaries_of c.args.opened.now) c.each.rest.now c.in_default.ensures.none).1
