use Rattle.std.proofs.Common.{◌∙◌}
use Rattle.mk_edit.proofs.GapFields.{gap_first}
use Rattle.mk_edit.proofs.root_fields.RootFields.of.Goals as goal

pub invariant_of-result : goal.invariant_of-result
invariant_of-result c =
    gap_first c.args.doc c.new.result c.in-Some.start c.in-Some.size c.none.result.name.items c.none.result.bytes c.none.result.fields c.none-in-Some.result.bytes c.none-in-Some.result.marks c.new.ensures.front (c.new.ensures.rest ∙ c.into_text.ensures) c.in-Some.ensures c.none.ensures.1.0 c.none.ensures.1.1 c.none-in-Some.ensures.0 c.none-in-Some.ensures.1
