use Rattle.std.proofs.Common.{◌∙◌}
use Rattle.mk_edit.proofs.GapFields.{gap_first}
use Rattle.mk_edit.proofs.root_fields.RootFields.copy_of.Goals as goal

pub invariant_of-result : goal.invariant_of-result
invariant_of-result c =
    gap_first c.args.doc.now c.new.result c.in-Some.start c.in-Some.size c.none.result.name.items c.none.result.bytes c.none.result.fields c.none-in-Some.result.bytes c.none-in-Some.result.marks c.new.ensures.front (c.new.ensures.rest ∙ (c.in_ok-from_slice-in-Some.ensures.items ∙ c.text.ensures)) c.in-Some.ensures c.none.ensures.1.0 c.none.ensures.1.1 c.none-in-Some.ensures.0 c.none-in-Some.ensures.1
