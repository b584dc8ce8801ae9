use Rattle.std.proofs.Common.{◌+◌, ◌∙◌, ap, drop, length, subst, sym, take}
use Rattle.mk_tree.specs.Sections.{head_text}
use Rattle.mk_edit.specs.declared.passing.Known.{Known}
use Rattle.mk_edit.specs.RootFields.{lines_in, root_in}
use Rattle.mk_edit.specs.inner.FieldNames.{BeginsField, IsKnown}
use Rattle.mk_edit.specs.inner.Gaps.{without_gap}
use Rattle.mk_edit.proofs.root_fields.RootFields.learn.Goals as goal

pub invariant_of-self-2 : goal.invariant_of-self-2
invariant_of-self-2 c =
    let known = c.self.inside.known in
    let lines = lines_in (without_gap c.self.inside.text) in
    let head = head_text (root_in (without_gap c.self.inside.text)) in
    let here = c.next_fields-fields.result.now in
    let same = c.replace.ensures.value in
    record {
      fields = c.self.invariant.fields;
      passed = c.self.invariant.passed;
      names =
          c.learned.ensures head (c.next_fields-fields.ensures.part ∙ ap (λ (k : Known). take (length here) (drop k.bytes head)) (sym same))
          (subst (λ (k : Known). BeginsField lines (k.bytes + length here)) (sym same) c.next_fields-fields.ensures.place) (subst (λ (k : Known). IsKnown lines k.bytes k.marks) (sym same) c.self.invariant.names);
      gap = c.self.invariant.gap;
    }
