use Rattle.std.proofs.lemmas.Iterator.Consumers.{YieldsList-from_first, count_from_yields_List}
use Rattle.mk_head.specs.Views.{field_view}
use Rattle.mk_tree.specs.Sections.{section_fields}
use Rattle.mk_tree.proofs.section.Section.fields.Goals as goal

pub returns : goal.returns
returns c = count_from_yields_List c.each_field.result c.count.result c.count.ensures.ran (YieldsList-from_first field_view (λ s. s) (section_fields c.args.self.now) c.each_field.ensures.fields)
