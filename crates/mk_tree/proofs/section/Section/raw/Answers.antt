use Rattle.std.proofs.Common.{ap, ◌∙◌}
use Rattle.mk_tree.specs.Sections.{raw_of}
use Rattle.mk_tree.proofs.SectionViews.{raw_is}
use Rattle.mk_tree.proofs.section.Section.raw.Goals as goal

pub returns : goal.returns
returns c = raw_is c.self.inside.raw.now c.self.inside.left c.self.inside.digest ∙ ap raw_of c.self.view_is
