use Rattle.std.proofs.Common.{sym, subst}
use Rattle.mk_line.specs.Lines.{AreLines}
use Rattle.mk_tree.specs.Sections.{body_lines}
use Rattle.mk_view.proofs.Gaps.{root_lines}
use Rattle.mk_view.proofs.listing.list.Goals as goal

pub push_sections-requires : goal.push_sections-requires
push_sections-requires c = subst (λ p. AreLines (body_lines p.entity)) (sym c.root.ensures) (root_lines c.args.doc.now)
