use Rattle.std.proofs.Common.{◌∙◌, ap, sym, length, arith}
use Rattle.mk_decide.proofs.Gaps.{gap_inside}
use Rattle.mk_decide.proofs.SiteLines.{section_within}
use Rattle.mk_decide.proofs.part_edits.insert_between.Goals as goal

pub opens_early-requires : goal.opens_early-requires
opens_early-requires c = omega (arith, gap_inside c.args.place c.in-Some.place c.args.section.now (sym c.gap.ensures ∙ c.in-Some.is), section_within c.args.doc.now c.args.path.now c.args.section.now c.requires, ap length c.text.ensures)
