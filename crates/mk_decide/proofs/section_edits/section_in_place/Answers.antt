use Rattle.std.proofs.Common.{length, arith, ap}
use Rattle.mk_decide.proofs.SiteLines.{section_within}
use Rattle.mk_decide.proofs.section_edits.section_in_place.Goals as goal

pub opens_early-requires : goal.opens_early-requires
opens_early-requires c = omega (arith, section_within c.args.doc.now c.args.path.now c.args.section.now c.requires, ap length c.text.ensures, ap length c.raw-count.ensures, c.start-place.ensures)
