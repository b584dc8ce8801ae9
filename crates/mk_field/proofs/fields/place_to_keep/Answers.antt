use Rattle.mk_field.specs.FilterViews.{filter_of}
use Rattle.mk_field.proofs.RoundLemmas.{place_kept}
use Rattle.mk_field.proofs.fields.place_to_keep.Goals as goal

pub returns-then-not-always_fits : goal.returns-then-not-always_fits
returns-then-not-always_fits c =
    place_kept (filter_of c.args.filter.now) c.args.each c.always_fits.result c.of.result c.args.message.now c.if-each.true c.always_fits.ensures c.if-not-always_fits.true c.of.ensures.from_lines c.of.ensures.begins c.of.ensures.ends
