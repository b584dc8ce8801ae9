use Rattle.mk_head.proofs.FieldRuns.{few_fields}
use Rattle.mk_head.proofs.listing.each_field.Goals as goal

pub returns-clause-few : goal.returns-clause-few
returns-clause-few c = few_fields c.args.text.now
