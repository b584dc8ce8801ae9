use Rattle.mk_tree.proofs.SectionViews.{root_fields}
use Rattle.mk_tree.proofs.doc.after_envelope.Goals as goal

pub returns : goal.returns
returns c = root_fields c.args.text.now c.skip_envelope.result.now c.skip_envelope.ensures.message
