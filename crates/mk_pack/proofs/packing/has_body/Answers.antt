use Rattle.mk_pack.proofs.PackLemmas.{body_told}
use Rattle.mk_pack.proofs.packing.has_body.Goals as goal

pub returns : goal.returns
returns c = body_told c.args.text.now _ c.body-2.result c.in_ok-header.ensures c.body-2.ensures
