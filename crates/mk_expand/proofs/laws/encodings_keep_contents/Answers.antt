use Rattle.mk_expand.proofs.EncodingsKept.{encodings_kept}
use Rattle.mk_expand.proofs.laws.encodings_keep_contents.Goals as goal

pub returns : goal.returns
returns c = encodings_kept
