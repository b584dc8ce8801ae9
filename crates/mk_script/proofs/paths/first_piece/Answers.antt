use Rattle.std.proofs.Common.{sym}
use Rattle.mk_script.proofs.PathLemmas.{pieces_of-parted, pieces_of-whole}
use Rattle.mk_script.proofs.paths.first_piece.Goals as goal

pub returns-in-Some-clause-pieces : goal.returns-in-Some-clause-pieces
returns-in-Some-clause-pieces c = pieces_of-parted c.args.separator c.args.text.now _ (sym c.in-Some.ensures.parts)

pub returns-in-None-clause-pieces : goal.returns-in-None-clause-pieces
returns-in-None-clause-pieces c = pieces_of-whole c.args.separator c.args.text.now (sym c.in-None.ensures.parts)
