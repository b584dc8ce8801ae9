use Rattle.mk_reply.proofs.HeaderRead.{replies_read}
use Rattle.mk_reply.proofs.laws.replies_are_headers.Goals as goal

pub returns : goal.returns
returns c = replies_read
