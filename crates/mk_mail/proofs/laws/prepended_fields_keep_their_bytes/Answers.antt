use Rattle.mk_mail.proofs.PutIn.{put_in}
use Rattle.mk_mail.proofs.laws.prepended_fields_keep_their_bytes.Goals as goal

pub returns : goal.returns
returns c = put_in
