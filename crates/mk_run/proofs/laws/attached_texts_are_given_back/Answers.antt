use Rattle.mk_run.proofs.Attachments.{texts_given_back}
use Rattle.mk_run.proofs.laws.attached_texts_are_given_back.Goals as goal

pub returns : goal.returns
returns c = texts_given_back
