use Rattle.mk_run.proofs.Attachments.{files_given_back}
use Rattle.mk_run.proofs.laws.attached_files_are_given_back.Goals as goal

pub returns : goal.returns
returns c = files_given_back
