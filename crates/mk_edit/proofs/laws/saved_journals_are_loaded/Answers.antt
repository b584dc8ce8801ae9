use Rattle.mk_edit.proofs.SavedJournals.{saved_is_loaded}
use Rattle.mk_edit.proofs.laws.saved_journals_are_loaded.Goals as goal

pub returns : goal.returns
returns c = saved_is_loaded
