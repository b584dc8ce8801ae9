use Rattle.mk_splice.proofs.Prints.{printed_is_read, printed_of_text_is_read}
use Rattle.mk_splice.proofs.laws.printed_journals_are_read.Goals as goal

pub returns : goal.returns
returns c = record { any = printed_is_read; of_text = printed_of_text_is_read }
