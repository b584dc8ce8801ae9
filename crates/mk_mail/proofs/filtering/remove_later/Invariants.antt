use Rattle.mk_mail.specs.LetterWork.{plain_edits, texts_of}
use Rattle.mk_mail.proofs.FieldNames.{LaterGone}
use Rattle.mk_mail.proofs.filtering.remove_later.Given as goal

abbrev pub invariant-loop-own : goal.invariant-loop-own
invariant-loop-own l = LaterGone l.path l.name l.k l.is_there (texts_of l.list.items) (texts_of l.yielded) (plain_edits l.fn.edits.items) (plain_edits l.edits.items)
