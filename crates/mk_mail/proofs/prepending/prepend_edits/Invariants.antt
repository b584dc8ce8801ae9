use Rattle.std.proofs.Common.{◌≡◌, ◌++◌, Some}
use Rattle.mk_mail.specs.LetterViews.{prepend_of}
use Rattle.mk_mail.specs.LetterWork.{plain_edits}
use Rattle.mk_mail.specs.Letters.{fields_at, prepending}
use Rattle.mk_mail.proofs.prepending.prepend_edits.Given as goal

abbrev pub invariant-loop-field : goal.invariant-loop-field
invariant-loop-field l =
    plain_edits l.edits.items ++ prepending l.path l.eol (prepend_of l.prepend) l.next l.field-iterator ≡ prepending l.path l.eol (prepend_of l.prepend) (Some 1) (fields_at l.path l.fn.doc)
