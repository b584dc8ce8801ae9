use Rattle.std.proofs.Common.{◌≡◌, ◌++◌, map}
use Rattle.mk_decide.specs.Edits.{RenameField}
use Rattle.mk_mail.specs.Letters.{replaced, those}
use Rattle.mk_mail.specs.LetterWork.{plain_edits, texts_of}
use Rattle.mk_mail.proofs.filtering.rename_all.Given as goal

abbrev pub invariant-loop-own : goal.invariant-loop-own
invariant-loop-own l = record {
  names : texts_of l.list.items ≡ replaced l.old (λ own. l.new) (texts_of l.yielded);
  edits : plain_edits l.edits.items ≡ plain_edits l.fn.edits.items ++ map (λ own. RenameField l.path l.old 1 l.new) (those l.old (texts_of l.yielded));
}
