use Rattle.std.proofs.Common.{◌≡◌, ◌++◌, map}
use Rattle.mk_decide.specs.Edits.{RenameField}
use Rattle.mk_mail.specs.Letters.{old_name, replaced, those}
use Rattle.mk_mail.specs.LetterWork.{plain_edits, texts_of}
use Rattle.mk_mail.proofs.filtering.make_old.Given as goal

abbrev pub invariant-loop-own : goal.invariant-loop-own
invariant-loop-own l = record {
  names : texts_of l.list.items ≡ replaced l.name old_name (texts_of l.yielded);
  edits : plain_edits l.edits.items ≡ plain_edits l.fn.edits.items ++ map (λ own. RenameField l.path l.name 1 (old_name own)) (those l.name (texts_of l.yielded));
}
