use Rattle.std.proofs.Common.{◌≡◌, ◌++◌, map}
use Rattle.mk_decide.specs.Edits.{RemoveField}
use Rattle.mk_mail.specs.Letters.{others, those}
use Rattle.mk_mail.specs.LetterWork.{plain_edits, texts_of}
use Rattle.mk_mail.proofs.filtering.remove_all.Given as goal

abbrev pub invariant-loop-own : goal.invariant-loop-own
invariant-loop-own l = record {
  names : texts_of l.list.items ≡ others l.name (texts_of l.yielded);
  edits : plain_edits l.edits.items ≡ plain_edits l.fn.edits.items ++ map (λ own. RemoveField l.path l.name 1) (those l.name (texts_of l.yielded));
}
