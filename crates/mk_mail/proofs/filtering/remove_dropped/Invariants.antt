use Rattle.std.proofs.Common.{◌≡◌, ◌++◌, filter, map, not}
use Rattle.mk_decide.specs.Edits.{RemoveField}
use Rattle.mk_mail.specs.Letters.{goes}
use Rattle.mk_mail.specs.LetterWork.{plain_edits, removal_by, texts_of}
use Rattle.mk_mail.proofs.filtering.remove_dropped.Given as goal

abbrev pub invariant-loop-own : goal.invariant-loop-own
invariant-loop-own l = record {
  names : texts_of l.list.items ≡ filter (λ own. not (goes (removal_by l.removal) own)) (texts_of l.yielded);
  edits : plain_edits l.edits.items ≡ plain_edits l.fn.edits.items ++ map (λ own. RemoveField l.path own 1) (filter (goes (removal_by l.removal)) (texts_of l.yielded));
}
