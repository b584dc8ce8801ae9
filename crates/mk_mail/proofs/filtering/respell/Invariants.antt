use Rattle.std.proofs.Common.{◌≡◌, ◌++◌, Some}
use Rattle.std.specs.Vec.Iter.{into_iter_items}
use Rattle.mk_mail.specs.Letters.{respelling, respelt}
use Rattle.mk_mail.specs.LetterWork.{plain_edits, texts_of}
use Rattle.mk_mail.proofs.filtering.respell.Given as goal

abbrev pub invariant-loop-own : goal.invariant-loop-own
invariant-loop-own l = record {
  names : texts_of l.list.items ++ respelt l.old l.new l.next (texts_of (into_iter_items l.own-iterator)) ≡ respelt l.old l.new (Some 1) (texts_of l.fn.names.items);
  edits : plain_edits l.edits.items ++ respelling l.path l.old l.new l.next (texts_of (into_iter_items l.own-iterator)) ≡ plain_edits l.fn.edits.items ++ respelling l.path l.old l.new (Some 1) (texts_of l.fn.names.items);
}
