use Rattle.std.proofs.Common.{◌≡◌, ◌++◌, true, map}
use Rattle.std.specs.List.{list_all}
use Rattle.std.specs.Vec.Iter.{into_iter_items}
use Rattle.mk_decide.specs.Views.{edit_of}
use Rattle.mk_expand.specs.Words.{is_plain}
use Rattle.mk_expand.specs.Views.{pieces_of}
use Rattle.mk_script.specs.ScriptViews.{numbered}
use Rattle.mk_run.proofs.PlainWords.{edits_in, numbers_in}
use Rattle.mk_run.proofs.making.make_plain.Given as goal

abbrev pub invariant-loop-number : goal.invariant-loop-number
invariant-loop-number l = record {
  plain : list_all (λ w. is_plain w.1) (map numbered (into_iter_items l.number-iterator)) ≡ true;
  edits : map edit_of l.edits.items ++ edits_in (pieces_of l.pieces) l.eol (map numbered (into_iter_items l.number-iterator)) ≡ edits_in (pieces_of l.pieces) l.eol (map numbered l.fn.words.items);
  numbers : l.numbers.items ++ numbers_in (map numbered (into_iter_items l.number-iterator)) ≡ numbers_in (map numbered l.fn.words.items);
}
