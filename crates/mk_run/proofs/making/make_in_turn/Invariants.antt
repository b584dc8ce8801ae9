use Rattle.std.proofs.Common.{map}
use Rattle.std.specs.Vec.Iter.{into_iter_items}
use Rattle.mk_expand.specs.Views.{pieces_of}
use Rattle.mk_script.specs.ScriptViews.{numbered}
use Rattle.mk_run.proofs.InTurn.{InTurn}
use Rattle.mk_run.proofs.making.make_in_turn.Given as goal

abbrev pub invariant-loop-word : goal.invariant-loop-word
invariant-loop-word l = InTurn (pieces_of l.pieces) l.eol (map numbered l.fn.words.items) (map numbered (into_iter_items l.word-iterator)) l.session l.group
