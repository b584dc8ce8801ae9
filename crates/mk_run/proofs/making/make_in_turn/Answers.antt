use Rattle.std.proofs.Common.{◌∙◌, ap, sym, map}
use Rattle.std.proofs.lemmas.List.{nil_from_length}
use Rattle.mk_line.specs.Lines.{cut, eol_of}
use Rattle.mk_expand.specs.Views.{pieces_of}
use Rattle.mk_script.specs.ScriptViews.{numbered, said_by}
use Rattle.std.specs.Vec.Iter.{into_iter_items}
use Rattle.mk_run.proofs.InTurn.{in_turn_begun, in_turn_done, in_turn_next}
use Rattle.mk_run.proofs.WordsMade.{ends_so}
use Rattle.mk_run.proofs.making.make_in_turn.Goals as goal

pub loop-word-init : goal.loop-word-init
loop-word-init c =
    in_turn_begun (pieces_of c.args.pieces) c.eol_of-eol.result (map numbered c.args.words.items) (map numbered (into_iter_items c.into_iter-word-iterator.result)) c.args.session.now c.in_ok-group.group
    c.in_ok-group.ensures (ap (map numbered) c.into_iter-word-iterator.ensures.into_iter_gives.0)

pub make_on-requires : goal.make_on-requires
make_on-requires c = λ e. ends_so (cut c.text.result.now) (sym c.eol_of-eol.ensures ∙ e)

pub loop-word-preserved : goal.loop-word-preserved
loop-word-preserved c =
    let made = c.in_ok-make_on.ensures in
    in_turn_next (pieces_of c.args.pieces) c.eol_of-eol.result (map numbered c.args.words.items) (map numbered (into_iter_items c.loop-word.word-iterator)) (map numbered (into_iter_items c.next.new.self))
    made.0 c.args.session.now c.loop-word.group c.make_on.new.session c.in-Some.word.number (said_by c.in-Some.word.word) c.loop-word.invariant (ap (map numbered) c.in-Some.ensures.steps.0) made.1

pub commit-requires : goal.commit-requires
commit-requires c = c.loop-word.invariant.first

pub returns : goal.returns
returns c =
    in_turn_done (pieces_of c.args.pieces) c.eol_of-eol.result (map numbered c.args.words.items) (map numbered (into_iter_items c.loop-word.word-iterator)) c.args.session.now c.loop-word.group c.commit.new.self
    c.loop-word.invariant (ap (map numbered) (nil_from_length (into_iter_items c.loop-word.word-iterator) (sym c.loop-word.word-iterator.rest.ok.0 ∙ c.in-None.ensures.steps.0))) (c.eol_of-eol.ensures ∙ ap (λ x. eol_of (cut x)) c.text.ensures.now) c.in_ok-commit.ensures.ok
