use Rattle.mk_view.proofs.Fitting.{room_ends, room_stays}
use Rattle.mk_view.proofs.text_names.push_fitting.Goals as goal

pub returns-then-size-room : goal.returns-then-size-room
returns-then-size-room c =
    room_ends _ _ c.args.characters.now c.loop-character.room c.loop-character.character-index c.character-item.result c.plain-kept.result c.len_utf8-size.result c.loop-character-test.true c.character-item.is c.plain-kept.ensures
    c.len_utf8-size.ensures.value c.if-size-room.true c.loop-character.invariant

pub loop-character-preserved : goal.loop-character-preserved
loop-character-preserved c =
    room_stays _ _ _ c.args.characters.now c.loop-character.room c.loop-character.character-index c.character-item.result c.plain-kept.result c.len_utf8-size.result c.loop-character-test.true c.character-item.is c.plain-kept.ensures
    c.len_utf8-size.ensures.value c.if-size-room.false c.in_ok-push.ensures.bytes c.loop-character.invariant
