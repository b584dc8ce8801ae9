use Rattle.mk_uses.proofs.Tagging.{all_made, apart, more_tagged}
use Rattle.mk_uses.proofs.mailboxes.tag_each.Goals as goal

pub returns-in-None : goal.returns-in-None
returns-in-None g c =
    let e = c.in_ok-message.ensures.exact in
    let over = rw c.in-None.is at e.2.reply in
    let all = all_made c.ends_are_whole.ensures c.args.field.now _ _ _ c.loop-message.mailbox c.next.new.self c.loop-message.out.items e.0 c.loop-message.invariant e.1 over in
    (all.0, all.1, all.2, apart c.pieces_are_uncut.ensures c.replaced_stay_apart.ensures c.args.field.now all.0 c.loop-message.out.items all.2)

pub loop-message-preserved : goal.loop-message-preserved
loop-message-preserved g c =
    let e = c.in_ok-message.ensures.exact in
    let next = rw c.in-Some.is at e.2.reply in
    more_tagged c.args.field.now _ _ _ c.loop-message.mailbox c.next.new.self c.loop-message.out.items c.push_tagged.new.out.items e.0 c.in-Some.message.items c.loop-message.invariant e.1
    (record { reply = next; over = e.2.over; stays = e.2.stays; same = e.2.same }) c.in-Ok.ensures
