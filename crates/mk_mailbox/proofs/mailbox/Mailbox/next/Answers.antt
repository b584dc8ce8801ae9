use Rattle.std.proofs.Common.{subst}
use Rattle.mk_mailbox.specs.Held.{Held}
use Rattle.mk_mailbox.specs.inner.Intakes.{held_of}
use Rattle.mk_mailbox.specs.MailboxLaws.{IsNextCall}
use Rattle.mk_mailbox.proofs.Intaking.{replied}
use Rattle.mk_mailbox.proofs.mailbox.Mailbox.next.Goals as goal

pub returns : goal.returns
returns g c =
    let e = c.next.ensures.exact in
    let old = c.args.r.now in
    let new = c.next.new.r in
    let S = g.S.Source in
    subst (λ (h : Held). IsNextCall (S.remaining old) (S.remaining new) (S.read_count old) (S.read_count new) (S.failures old) (S.failures new) c.next.result h (held_of c.next.new.self)) c.self.view_is
    (record {
      exact = (e.0, e.1, record { reply = replied c.next.result _ e.0 _ e.4; over = e.2; stays = λ o. (c.next.ensures.stays o).0; same = c.next.ensures.same }, e.3);
      ended = c.next.ensures.ended;
      idle = λ o. let i = c.next.ensures.idle o in ((c.next.ensures.stays o).1, i.0, i.1);
      only = c.next.ensures.only;
      known = c.next.ensures.known;
      unknown = c.next.ensures.unknown;
      fault = c.next.ensures.fault;
      held = c.next.ensures.held;
      well = c.next.ensures.well;
      memory = c.next.ensures.memory;
    })
