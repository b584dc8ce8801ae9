use Rattle.std.proofs.Common.{◌⊎◌, refl, subst, sym}
use Rattle.mk_c.proofs.Pieces.{answered, reads_on, refused, short}
use Rattle.mk_mailbox.specs.Devices.{IsLong}
use Rattle.mk_mailbox.specs.Mailboxes.{IsKnownWhole}
use Rattle.mk_mailbox.specs.MailboxLaws.{error}
use Rattle.mk_mailbox.proofs.Intaking.{answered as replied}
use Rattle.mk_c.proofs.input.read_on.Goals as goal

pub returns-in-Ok : goal.returns-in-Ok
returns-in-Ok g c =
    let e = c.in-Ok.ensures.exact in
    answered c.args.bytes.now _ c.saturating_sub-used.result e.0 c.next-found.new.r.rest.now c.args.mailbox.now c.next-found.new.self c.in-Ok.message
    e.1 c.saturating_sub-used.ensures (replied c.in-Ok.message _ e.0 _ e.2.reply) e.2.over e.2.stays e.2.same c.in-Ok.ensures.ended

pub returns-in-Err : goal.returns-in-Err
returns-in-Err g c =
    let e = c.in-Err.ensures.exact in
    let rest = c.next-found.new.r.rest.now in
    let reads = c.next-found.new.r.reads in
    let new = c.next-found.new.self in
    let u = c.saturating_sub-used.ensures in
    rw c.reason.ensures (refused c.args.bytes.now _ c.saturating_sub-used.result c.args.mailbox.now new c.in-Err.fault _
    (reads_on c.args.bytes.now _ c.saturating_sub-used.result error e.0 rest c.args.mailbox.now new e.1 u e.2.reply e.2.over e.2.stays e.2.same c.in-Err.ensures.ended)
    (λ f d. short c.args.bytes.now _ c.saturating_sub-used.result reads 0 rest new u d refl (subst (λ way. (IsKnownWhole way new.kept → ⊥) ⊎ IsLong 0 reads) (sym e.2.same) (c.in-Err.ensures.unknown f))))
