use Rattle.std.proofs.Common.{[], ◌++◌, ◌∙◌, ap, append-nil, arith, sym}
use Rattle.std.specs.Vec.{with_items}
use Rattle.std.proofs.KnownBytes.{Consumes-kept, Consumes-nil}
use Rattle.mk_mailbox.proofs.Intaking.{fits_none, fits_read, unread_none}
use Rattle.mk_mailbox.proofs.intake.Intake.read.Goals as goal

pub returns-in-Err-clause-bytes : goal.returns-in-Err-clause-bytes
returns-in-Err-clause-bytes g c =
    let i = c.args.self.now in (
      [],
      Consumes-kept _ _ _ _ (Consumes-nil _) c.in-Err.ensures.bytes,
      ap (λ x. i.gathered.bytes.items ++ x) (unread_none (with_items c.make_room.new.chunk c.read.new.piece).items i.at i.filled c.requires.taken ∙ sym (unread_none i.chunk.items i.at i.filled c.requires.taken)) ∙ sym (append-nil _),
      fits_read [] _ _ (omega arith) c.read.ensures.counted,
    )

pub returns-then-is_err-clause-bytes : goal.returns-then-is_err-clause-bytes
returns-then-is_err-clause-bytes g c =
    let i = c.args.self.now in (
      [],
      Consumes-nil _,
      ap (λ x. i.gathered.bytes.items ++ x) (unread_none c.make_room.new.chunk.items i.at i.filled c.requires.taken ∙ sym (unread_none i.chunk.items i.at i.filled c.requires.taken)) ∙ sym (append-nil _),
      fits_none _,
    )
