use Rattle.std.proofs.Common.{◌++◌, subst}
use Rattle.mk_mailbox.specs.inner.Gathered.{IsSplit}
use Rattle.mk_mailbox.specs.inner.Intakes.{kept_by, unread}
use Rattle.mk_mailbox.proofs.GatheredParts.{split_on}
use Rattle.mk_mailbox.proofs.intake.Intake.take_lines.Goals as goal

pub returns-in-Some-clause-piece : goal.returns-in-Some-clause-piece
returns-in-Some-clause-piece c =
    let rest = unread c.lines.self.chunk.items c.lines.self.at c.lines.self.filled in
    subst (λ way. IsSplit way c.in-Some.piece.items (kept_by c.args.self.now) (c.decide.new.self.bytes.items ++ rest)) c.lines.invariant.same
    (subst (λ k. IsSplit c.lines.self.gathered.from_lines c.in-Some.piece.items k (c.decide.new.self.bytes.items ++ rest)) c.lines.invariant.kept
    (split_on c.lines.self.gathered.from_lines c.in-Some.piece.items c.lines.self.gathered.bytes.items c.decide.new.self.bytes.items rest (rw c.in-Some.is at c.in_ok-piece.ensures.piece)))
