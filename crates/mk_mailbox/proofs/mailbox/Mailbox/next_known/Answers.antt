use Rattle.std.proofs.Common.{refl, sym}
use Rattle.mk_mailbox.proofs.Intaking.{known_piece, none_known}
use Rattle.mk_mailbox.proofs.mailbox.Mailbox.next_known.Goals as goal

pub returns-clause-piece : goal.returns-clause-piece
returns-clause-piece c = known_piece c.take_lines.result c.self.inside.intake c.take_lines.new.self _ _ (sym c.self.view_is) refl c.take_lines.ensures.piece

pub returns-clause-unknown : goal.returns-clause-unknown
returns-clause-unknown c = none_known c.take_lines.result c.self.inside.intake c.take_lines.new.self _ (sym c.self.view_is) c.take_lines.ensures.intake c.take_lines.ensures.same c.take_lines.ensures.piece c.take_lines.ensures.taken c.take_lines.ensures.undecided
