use Rattle.std.proofs.Common.{sym, ap, not, ◌∙◌, false}
use Rattle.mk_mailbox.proofs.QuietLines.{open_last}
use Rattle.mk_mailbox.proofs.places.ends_empty.Goals as goal

pub returns-else-not-ends_open : goal.returns-else-not-ends_open
returns-else-not-ends_open c = ap not c.if-not-ends_open.false ∙ sym (open_last false c.args.text.now (sym c.ends_open.ensures ∙ c.if-not-ends_open.false))
