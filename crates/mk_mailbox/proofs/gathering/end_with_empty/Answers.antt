use Rattle.std.proofs.Common.{◌∙◌, ap, not}
use Rattle.mk_mailbox.proofs.QuietLines.{stretch_last}
use Rattle.mk_mailbox.proofs.gathering.end_with_empty.Goals as goal

pub returns-in-len1-up : goal.returns-in-len1-up
returns-in-len1-up c = ap not c.ends_open.ensures ∙ stretch_last c.args.lines.now c.content_of.result.now c.in-len1-up.len_at_least c.requires c.content_of.ensures
