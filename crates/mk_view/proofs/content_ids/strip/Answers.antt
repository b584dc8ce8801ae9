use Rattle.std.proofs.Common.{◌∙◌}
use Rattle.mk_head.proofs.Parts.{stripped_at}
use Rattle.mk_view.proofs.content_ids.strip.Goals as goal

pub returns : goal.returns
returns c = c.trimmed.ensures ∙ stripped_at c.args.text.now c.leading_blanks.result c.leading_blanks.ensures.front
