use Rattle.std.proofs.Common.{◌∙◌, sym}
use Rattle.mk_line.proofs.Cuts.{text_cut}
use Rattle.mk_split.proofs.texts.after_from_line.Goals as goal

pub returns-in-Some : goal.returns-in-Some
returns-in-Some c = rw c.in-Some.ensures.some (rw (sym c.is_from_line.ensures ∙ c.if-is_from_line.true) (sym (text_cut c.in-Some.rest.now)))
