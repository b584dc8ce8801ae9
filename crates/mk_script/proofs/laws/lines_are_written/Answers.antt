use Rattle.std.proofs.Common.{ap, ◌∙◌}
use Rattle.mk_script.specs.Script.{line_of}
use Rattle.mk_script.proofs.LineLemmas.{line_of-read, line_of-written}
use Rattle.mk_script.proofs.laws.lines_are_written.Goals as goal

pub returns : goal.returns
returns c count bytes line = (line_of-read count bytes line, λ h. ap (line_of count) h.1 ∙ line_of-written count line h.0)
