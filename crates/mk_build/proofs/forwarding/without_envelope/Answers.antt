use Rattle.std.proofs.Common.{◌∙◌, sym}
use Rattle.mk_line.specs.Views.{line_of}
use Rattle.mk_build.proofs.Envelopes.{envelope_gone, envelope_none}
use Rattle.mk_build.proofs.forwarding.without_envelope.Goals as goal

pub returns-then-is_from_line : goal.returns-then-is_from_line
returns-then-is_from_line c = envelope_gone c.args.text.now (line_of c.in-Some.line) c.in-Some.rest.now c.in-Some.ensures.some (sym c.is_from_line.ensures ∙ c.if-is_from_line.true)

pub returns-else-is_from_line : goal.returns-else-is_from_line
returns-else-is_from_line c = envelope_none c.args.text.now (line_of c.in-Some.line) c.in-Some.rest.now c.in-Some.ensures.some (sym c.is_from_line.ensures ∙ c.if-is_from_line.false)
