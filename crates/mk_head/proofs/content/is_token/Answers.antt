use Rattle.std.proofs.Common.{◌∙◌, sym}
use Rattle.mk_head.proofs.Parts.{some_token}
use Rattle.mk_head.proofs.content.is_token.Goals as goal

pub returns-then-not-is_empty : goal.returns-then-not-is_empty
returns-then-not-is_empty c = rw (some_token c.args.text.now (sym c.is_empty.ensures ∙ c.if-not-is_empty.true)) c.are_token_bytes.ensures
