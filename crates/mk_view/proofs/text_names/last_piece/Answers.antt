use Rattle.std.proofs.Common.{ap, sym, ◌∙◌}
use Rattle.mk_view.specs.FileNames.{is_divider}
use Rattle.mk_view.proofs.LastPieces.{at_divider, first_is, last_all, past_byte}
use Rattle.mk_view.proofs.text_names.last_piece.Goals as goal

pub each-init : goal.each-init
each-init c = last_all is_divider c.args.characters.now

pub each-preserved-then-is_divider : goal.each-preserved-then-is_divider
each-preserved-then-is_divider c =
    at_divider is_divider c.each.piece.now c.each.rest.now c.in-len1-up.len_at_least (ap is_divider (first_is c.each.rest.now c.character-item.result c.in-len1-up.len_at_least c.character-item.is) ∙ (sym c.is_divider.ensures ∙ c.if-is_divider.true)) ∙ c.each.invariant

pub each-preserved : goal.each-preserved
each-preserved c =
    past_byte is_divider c.each.piece.now c.each.rest.now c.in-len1-up.len_at_least (ap is_divider (first_is c.each.rest.now c.character-item.result c.in-len1-up.len_at_least c.character-item.is) ∙ (sym c.is_divider.ensures ∙ c.if-is_divider.false)) ∙ c.each.invariant
