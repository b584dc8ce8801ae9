use Rattle.std.proofs.Common.{◌∙◌, ◌-◌, ap, sym}
use Rattle.mk_decide.specs.WrapAnswers.{all_fit}
use Rattle.mk_decide.proofs.WrapPieces.{fit_children}
use Rattle.mk_decide.proofs.wrap_edits.+fits_levels.Goals as goal

pub loop-child-init : goal.loop-child-init
loop-child-init t c =
    let p = c.args.section.now in
    let n = c.args.left in
    ap (all_fit (n - 1)) (c.into_iter-child-iterator.ensures.into_iter_gives ∙ c.children-child-items.ensures)
    ∙ sym (fit_children n p p.entity (sym c.is_leaf.ensures ∙ c.if-is_leaf.false) c.if-left-eq0.false)
