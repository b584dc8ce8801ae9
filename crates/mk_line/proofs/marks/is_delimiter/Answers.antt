use Rattle.std.proofs.Common.{◌∙◌, sym, ap}
use Rattle.std.specs.Str.{bytes_eq}
use Rattle.mk_line.specs.Marks.{dashed}
use Rattle.mk_line.proofs.Blanks.{unmarked_front, unmarked_end}
use Rattle.mk_line.proofs.marks.is_delimiter.Goals as goal

pub returns-else-is_dashed-2 : goal.returns-else-is_dashed-2
returns-else-is_dashed-2 c =
    unmarked_front c.args.boundary.now c.args.content.now c.in-Some.front.now
    (ap (λ xs. bytes_eq xs (dashed c.args.boundary.now)) (sym c.trimmed-line.ensures) ∙ (sym c.is_dashed.ensures ∙ c.if-is_dashed.false))
    (sym c.trimmed-line.ensures ∙ c.in-Some.ensures)
    (sym c.is_dashed-in-Some.ensures ∙ c.if-is_dashed-2.false)

pub returns-in-None : goal.returns-in-None
returns-in-None c =
    unmarked_end c.args.boundary.now c.args.content.now
    (ap (λ xs. bytes_eq xs (dashed c.args.boundary.now)) (sym c.trimmed-line.ensures) ∙ (sym c.is_dashed.ensures ∙ c.if-is_dashed.false))
    (λ front e. c.in-None.ensures front (c.trimmed-line.ensures ∙ e))
