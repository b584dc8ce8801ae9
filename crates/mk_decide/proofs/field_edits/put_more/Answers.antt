use Rattle.std.proofs.Common.{Ok, refl, sym, ◌∙◌}
use Rattle.mk_line.specs.Lines.{cut}
use Rattle.mk_head.specs.Fields.{is_one_field}
use Rattle.mk_decide.specs.Edits.{BadField}
use Rattle.mk_decide.specs.declared.field_edits.FieldEdit.TheVariants.{Add}
use Rattle.mk_decide.specs.FieldPuts.{add_put, puts}
use Rattle.mk_decide.proofs.FieldPutting.{put_by, may_put, put_add}
use Rattle.mk_decide.proofs.field_edits.put_more.Goals as goal

pub returns-clause-ok : goal.returns-clause-ok
returns-clause-ok c =
    let text = c.args.text.now in
    let p = add_put c.args.top (cut text) (cut c.args.head.now) in
    put_by _ (Ok p) (puts (Add c.args.top c.args.text) (cut c.args.head.now)) (may_put (is_one_field (cut text)) BadField p (sym c.one_field.ensures ∙ c.if-not-one_field.false))
    (put_add _ c.args.top text c.args.head.now c.add_place.ensures refl c.in_ok-from_slice.ensures.items refl)
