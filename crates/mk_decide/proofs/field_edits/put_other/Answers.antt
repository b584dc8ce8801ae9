use Rattle.std.proofs.Common.{Ok, not, length, refl, ap, sym, ◌∙◌}
use Rattle.mk_line.specs.Lines.{cut}
use Rattle.mk_line.proofs.Cuts.{text_cut}
use Rattle.mk_head.specs.Fields.{is_one_field}
use Rattle.mk_decide.specs.Edits.{BadField}
use Rattle.mk_decide.specs.FieldEdits.{field_at}
use Rattle.mk_decide.specs.declared.field_edits.FieldEdit.TheVariants.{Set}
use Rattle.mk_decide.specs.FieldPuts.{set_put, puts}
use Rattle.mk_decide.proofs.PlanNames.{put_unless}
use Rattle.mk_decide.proofs.FieldPutting.{put_by, may_put, found_put, put_set}
use Rattle.mk_decide.proofs.field_edits.put_other.Goals as goal

pub returns-in_ok-from_slice-in-Some-clause-ok : goal.returns-in_ok-from_slice-in-Some-clause-ok
returns-in_ok-from_slice-in-Some-clause-ok c =
    let text = c.args.text.now in
    let ls = cut c.args.head.now in
    let a = c.in-Some.ensures.some in
    let o = field_at c.args.name.now c.args.k ls in
    put_by _ (Ok (set_put (cut text) a.found)) (puts (Set c.args.name c.args.k c.args.text) ls)
    (found_put o a.found (λ f. put_unless (not (is_one_field (cut text))) BadField (set_put (cut text) f)) a.is ∙ may_put (is_one_field (cut text)) BadField (set_put (cut text) a.found) (sym c.one_field.ensures ∙ c.if-not-one_field.false))
    (put_set _ (cut text) a.found a.following (ap length a.raw) (c.in_ok-from_slice-in-Some.ensures.items ∙ sym (text_cut text)) refl)
