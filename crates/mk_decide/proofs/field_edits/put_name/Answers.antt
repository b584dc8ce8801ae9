use Rattle.std.proofs.Common.{Ok, not, ◌++◌, refl, ap, sym, ◌∙◌}
use Rattle.mk_line.specs.Lines.{cut}
use Rattle.mk_head.specs.Views.{field_view}
use Rattle.mk_decide.specs.Edits.{BadName}
use Rattle.mk_line.specs.Kinds.{is_name}
use Rattle.mk_decide.specs.FieldEdits.{field_at}
use Rattle.mk_decide.specs.declared.field_edits.FieldEdit.TheVariants.{Rename}
use Rattle.mk_decide.specs.FieldPuts.{name_put, puts}
use Rattle.mk_decide.proofs.PlanNames.{put_unless}
use Rattle.mk_decide.proofs.FieldPutting.{put_by, may_put, found_put, put_renamed}
use Rattle.mk_decide.proofs.field_edits.put_name.Goals as goal

pub returns-in_ok-extend_from_slice-in-Some-clause-ok : goal.returns-in_ok-extend_from_slice-in-Some-clause-ok
returns-in_ok-extend_from_slice-in-Some-clause-ok c =
    let to = c.args.to.now in
    let ls = cut c.args.head.now in
    let a = c.in-Some.ensures.some in
    let o = field_at c.args.name.now c.args.k ls in
    put_by _ (Ok (name_put to a.found)) (puts (Rename c.args.name c.args.k c.args.to) ls)
    (found_put o a.found (λ f. put_unless (not (is_name to)) BadName (name_put to f)) a.is ∙ may_put (is_name to) BadName (name_put to a.found) (sym c.is_name.ensures ∙ c.if-not-is_name.false))
    (put_renamed _ to c.args.name.now c.args.k ls c.in-Some.from (field_view c.in-Some.field) c.after_name-following.result.now a c.after_name-following.ensures refl refl
    (c.in_ok-extend_from_slice-in-Some.ensures.items ∙ ap (λ xs. xs ++ c.after_name-following.result.now) c.in_ok-lines-in-Some.ensures.items) refl)
