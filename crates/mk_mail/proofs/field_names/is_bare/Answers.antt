use Rattle.std.proofs.Common.{ap, sym, ◌∙◌, [], unwrap_or}
use Rattle.std.specs.List.{list_all}
use Rattle.mk_line.specs.Ascii.{colon, is_blank}
use Rattle.mk_line.proofs.FirstBytes.{found, unfound}
use Rattle.mk_mail.proofs.field_names.is_bare.Goals as goal

pub returns-in-Some : goal.returns-in-Some
returns-in-Some c = c.are_blank.ensures ∙ ap (λ o. list_all is_blank (unwrap_or o [])) (sym (found colon c.in-Some.place c.args.field.now c.in-Some.ensures).1)

pub returns-in-None : goal.returns-in-None
returns-in-None c = ap (λ o. list_all is_blank (unwrap_or o [])) (sym (unfound colon c.args.field.now c.in-None.ensures))
