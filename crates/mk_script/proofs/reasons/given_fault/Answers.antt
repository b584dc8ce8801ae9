use Rattle.std.proofs.Common.{ap, sym, ◌∙◌, option_map}
use Rattle.std.proofs.lemmas.Result.{IfOk-weaker}
use Rattle.mk_script.proofs.FaultyWords.{given_more, some_name}
use Rattle.mk_script.proofs.reasons.given_fault.Goals as goal

pub returns-in-Some : goal.returns-in-Some
returns-in-Some c =
    let known = some_name c.args.name.now c.is_empty.result c.is_empty.ensures c.if-is_empty.false in
    let given = given_more c.args.name.now c.args.rest.now c.in-Some.more.now known (sym c.after_option.ensures ∙ ap (λ o. option_map (λ more. more.now) o) c.in-Some.is) in
    IfOk-weaker c.arguments_fault.result _ _ (λ fault h. h ∙ sym given) c.arguments_fault.ensures
