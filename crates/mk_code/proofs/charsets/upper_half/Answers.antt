use Rattle.std.proofs.Common.{ap, sym, ◌∙◌}
use Rattle.std.specs.Str.{str_to_ascii_lowercase}
use Rattle.mk_code.specs.inner.Tables.{table_of}
use Rattle.mk_code.proofs.CharsetNames.{in_the_first, in_the_others}
use Rattle.mk_code.proofs.charsets.upper_half.Goals as goal

pub returns-in-Some : goal.returns-in-Some
returns-in-Some c =
    let label = str_to_ascii_lowercase c.args.charset.now in
    in_the_first label c.in-Some.upper.now (c.in-Some.ensures ∙ ap (λ t. table_of t label) c.iso_charsets.ensures)

pub returns-in-None : goal.returns-in-None
returns-in-None c =
    let label = str_to_ascii_lowercase c.args.charset.now in
    c.upper_in-in-None.ensures ∙ (ap (λ t. table_of t label) c.other_charsets.ensures ∙ in_the_others label (ap (λ t. table_of t label) (sym c.iso_charsets.ensures) ∙ sym c.in-None.ensures))
