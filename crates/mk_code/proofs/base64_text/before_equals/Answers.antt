use Rattle.std.proofs.Common.{◌∙◌, ap, sym, not, ◌==◌}
use Rattle.std.specs.List.{take_while}
use Rattle.mk_line.specs.Ascii.{equals_sign}
use Rattle.mk_code.proofs.Base64Letters.{before_found, before_unfound}
use Rattle.mk_code.proofs.base64_text.before_equals.Goals as goal

pub returns-in-Some : goal.returns-in-Some
returns-in-Some c =
    before_found c.in-Some.front.now c.in-Some.field-0-1.now c.in-Some.ensures.first
    ∙ ap (take_while (λ byte. not (byte == equals_sign))) (sym c.in-Some.ensures.parts)

pub returns-in-None : goal.returns-in-None
returns-in-None c = before_unfound c.args.text.now c.in-None.ensures.parts
