use Rattle.std.proofs.Common.{◌≡◌, true, false, Some, ap, ◌∙◌, subst}
use Rattle.std.specs.Str.{IsUtf8}
use Rattle.std.specs.String.{string_bytes}
use Rattle.std.proofs.lemmas.Str.{IsUtf8-string_bytes}
use Rattle.mk_param.proofs.Texts.{is_text, no_text}
use Rattle.mk_param.proofs.extended.as_text.Goals as goal

pub returns-in-Ok : goal.returns-in-Ok
returns-in-Ok c =
    let same : string_bytes c.in-Ok.text ≡ c.args.bytes.items = ap (λ v. v.items) c.in-Ok.ensures.ok in
    ap Some same ∙ is_text c.args.bytes.items (subst IsUtf8 same (IsUtf8-string_bytes c.in-Ok.text))

pub returns : goal.returns
returns c = no_text c.args.bytes.items (λ u. let bad : false ≡ true = c.in-Err.ensures.succeeds u in cc)
