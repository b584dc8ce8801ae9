use Rattle.std.proofs.Common.{◌∙◌, ap}
use Rattle.mk_expand.specs.Encodings.{decoded_in}
use Rattle.mk_expand.proofs.Base64Read.{base64_is_refused, content_is_read}
use Rattle.mk_expand.proofs.encodings.decoded.Goals as goal

pub returns-in-Ok-clause-bytes : goal.returns-in-Ok-clause-bytes
returns-in-Ok-clause-bytes c = content_is_read c.args.encoding c.args.text.now c.in-Ok.bytes.items c.in-Ok.ensures.content

pub returns-in-Err-BadBase64-clause-fault : goal.returns-in-Err-BadBase64-clause-fault
returns-in-Err-BadBase64-clause-fault c =
    let refused = rw c.in-Err-BadBase64.field-0-is at c.in-Err-BadBase64.ensures.refused in
    ap (λ x. decoded_in x c.args.text.now) refused.0 ∙ base64_is_refused c.args.text.now refused.1
