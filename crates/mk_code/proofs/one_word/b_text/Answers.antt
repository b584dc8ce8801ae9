use Rattle.std.proofs.Common.{◌∙◌, sym}
use Rattle.mk_code.proofs.WordParts.{b_found, b_refused}
use Rattle.mk_code.proofs.one_word.b_text.Goals as goal

pub returns-in-Ok : goal.returns-in-Ok
returns-in-Ok c =
    b_found c.args.text.now c.split_at.result.0.now c.split_at.result.1.now c.in-Ok.bytes.items c.run_of.result c.run_of.ensures.front c.run_of.ensures.within c.split_at.ensures.front c.split_at.ensures.back
    (sym c.is_padding.ensures ∙ c.if-not-is_padding.false) c.in-Ok.ensures.ok

pub returns-in-Err-DecodeError : goal.returns-in-Err-DecodeError
returns-in-Err-DecodeError c =
    b_refused c.args.text.now c.split_at.result.0.now c.split_at.result.1.now c.run_of.result c.in-Err-DecodeError.field-0-0 c.run_of.ensures.front c.run_of.ensures.within c.split_at.ensures.front c.split_at.ensures.back
    (sym c.is_padding.ensures ∙ c.if-not-is_padding.false) (rw c.in-Err-DecodeError.field-0-is at c.in-Err-DecodeError.ensures.err)
