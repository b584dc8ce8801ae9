use Rattle.std.proofs.Common.{◌≡◌, ◌++◌, ap, sym, ◌∙◌, refl, drop, vec_len, Err}
use Rattle.std.proofs.lemmas.List.{append-nil, take-append-drop}
use Rattle.base64.specs.Engines.{standard_no_pad}
use Rattle.base64.specs.GeneralPurpose.{decode_of, encode_of}
use Rattle.base64.proofs.EngineFacts.{decode_of_iff, decode_of_strict}
use Rattle.mk_code.proofs.base64_text.push_decoded.Goals as goal

pub returns-in-Ok-clause-ok : goal.returns-in-Ok-clause-ok
returns-in-Ok-clause-ok c =
    let old = vec_len c.args.out.now in
    let new = c.decode_vec.new.buffer.items in
    record {
      bytes = drop old new;
      are_bytes = c.in-Ok.ensures.bytes;
      text = sym (take-append-drop old new) ∙ ap (λ xs. xs ++ drop old new) c.in-Ok.ensures.front;
      letters = decode_of_strict standard_no_pad c.args.found.now (drop old new) (refl, refl) (λ i. (c.type_inv.found i).fits) c.in-Ok.ensures.ok ∙ sym (append-nil (encode_of standard_no_pad (drop old new)));
    }

pub returns-in-Err-DecodeError-clause-err : goal.returns-in-Err-DecodeError-clause-err
returns-in-Err-DecodeError-clause-err c = λ bytes are e.
    let there = (decode_of_iff standard_no_pad c.args.found.now bytes (refl, refl) (λ i. (c.type_inv.found i).fits) are).1 e in
    let failed : decode_of standard_no_pad c.args.found.now ≡ Err c.in-Err-DecodeError.field-0-0 = (rw c.in-Err-DecodeError.field-0-is at c.in-Err-DecodeError.ensures.err) in
    cc (there, failed)
