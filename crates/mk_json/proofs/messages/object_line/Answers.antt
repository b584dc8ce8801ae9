use Rattle.std.proofs.Common.{◌≡◌, ◌∙◌, IfOk, ap, length, rules, subst, sym}
use Rattle.mk_json.specs.MessageObjects.{object_line as line_of}
use Rattle.mk_json.proofs.messages.object_line.Goals as goal

pub returns-in-Ok : goal.returns-in-Ok
returns-in-Ok c =
    let read = c.in-Ok.ensures.ok in
    let long : c.len.result ≡ length c.args.message.items = search rules in
    let size : c.len.result ≡ length c.in-Ok.doc = long ∙ sym (ap length read) in
    subst (λ text. IfOk c.document_line.result (λ line. line.items ≡ line_of c.args.number c.args.start text)) read (rw size at c.document_line.ensures)
