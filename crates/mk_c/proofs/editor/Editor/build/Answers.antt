use Rattle.std.proofs.Common.{◌≡◌, None, ap, subst}
use Rattle.mk_build.specs.Forwards.{built_with, refusal_with}
use Rattle.mk_build.specs.Multiparts.{multipart_of}
use Rattle.mk_c.specs.Desks.{Desk, Drafted}
use Rattle.mk_c.proofs.editor.Editor.build.Goals as goal

pub returns : goal.returns
returns c =
    let m = multipart_of c.args.multipart.now in
    let answer = c.in_ok-self-inside.field-0.items in
    let P : Drafted → Type 0 = λ d. (refusal_with d.fields d.parts d.messages m ≡ None) × (answer ≡ built_with c.args.eol d.fields d.parts d.messages m) in
    let built = subst P (ap (λ (d : Desk). d.draft) c.self.view_is) c.in_ok-self-inside.ensures.text in
    (built.0, λ i. record { history = (c.self.view_is i).history; pending = (c.self.view_is i).pending; answer = built.1 i; mail = (c.self.view_is i).mail; draft = c.new.ensures i })
