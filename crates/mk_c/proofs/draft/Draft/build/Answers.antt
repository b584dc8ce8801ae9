use Rattle.std.proofs.Common.{◌≡◌, None, IfErr, IfOk, subst}
use Rattle.mk_build.specs.ForwardViews.{IsRefusedWith}
use Rattle.mk_build.specs.Forwards.{built_with, refusal_with}
use Rattle.mk_build.specs.Multiparts.{multipart_of}
use Rattle.mk_c.specs.Desks.{Drafted}
use Rattle.mk_c.proofs.draft.Draft.build.Goals as goal

pub returns-clause-text : goal.returns-clause-text
returns-clause-text c =
    let m = multipart_of c.args.multipart.now in
    let P : Drafted → Type 0 = λ d. IfOk c.build_with.result (λ text. (refusal_with d.fields d.parts d.messages m ≡ None) × (text.items ≡ built_with c.args.eol d.fields d.parts d.messages m)) in
    subst P c.self.view_is (rw (c.deref.ensures.value, c.deref-2.ensures.value, c.deref-3.ensures.value) at c.build_with.ensures.text)

pub returns-clause-refused : goal.returns-clause-refused
returns-clause-refused c =
    let m = multipart_of c.args.multipart.now in
    let P : Drafted → Type 0 = λ d. IfErr c.build_with.result (λ error. IsRefusedWith d.fields d.parts d.messages m error) in
    subst P c.self.view_is (rw (c.deref.ensures.value, c.deref-2.ensures.value, c.deref-3.ensures.value) at c.build_with.ensures.refused)
