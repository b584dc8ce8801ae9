use Rattle.std.proofs.Common.{◌≡◌, Bool, [], None, IfErr, IfOk, map, subst}
use Rattle.mk_build.specs.BuildViews.{attached_of, written_in}
use Rattle.mk_build.specs.ForwardViews.{IsRefusedWith}
use Rattle.mk_build.specs.Forwards.{built_with, refusal_with}
use Rattle.mk_build.specs.Multiparts.{Multipart, multipart_of}
use Rattle.mk_build.proofs.building.build.Goals as goal

pub returns-clause-text : goal.returns-clause-text
returns-clause-text c =
    let eol = c.args.eol in
    let fields = map (λ f. f.items) c.args.fields.now in
    let parts = map attached_of c.args.parts.now in
    let named = subst (λ (utf8 : Bool). IfOk c.build_with.result (λ text. (refusal_with fields (map (written_in utf8) c.args.parts.now) [] (multipart_of c.mixed.result) ≡ None) × (text.items ≡ built_with eol fields (map (written_in utf8) c.args.parts.now) [] (multipart_of c.mixed.result)))) c.mixed.ensures.names c.build_with.ensures.text in
    subst (λ (m : Multipart). IfOk c.build_with.result (λ text. (refusal_with fields parts [] m ≡ None) × (text.items ≡ built_with eol fields parts [] m))) c.mixed.ensures.kind named

pub returns-clause-refused : goal.returns-clause-refused
returns-clause-refused c =
    let fields = map (λ f. f.items) c.args.fields.now in
    let parts = map attached_of c.args.parts.now in
    let named = subst (λ (utf8 : Bool). IfErr c.build_with.result (λ error. IsRefusedWith fields (map (written_in utf8) c.args.parts.now) [] (multipart_of c.mixed.result) error)) c.mixed.ensures.names c.build_with.ensures.refused in
    subst (λ (m : Multipart). IfErr c.build_with.result (λ error. IsRefusedWith fields parts [] m error)) c.mixed.ensures.kind named
