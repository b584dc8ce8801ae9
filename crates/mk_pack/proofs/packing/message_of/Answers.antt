use Rattle.std.proofs.Common.{◌≡◌, Bool, IfOk, List, Option, ap, map, subst, sym, ℕ, ◌∙◌}
use Rattle.std.specs.Option.{option_map}
use Rattle.mk_build.specs.Forwards.{built_with, refusal_with}
use Rattle.mk_build.specs.ForwardViews.{forwarded_of}
use Rattle.mk_build.specs.Multiparts.{Multipart, multipart_of}
use Rattle.mk_build.specs.BuildViews.{attached_of, written_in}
use Rattle.mk_pack.specs.FreeBoundary.{free_boundary}
use Rattle.mk_pack.specs.Packing.{Manner, manner_of, multipart_with, told}
use Rattle.mk_pack.specs.inner.Judged.{run_of_judged}
use Rattle.mk_pack.specs.inner.PackedFrom.{packed_from}
use Rattle.mk_pack.proofs.packing.message_of.Goals as goal

-- a manner with another boundary
abbrev bound : Manner → Option (List ℕ) → Manner
bound m boundary = record { utf8_names = m.utf8_names; subtype = m.subtype; charset = m.charset; boundary = boundary; turned = m.turned }

pub returns-in-Some : goal.returns-in-Some
returns-in-Some c =
    let fields = map (λ f. f.items) c.args.fields.now in
    let files = map attached_of c.args.parts.now in
    let parts = map (written_in c.args.options.utf8_names) c.args.parts.now in
    let messages = map forwarded_of c.args.messages.now in
    let m = multipart_of c.multipart-multipart.result in
    let named = subst (λ (utf8 : Bool). IfOk c.judged.result (λ a. run_of_judged a ≡ told (built_with c.args.eol fields (map (written_in utf8) c.args.parts.now) messages m) (refusal_with fields (map (written_in utf8) c.args.parts.now) messages m)))
    c.multipart-multipart.ensures.names c.judged.ensures in
    let packed = subst (λ (k : Multipart). IfOk c.judged.result (λ a. run_of_judged a ≡ told (built_with c.args.eol fields parts messages k) (refusal_with fields parts messages k)))
    c.multipart-multipart.ensures.kind named in
    subst (λ (o : Option (List ℕ)). IfOk c.judged.result (λ a. run_of_judged a ≡ packed_from (bound (manner_of c.args.options) o) c.args.eol fields files parts messages)) (sym (ap (option_map (λ b. b.now)) c.in-Some.is)) packed

pub returns-in_ok-boundary-in-None : goal.returns-in_ok-boundary-in-None
returns-in_ok-boundary-in-None c =
    let fields = map (λ f. f.items) c.args.fields.now in
    let files = map attached_of c.args.parts.now in
    let parts = map (written_in c.args.options.utf8_names) c.args.parts.now in
    let messages = map forwarded_of c.args.messages.now in
    let manner = manner_of c.args.options in
    let m = multipart_with manner (free_boundary fields files messages) in
    let made : multipart_of c.multipart-multipart-in-None.result ≡ m =
    c.multipart-multipart-in-None.ensures.kind ∙ ap (multipart_with manner) (c.deref.ensures.value ∙ c.in_ok-boundary-in-None.ensures) in
    let k = multipart_of c.multipart-multipart-in-None.result in
    let named = subst (λ (utf8 : Bool). IfOk c.judged-in-None.result (λ a. run_of_judged a ≡ told (built_with c.args.eol fields (map (written_in utf8) c.args.parts.now) messages k) (refusal_with fields (map (written_in utf8) c.args.parts.now) messages k)))
    c.multipart-multipart-in-None.ensures.names c.judged-in-None.ensures in
    let packed = subst (λ (k : Multipart). IfOk c.judged-in-None.result (λ a. run_of_judged a ≡ told (built_with c.args.eol fields parts messages k) (refusal_with fields parts messages k)))
    made named in
    subst (λ (o : Option (List ℕ)). IfOk c.judged-in-None.result (λ a. run_of_judged a ≡ packed_from (bound manner o) c.args.eol fields files parts messages)) (sym (ap (option_map (λ b. b.now)) c.in-None.is)) packed
