use Rattle.std.proofs.Common.{◌≡◌, IfOk, ap, map, subst, ◌∙◌}
use Rattle.mk_build.specs.BuildViews.{attached_of, written_in}
use Rattle.mk_build.specs.ForwardViews.{forwarded_of}
use Rattle.mk_pack.specs.Packing.{manner_of}
use Rattle.mk_pack.specs.inner.Judged.{run_of_judged}
use Rattle.mk_pack.specs.inner.PackedFrom.{packed_from}
use Rattle.mk_pack.proofs.packing.message.Goals as goal

pub returns : goal.returns
returns c =
    let files = map attached_of c.args.parts.now in
    let parts = map (written_in c.args.options.utf8_names) c.args.parts.now in
    let messages = map forwarded_of c.args.messages.now in
    subst (λ run. IfOk c.message_of.result (λ judged. run_of_judged judged ≡ run))
    (λ i. packed_from (manner_of c.args.options) (c.eol_of.ensures i) ((ap (map (λ f. f.items)) c.deref.ensures.value ∙ c.in_ok-fields.ensures) i) files parts messages)
    c.message_of.ensures
