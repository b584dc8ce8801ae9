use Rattle.std.proofs.Common.{◌≡◌, ◌||◌, ◌∙◌, Bool, not, ap, sym}
use Rattle.std.proofs.lemmas.Result.{err_from_is_err_and}
use Rattle.mk_line.specs.Lines.{is_nil}
use Rattle.mk_mailbox.proofs.LinesGathered.{nil_is}
use Rattle.mk_show.proofs.UnpackLemmas.{UnpackedAll-after, UnpackedSome-after, UnpackedSome-before}
use Rattle.mk_show.proofs.unpacking.unpack_after.Goals as goal

pub returns-in_err-send-clause-some : goal.returns-in_err-send-clause-some
returns-in_err-send-clause-some g c =
    let from = err_from_is_err_and c.from_residual.result c.from_residual.ensures.1 in
    rw from.1 (λ t here. UnpackedSome-before c.args.lines.now c.args.options.manner t _ _ _ _ _ c.in_err-send.ensures.sends.front)

pub returns-in_err-refused-clause-some : goal.returns-in_err-refused-clause-some
returns-in_err-refused-clause-some g c =
    let from = err_from_is_err_and c.from_residual-in_err-refused.result c.from_residual-in_err-refused.ensures.1 in
    rw from.1 (λ t here. UnpackedSome-after c.args.lines.now c.args.options.manner t _ _ _ _ _ _ _ _ c.in_ok-send.ensures.sends.whole (c.in_err-refused.ensures.some t here))

pub returns-then-not-is_empty-clause-all : goal.returns-then-not-is_empty-clause-all
returns-then-not-is_empty-clause-all g c =
    let empty : c.is_empty.result ≡ is_nil c.args.lines.now = c.is_empty.ensures ∙ nil_is c.args.lines.now in
    let told = sym empty ∙ c.if-not-is_empty.true in
    λ t here. UnpackedAll-after c.args.lines.now c.args.options.manner t _ c.in_ok-refused.refused _ _ _ _ _ _ _ _ c.in_ok-send.ensures.sends.whole (c.in_ok-refused.ensures.all t here)
    (ap not c.if-not-is_empty.true ∙ sym (ap (λ (b : Bool). not b || c.in_ok-refused.refused) told))

pub returns-else-not-is_empty-clause-all : goal.returns-else-not-is_empty-clause-all
returns-else-not-is_empty-clause-all g c =
    let empty : c.is_empty.result ≡ is_nil c.args.lines.now = c.is_empty.ensures ∙ nil_is c.args.lines.now in
    let told = sym empty ∙ c.if-not-is_empty.false in
    λ t here. UnpackedAll-after c.args.lines.now c.args.options.manner t _ c.in_ok-refused.refused _ _ _ _ _ _ _ _ c.in_ok-send.ensures.sends.whole (c.in_ok-refused.ensures.all t here)
    (sym (ap (λ (b : Bool). not b || c.in_ok-refused.refused) told))
