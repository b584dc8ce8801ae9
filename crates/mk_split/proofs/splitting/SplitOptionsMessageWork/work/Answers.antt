use Rattle.std.proofs.Common.{◌∙◌, ap, inl, inr}
use Rattle.std.proofs.lemmas.Result.{err_from_is_err_and}
use Rattle.mk_show.specs.Unpacking.{exists_line}
use Rattle.mk_split.specs.Splitting.{put_line}
use Rattle.mk_split.proofs.SplitLemmas.{put_not, put_well, says_so}
use Rattle.mk_split.proofs.splitting.SplitOptionsMessageWork.work.Goals as goal
use Rattle.mk_split.proofs.splitting.SplitOptionsMessageWork.work.Goals.{then-branch, else-branch+in_ok-answer}

pub returns-in_err-answer-clause-stopped : goal.returns-in_err-answer-clause-stopped
returns-in_err-answer-clause-stopped g c =
    let o = c.args.self.now in
    let from = err_from_is_err_and c.from_residual-in_err-answer.result c.from_residual-in_err-answer.ensures.1 in
    let put = rw c.if-branch.false at c.in_ok-put.ensures.files in
    rw from.1 (c.requires, inl (put_not o c.args.number c.args.message.items c.deref-2.result.now c.of.result c.deref-3.result.now _ _ (c.deref-2.ensures.value ∙ c.in_ok-name.ensures.named) c.of.ensures (c.deref-3.ensures.value ∙ c.in_ok-text.ensures) put).same)

pub returns-clause-done : goal.returns-clause-done
returns-clause-done g c =
    let o = c.args.self.now in
    let name = c.deref-2.ensures.value ∙ c.in_ok-name.ensures.named in
    let text = c.deref-3.ensures.value ∙ c.in_ok-text.ensures in
    elim c.if-branch.branch [
      | then-branch w ↦
          let put = rw w.if-branch.true at c.in_ok-put.ensures.files in
          rw w.answer-is
          (says_so o c.args.number c.args.message.items _ _ _ _ _ (c.in_ok-line.ensures ∙ ap (put_line o.silent) (c.deref.ensures.value ∙ c.in_ok-name.ensures.named)) (ap (λ s. s.errors) c.requires)
          (put_well o c.args.number c.args.message.items c.deref-2.result.now c.of.result c.deref-3.result.now _ _ name c.of.ensures text put))
      | else-branch+in_ok-answer w ↦
          let put = rw w.if-branch.false at c.in_ok-put.ensures.files in
          rw w.answer-is
          (says_so o c.args.number c.args.message.items _ _ _ _ _ (ap (λ s. s.output) c.requires) (w.in_ok-answer.ensures ∙ ap exists_line (w.deref-else-branch.ensures.value ∙ c.in_ok-name.ensures.named))
          (inr (put_not o c.args.number c.args.message.items c.deref-2.result.now c.of.result c.deref-3.result.now _ _ name c.of.ensures text put)))
    ]
