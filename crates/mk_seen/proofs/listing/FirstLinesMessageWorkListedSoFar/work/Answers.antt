use Rattle.std.proofs.Common.{◌≡◌, ◌∙◌, not, ap, sym, arith}
use Rattle.mk_transfer.specs.Said.{Said}
use Rattle.mk_seen.specs.SeenIds.{is_repeated, seen_after}
use Rattle.mk_seen.proofs.NewLines.{listed_first, listed_repeated, said_line}
use Rattle.mk_seen.proofs.listing.FirstLinesMessageWorkListedSoFar.work.Goals as goal
use Rattle.mk_seen.proofs.listing.FirstLinesMessageWorkListedSoFar.work.Goals.{then-branch+in_ok-answer, else-branch}

pub returns-clause-done : goal.returns-clause-done
returns-clause-done g c =
    let seen = c.args.device.now.seen in
    let message = c.args.message.items in
    let line = g.L.MessageLine.text c.args.self.now.lines c.args.number c.args.device.now.start message in
    let first : c.in_ok-see_message.field-0 ≡ not (is_repeated seen message) = c.in_ok-see_message.ensures.first ∙ ap (λ m. not (is_repeated seen m)) c.deref.ensures.value in
    let silent = ap (λ (s : Said). s.errors) c.requires in (
      elim c.if-branch.branch [
        | then-branch+in_ok-answer w ↦ rw w.answer-is (said_line _ _ _ silent (listed_first seen message line c.in_ok-see_message.field-0 first w.if-branch.true ∙ sym w.in_ok-answer.ensures))
        | else-branch w ↦ rw w.answer-is (said_line _ _ _ silent (listed_repeated seen message line c.in_ok-see_message.field-0 first w.if-branch.false ∙ sym (ap (λ (s : Said). s.output) c.requires)))
      ],
      c.in_ok-see_message.ensures.seen ∙ ap (seen_after seen) c.deref.ensures.value,
      omega (arith, c.in-Some.ensures, c.len.ensures),
    )
