use Rattle.std.proofs.Common.{◌≡◌, ◌∙◌, ◌++◌, false, ap, sym}
use Rattle.mk_wording.specs.AddressLists.{in_literal, is_list_mark, scan_beyond}
use Rattle.mk_wording.specs.declared.address_lists.Reader.{Reader}
use Rattle.mk_wording.specs.inner.ReaderViews.{begun_of}
use Rattle.mk_wording.specs.inner.ScanViews.{scan_of}
use Rattle.mk_wording.proofs.AddressPieces.{read_gap, read_sign}
use Rattle.mk_wording.proofs.address_lists.Reader.read.Goals as goal
use Rattle.mk_wording.proofs.address_lists.Reader.read.Goals.{then-is_gap, else-is_gap+in_ok-push}

pub returns-clause-lines : goal.returns-clause-lines
returns-clause-lines c = λ bytes.
    let r = c.args.self.now in
    let byte = c.args.byte in
    let no_mark : false ≡ is_list_mark r.in_literal (scan_of r.scan) byte = sym c.if-is_mark.false ∙ c.is_mark.ensures in
    elim c.if-is_gap.branch [
      | then-is_gap w ↦ ap (λ l. c.args.text.now.items ++ l) (read_gap (begun_of r) _ r.apart _ r.in_literal _ (scan_of r.scan) _ byte bytes
          no_mark (sym w.if-is_gap.true ∙ c.is_gap.ensures)
          (c.go_past.ensures.begun ∙ ap begun_of w.self-is) (c.go_past.ensures.apart ∙ ap (λ (q : Reader). q.apart) w.self-is)
          (c.go_past.ensures.literal ∙ ap (λ (q : Reader). in_literal q.in_literal (scan_of q.scan) byte) w.self-is)
          (c.go_past.ensures.scan ∙ ap (λ (q : Reader). scan_beyond q.in_literal (scan_of q.scan) byte) w.self-is))
      | else-is_gap+in_ok-push w ↦ ap (λ l. c.args.text.now.items ++ l) (read_sign (begun_of r) _ r.apart _ r.in_literal _ (scan_of r.scan) _ byte bytes
          no_mark (sym w.if-is_gap.false ∙ c.is_gap.ensures)
          (c.go_past.ensures.begun ∙ (ap begun_of w.self-is ∙ w.in_ok-push.ensures.begun)) (c.go_past.ensures.apart ∙ (ap (λ (q : Reader). q.apart) w.self-is ∙ w.in_ok-push.ensures.apart))
          (c.go_past.ensures.literal ∙ (ap (λ (q : Reader). in_literal q.in_literal (scan_of q.scan) byte) w.self-is ∙ (ap (λ l. in_literal l (scan_of w.push.new.self.scan) byte) w.in_ok-push.ensures.literal ∙ ap (λ s. in_literal r.in_literal (scan_of s) byte) w.in_ok-push.ensures.scan)))
          (c.go_past.ensures.scan ∙ (ap (λ (q : Reader). scan_beyond q.in_literal (scan_of q.scan) byte) w.self-is ∙ (ap (λ l. scan_beyond l (scan_of w.push.new.self.scan) byte) w.in_ok-push.ensures.literal ∙ ap (λ s. scan_beyond r.in_literal (scan_of s) byte) w.in_ok-push.ensures.scan))))
    ]
