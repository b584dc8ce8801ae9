use Rattle.std.proofs.Common.{◌≡◌, ◌++◌, codes, decimal}
use Rattle.mk_decide.specs.Answers.{refusal_of}
use Rattle.mk_report.proofs.Lines.{report_joined}
use Rattle.mk_report.proofs.refusals.message_line.Goals as goal

pub returns : goal.returns
returns c =
    let front : c.into_bytes-line.result.items ≡ codes "message " ++ (decimal c.args.number ++ (codes ": " ++ c.refusal_name-name.result.now)) = cc (c.into_bytes-line.ensures.value, c.in_ok-format.ensures.ok) in
    rw c.in_ok-push.ensures.items
    (report_joined (codes "message ") (refusal_of c.args.reason) c.args.path.now c.refusal_name-name.result.now c.into_bytes-line.result.items c.push_place.new.line.items c.args.number front c.refusal_name-name.ensures c.in_ok-push_place.ensures)
