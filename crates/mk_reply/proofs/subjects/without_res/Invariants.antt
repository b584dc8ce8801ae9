use Rattle.std.proofs.Common.{◌≡◌, length}
use Rattle.std.specs.Char.{is_ascii_whitespace}
use Rattle.std.specs.List.{prefix_len}
use Rattle.mk_reply.specs.Replies.{after_res}
use Rattle.mk_reply.proofs.subjects.without_res.Given as goal

abbrev pub invariant-loop-rest : goal.invariant-loop-rest
invariant-loop-rest l = record {
  same : after_res 0 l.rest ≡ after_res 0 l.subject;
  trimmed : prefix_len is_ascii_whitespace l.rest ≡ 0;
}

abbrev pub decreases-loop-rest : goal.decreases-loop-rest
decreases-loop-rest l = length l.rest
