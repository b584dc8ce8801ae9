use Rattle.std.proofs.Common.{◌∙◌, ap, drop, sym}
use Rattle.std.proofs.lemmas.Str.Ascii.{trim_ascii_start_is}
use Rattle.std.specs.Char.{is_ascii_whitespace}
use Rattle.std.specs.List.{prefix_len}
use Rattle.std.proofs.lemmas.List.{take_rest}
use Rattle.mk_reply.specs.Replies.{after_res}
use Rattle.mk_reply.specs.SpaceAround.{without_space_before}
use Rattle.mk_reply.proofs.SubjectStarts.{after_res-passed, after_res-unspaced, unspaced-once}
use Rattle.mk_reply.proofs.subjects.without_res.Goals as goal

pub loop-rest-init : goal.loop-rest-init
loop-rest-init c =
    let left = trim_ascii_start_is _ _ c.trim_ascii_start-rest.ensures.value in record {
      same = ap (after_res 0) left ∙ after_res-unspaced c.args.subject.now;
      trimmed = ap (prefix_len is_ascii_whitespace) left ∙ unspaced-once c.args.subject.now;
    }

pub loop-rest-preserved : goal.loop-rest-preserved
loop-rest-preserved c =
    let rest = c.loop-rest.rest.now in
    let left = trim_ascii_start_is _ _ c.trim_ascii_start-rest-in-loop-rest.ensures.value ∙ ap without_space_before (take_rest rest 3) in record {
      same = ap (after_res 0) left ∙ (after_res-unspaced (drop 3 rest) ∙ (after_res-passed rest (sym c.begins_re.ensures ∙ c.loop-rest-test.true) ∙ c.loop-rest.invariant.same));
      trimmed = ap (prefix_len is_ascii_whitespace) left ∙ unspaced-once (drop 3 rest);
    }
