use Rattle.std.proofs.Common.{◌*◌, ◌/◌, ◌∙◌, ap, length, sym, take}
use Rattle.mk_code.proofs.Base64Blocks.{groups_thirds, ungrouped}
use Rattle.mk_code.proofs.base64_text.decode_groups.Goals as goal

pub returns-clause-whole : goal.returns-clause-whole
returns-clause-whole c =
    groups_thirds c.args.out.now.items c.args.found.now.items (take (c.len.result / 4 * 4) c.deref.result.now) c.push_decoded.new.out.items (c.len.result / 4 * 4) c.requires
    (ap (λ n. n / 4 * 4) (c.len.ensures ∙ (sym c.deref.ensures.len ∙ ap length c.deref.ensures.value))) (ap (take (c.len.result / 4 * 4)) c.deref.ensures.value) c.in_default.ensures.ok

pub returns-in-Err-clause-err : goal.returns-in-Err-clause-err
returns-in-Err-clause-err c =
    ungrouped c.args.found.now.items (take (c.len.result / 4 * 4) c.deref.result.now) (c.len.result / 4 * 4) c.in-Err.error
    (ap (λ n. n / 4 * 4) (c.len.ensures ∙ (sym c.deref.ensures.len ∙ ap length c.deref.ensures.value))) (ap (take (c.len.result / 4 * 4)) c.deref.ensures.value) c.in-Err.ensures.err
