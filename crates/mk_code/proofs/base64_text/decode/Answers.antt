use Rattle.std.proofs.Common.{[], List, ℕ, ap, sym, subst}
use Rattle.std.specs.List.{filter}
use Rattle.mk_code.specs.Base64Text.{IsBase64Of, is_letter}
use Rattle.mk_code.specs.inner.Decoded.{HasDecoded, EncodesNone}
use Rattle.mk_code.proofs.Base64Blocks.{block_gathered, block_decoded, all_decoded, refused_groups, refused_end, not_begun, cut_in_two, emptied}
use Rattle.mk_code.proofs.base64_text.decode.Goals as goal

pub each-init : goal.each-init
each-init c = not_begun c.args.text.now c.make_room.new.memory.items c.in_ok-found.found.items c.before_equals-rest.result.now c.in_ok-make_room.ensures c.in_ok-found.ensures.items (ap (filter is_letter) c.before_equals-rest.ensures)

pub returns-in-Err-clause-refused : goal.returns-in-Err-clause-refused
returns-in-Err-clause-refused c =
    refused_groups c.args.text.now c.each.out.items c.gather.new.out.items _ c.in-Err.error
    (block_gathered c.args.text.now c.each.out.items c.each.found.items c.gather.new.out.items c.each.rest.now c.split_at.result.0.now c.split_at.result.1.now c.each.invariant (cut_in_two c.each.rest.now c.split_at.result.0.now c.split_at.result.1.now _ c.split_at.ensures.front c.split_at.ensures.back) c.in_ok-gather.ensures) c.in-Err.ensures.err

pub each-preserved : goal.each-preserved
each-preserved c =
    block_decoded c.args.text.now c.each.out.items c.decode_groups.new.out.items c.gather.new.out.items c.decode_groups.new.found.items _
    (block_gathered c.args.text.now c.each.out.items c.each.found.items c.gather.new.out.items c.each.rest.now c.split_at.result.0.now c.split_at.result.1.now c.each.invariant (cut_in_two c.each.rest.now c.split_at.result.0.now c.split_at.result.1.now _ c.split_at.ensures.front c.split_at.ensures.back) c.in_ok-gather.ensures) c.in-Ok.ensures.ok c.in-Ok.ensures.whole

pub returns-in-Ok-push_decoded-clause-content : goal.returns-in-Ok-push_decoded-clause-content
returns-in-Ok-push_decoded-clause-content c =
    let P : List ℕ → Type 0 = λ xs. HasDecoded c.each.out.items xs c.push_decoded.new.out.items [] in
    let Q : List ℕ → Type 0 = λ xs. IsBase64Of c.args.text.now xs in
    subst Q (sym c.give_back.ensures)
    (all_decoded c.args.text.now c.each.out.items c.push_decoded.new.out.items c.each.found.items c.each.rest.now c.each.invariant (emptied c.each.rest.now c.is_empty.result c.is_empty.ensures c.each-test.false) (subst P c.deref.ensures.value c.in-Ok-push_decoded.ensures.ok))

pub returns-clause-refused : goal.returns-clause-refused
returns-clause-refused c =
    let P : List ℕ → Type 0 = λ xs. EncodesNone xs c.in-Err-push_decoded.error in
    refused_end c.args.text.now c.each.out.items c.each.found.items c.each.rest.now c.in-Err-push_decoded.error c.each.invariant (emptied c.each.rest.now c.is_empty.result c.is_empty.ensures c.each-test.false) (subst P c.deref.ensures.value c.in-Err-push_decoded.ensures.err)
