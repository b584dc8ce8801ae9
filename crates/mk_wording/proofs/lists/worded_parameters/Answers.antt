use Rattle.std.proofs.Common.{◌≡◌, ◌∙◌, ◌++◌, ◌∷◌, [], None, Some, ap, append-nil, append_assoc, sym, take}
use Rattle.mk_wording.specs.Lists.{ends_of, worded_entries}
use Rattle.mk_wording.specs.Stretches.{part_before}
use Rattle.mk_wording.specs.declared.lists.ListKind.TheVariants.{Parameters}
use Rattle.mk_wording.proofs.Entries.{entries_after, entries_found, no_byte, pieces_told}
use Rattle.mk_wording.proofs.Parts.{others_fail}
use Rattle.mk_wording.proofs.lists.worded_parameters.Goals as goal

pub returns-in_default : goal.returns-in_default
returns-in_default c =
    let end = c.split_at.result.1.now in
    sym (pieces_told c.args.eol c.args.value.now c.split_at.result.0.now end None
    (entries_found (ends_of Parameters) c.args.value.now c.split_at.result.0.now end (c.split_at.ensures.front ∙ sym c.mark_place.ensures.front) (c.split_at.ensures.back ∙ sym c.mark_place.ensures.rest))
    (rw c.in_default.is at c.in_ok-worded.ensures))

pub returns-in_default-split_first : goal.returns-in_default-split_first
returns-in_default-split_first c =
    let end = c.split_at.result.1.now in
    let worded = c.in-Some.worded.items in
    let none : end ≡ [] = no_byte end c.in_default-split_first.ensures.cases in
    ap Some (sym (append-nil worded))
    ∙ (ap (λ e. part_before (take 1 e) (Some worded) (worded_entries Parameters c.args.eol (entries_after (ends_of Parameters) e))) (sym none)
    ∙ sym (pieces_told c.args.eol c.args.value.now c.split_at.result.0.now end (Some worded)
    (entries_found (ends_of Parameters) c.args.value.now c.split_at.result.0.now end (c.split_at.ensures.front ∙ sym c.mark_place.ensures.front) (c.split_at.ensures.back ∙ sym c.mark_place.ensures.rest))
    (rw c.in-Some.is at c.in_ok-worded.ensures)))

pub returns-in_default-2 : goal.returns-in_default-2
returns-in_default-2 c =
    let end = c.split_at.result.1.now in
    let worded = c.in-Some.worded.items in
    let more = c.in-Some-split_first.more.now in
    let last = c.in-Some-split_first.end.now in
    let split : end ≡ last ∷ more = c.in-Some-split_first.ensures.cases.0 in
    others_fail (last ∷ []) (Some worded)
    ∙ (ap (part_before (last ∷ []) (Some worded)) (rw c.in_default-2.is at c.in_ok-parameters.ensures)
    ∙ (ap (λ e. part_before (take 1 e) (Some worded) (worded_entries Parameters c.args.eol (entries_after (ends_of Parameters) e))) (sym split)
    ∙ sym (pieces_told c.args.eol c.args.value.now c.split_at.result.0.now end (Some worded)
    (entries_found (ends_of Parameters) c.args.value.now c.split_at.result.0.now end (c.split_at.ensures.front ∙ sym c.mark_place.ensures.front) (c.split_at.ensures.back ∙ sym c.mark_place.ensures.rest))
    (rw c.in-Some.is at c.in_ok-worded.ensures))))

pub returns : goal.returns
returns c =
    let end = c.split_at.result.1.now in
    let worded = c.in-Some.worded.items in
    let others = c.in-Some-2.parameters.items in
    let more = c.in-Some-split_first.more.now in
    let last = c.in-Some-split_first.end.now in
    let split : end ≡ last ∷ more = c.in-Some-split_first.ensures.cases.0 in
    let grown : c.extend_from_slice.new.self.items ≡ worded ++ (last ∷ [] ++ others) =
    c.in_ok-extend_from_slice.ensures.items ∙ ((λ i. c.in_ok-push.ensures.items i ++ c.deref.ensures.value i) ∙ append_assoc worded (last ∷ []) others) in
    ap Some grown
    ∙ (ap (part_before (last ∷ []) (Some worded)) (rw c.in-Some-2.is at c.in_ok-parameters.ensures)
    ∙ (ap (λ e. part_before (take 1 e) (Some worded) (worded_entries Parameters c.args.eol (entries_after (ends_of Parameters) e))) (sym split)
    ∙ sym (pieces_told c.args.eol c.args.value.now c.split_at.result.0.now end (Some worded)
    (entries_found (ends_of Parameters) c.args.value.now c.split_at.result.0.now end (c.split_at.ensures.front ∙ sym c.mark_place.ensures.front) (c.split_at.ensures.back ∙ sym c.mark_place.ensures.rest))
    (rw c.in-Some.is at c.in_ok-worded.ensures))))
