use Rattle.std.proofs.Common.{◌≡◌, ◌∙◌, ◌++◌, ◌∷◌, [], None, Some, ap, append-nil, sym, take}
use Rattle.std.specs.Option.{option_map}
use Rattle.mk_head.specs.Values.{Plain}
use Rattle.mk_wording.specs.Lists.{ends_of, worded_entries}
use Rattle.mk_wording.specs.Scanned.{before_mark, entries, from_mark}
use Rattle.mk_wording.specs.Stretches.{part_before}
use Rattle.mk_wording.proofs.Entries.{entries_after, entries_found, list_told, no_byte}
use Rattle.mk_wording.proofs.Parts.{part_fails, part_last, part_more}
use Rattle.mk_wording.proofs.lists.worded_list.Goals as goal

pub returns-in-None : goal.returns-in-None
returns-in-None c =
    let rest = c.entries.rest.now in
    let text = c.split_at.result.0.now in
    let end = c.split_at.result.1.now in
    let ends = ends_of c.args.kind in
    let marks = c.ends.ensures in
    part_fails c.entries.worded.items (take 1 end) (worded_entries c.args.kind c.args.eol (entries_after ends end)) _
    (ap (option_map (λ more. c.entries.worded.items ++ more))
    (sym (list_told c.args.kind c.args.eol rest text end None
    (entries_found ends rest text end (c.split_at.ensures.front ∙ (sym c.mark_place.ensures.front ∙ ap (λ m. before_mark m Plain rest) marks)) (c.split_at.ensures.back ∙ (sym c.mark_place.ensures.rest ∙ ap (λ m. from_mark m Plain rest) marks)))
    (rw c.in-None.is at c.in_ok-entry.ensures)))
    ∙ c.entries.invariant)

pub returns-in-None-split_first : goal.returns-in-None-split_first
returns-in-None-split_first c =
    let rest = c.entries.rest.now in
    let text = c.split_at.result.0.now in
    let end = c.split_at.result.1.now in
    let entry = c.in-Some.entry.items in
    let ends = ends_of c.args.kind in
    let marks = c.ends.ensures in
    let none : end ≡ [] = no_byte end c.in-None-split_first.ensures.cases in
    let grown : c.extend_from_slice.new.self.items ≡ (c.entries.worded.items ++ entry) ++ [] =
    c.in_ok-extend_from_slice-in-Some.ensures.items ∙ (ap (λ xs. c.entries.worded.items ++ xs) c.deref.ensures.value ∙ sym (append-nil (c.entries.worded.items ++ entry))) in
    ap Some grown
    ∙ part_last c.entries.worded.items entry [] _
    (ap (λ e. option_map (λ more. c.entries.worded.items ++ more) (part_before (take 1 e) (Some entry) (worded_entries c.args.kind c.args.eol (entries_after ends e)))) (sym none)
    ∙ (ap (option_map (λ more. c.entries.worded.items ++ more))
    (sym (list_told c.args.kind c.args.eol rest text end (Some entry)
    (entries_found ends rest text end (c.split_at.ensures.front ∙ (sym c.mark_place.ensures.front ∙ ap (λ m. before_mark m Plain rest) marks)) (c.split_at.ensures.back ∙ (sym c.mark_place.ensures.rest ∙ ap (λ m. from_mark m Plain rest) marks)))
    (rw c.in-Some.is at c.in_ok-entry.ensures)))
    ∙ c.entries.invariant))

pub entries-preserved : goal.entries-preserved
entries-preserved c =
    let rest = c.entries.rest.now in
    let text = c.split_at.result.0.now in
    let end = c.split_at.result.1.now in
    let entry = c.in-Some.entry.items in
    let more = c.in-Some-split_first.more.now in
    let last = c.in-Some-split_first.end.now in
    let ends = ends_of c.args.kind in
    let marks = c.ends.ensures in
    let split : end ≡ last ∷ more = c.in-Some-split_first.ensures.cases.0 in
    let grown : c.push.new.self.items ≡ (c.entries.worded.items ++ entry) ++ last ∷ [] =
    c.in_ok-push-in-Some-split_first.ensures.items ∙ ap (λ xs. xs ++ last ∷ []) (c.in_ok-extend_from_slice-in-Some.ensures.items ∙ ap (λ xs. c.entries.worded.items ++ xs) c.deref.ensures.value) in
    ap (λ xs. option_map (λ bytes. xs ++ bytes) (worded_entries c.args.kind c.args.eol (entries ends Plain more))) grown
    ∙ part_more c.entries.worded.items entry (last ∷ []) (worded_entries c.args.kind c.args.eol (entries ends Plain more)) _
    (ap (λ e. option_map (λ more. c.entries.worded.items ++ more) (part_before (take 1 e) (Some entry) (worded_entries c.args.kind c.args.eol (entries_after ends e)))) (sym split)
    ∙ (ap (option_map (λ more. c.entries.worded.items ++ more))
    (sym (list_told c.args.kind c.args.eol rest text end (Some entry)
    (entries_found ends rest text end (c.split_at.ensures.front ∙ (sym c.mark_place.ensures.front ∙ ap (λ m. before_mark m Plain rest) marks)) (c.split_at.ensures.back ∙ (sym c.mark_place.ensures.rest ∙ ap (λ m. from_mark m Plain rest) marks)))
    (rw c.in-Some.is at c.in_ok-entry.ensures)))
    ∙ c.entries.invariant))
