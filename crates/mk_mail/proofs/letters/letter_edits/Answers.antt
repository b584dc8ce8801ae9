use Rattle.std.proofs.Common.{◌≡◌, ◌++◌, ◌∙◌, [], IfOk, ap, drop, map, subst}
use Rattle.std.specs.Option.{option_map_or}
use Rattle.mk_decide.specs.Edits.{RemoveField}
use Rattle.mk_decide.specs.Views.{edit_of}
use Rattle.mk_mail.specs.LetterViews.{letters_of, pattern_of}
use Rattle.mk_mail.specs.LetterWork.{work_of}
use Rattle.mk_mail.specs.Letters.{Work, add_if_letter, added, dropped, first_letter, letter, names_at, removal_of, only_letter, prefixed_letter, rename_letter, then_do, those, worked}
use Rattle.mk_mail.proofs.letters.letter_edits.Goals as goal

pub returns : goal.returns
returns c =
    let path = c.args.path.now in
    let eol = c.args.eol in
    let l = letters_of c.args.letters.now in
    let names = names_at path c.args.doc.now in
    let begun : work_of c.drop_fields.new.self ≡ dropped path (removal_of l) names =
    c.in_ok-drop_fields.ensures ∙ (λ i. then_do (c.in_ok-filter.ensures i) (dropped path (record { drops = map pattern_of (c.deref.ensures.value i); keeps = map pattern_of (c.deref-2.ensures.value i); only = l.keep_only }))) in
    let done : work_of c.keep_first.new.filter ≡ worked path eol l names =
    c.in_ok-keep_first.ensures ∙ ap (letter (first_letter path) l.first)
    (c.in_ok-replace.ensures ∙ ap (letter (only_letter path eol) l.only)
    (c.in_ok-prefix.ensures ∙ ap (letter (prefixed_letter path eol) l.prefixed)
    (c.in_ok-add.ensures ∙ ap (letter (added path eol) l.add)
    (c.in_ok-add_if.ensures ∙ ap (letter (add_if_letter path eol) l.add_if)
    (c.in_ok-rename.ensures ∙ ap (letter (rename_letter path) l.rename) begun))))) in
    subst (λ (w : Work). IfOk c.into_edits.result (λ edits. map edit_of edits.items ≡ w.edits ++ option_map_or (λ name. map (λ own. RemoveField path name 1) (drop 1 (those name w.names))) l.last [])) done c.into_edits.ensures
