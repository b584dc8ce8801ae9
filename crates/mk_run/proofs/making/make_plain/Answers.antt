use Rattle.std.proofs.Common.{◌≡◌, ◌∙◌, ◌∷◌, ◌++◌, [], ap, sym, map, slice_index_or}
use Rattle.std.proofs.lemmas.List.{map-append, nil_from_length}
use Rattle.std.specs.Vec.Iter.{into_iter_items}
use Rattle.mk_line.specs.Lines.{cut, eol_of}
use Rattle.mk_tree.specs.Documents.{tree}
use Rattle.mk_decide.specs.Answers.{refusal_of}
use Rattle.mk_decide.specs.Views.{edit_of}
use Rattle.mk_expand.specs.Words.{meaning_of}
use Rattle.mk_expand.specs.Views.{pieces_of}
use Rattle.mk_script.specs.ScriptViews.{numbered, said_by}
use Rattle.mk_run.specs.inner.Making.{path_in}
use Rattle.mk_run.proofs.PlainWords.{all_edits, all_numbers, edits_in, numbers_in, numbers_next, plain_done, plain_is, plain_next, plain_parts, plain_refused}
use Rattle.mk_run.proofs.making.make_plain.Goals as goal

pub loop-number-preserved : goal.loop-number-preserved
loop-number-preserved c =
    let pieces = pieces_of c.args.pieces in
    let rest = map numbered (into_iter_items c.loop-number.number-iterator) in
    let later = map numbered (into_iter_items c.next.new.self) in
    let here : rest ≡ (c.in-Some.number, said_by c.in-Some.word) ∷ later = ap (map numbered) c.in-Some.ensures.steps.0 ∙ (λ i. (c.in-Some.number-is i, said_by (c.in-Some.word-is i)) ∷ later) in
    let parts = plain_parts rest later c.in-Some.number (said_by c.in-Some.word) c.loop-number.invariant.plain here in
    let all = map numbered c.args.words.items in
    record {
      plain = parts.1;
      edits = plain_next pieces c.eol_of-eol.result rest later c.in-Some.number (said_by c.in-Some.word) (map edit_of c.loop-number.edits.items) (map edit_of c.push.new.self.items) (edits_in pieces c.eol_of-eol.result all) (edit_of c.in_ok-plain_edit.field-0)
          here c.loop-number.invariant.edits (ap (map edit_of) c.in_ok-push.ensures.items ∙ map-append edit_of c.loop-number.edits.items (c.in_ok-plain_edit.field-0 ∷ []))
          (plain_is pieces c.eol_of-eol.result (tree c.doc.result.now) (said_by c.in-Some.word) (edit_of c.in_ok-plain_edit.field-0) parts.0 (ap (λ w. meaning_of pieces c.eol_of-eol.result (tree c.doc.result.now) (said_by w)) (sym c.in-Some.word-is) ∙ c.in_ok-plain_edit.ensures));
      numbers = numbers_next rest later c.in-Some.number (said_by c.in-Some.word) c.loop-number.numbers.items c.push-in-loop-number.new.self.items (numbers_in all) here c.loop-number.invariant.numbers (c.in_ok-push-2.ensures.items ∙ ap (λ k. c.loop-number.numbers.items ++ k ∷ []) c.in-Some.number-is);
    }

pub returns-in-Ok : goal.returns-in-Ok
returns-in-Ok c =
    let pieces = pieces_of c.args.pieces in
    let rest = map numbered (into_iter_items c.loop-number.number-iterator) in
    let all = map numbered c.args.words.items in
    let is : map edit_of c.deref.result.now ≡ edits_in pieces c.eol_of-eol.result all =
    ap (map edit_of) c.deref.ensures.value ∙ all_edits pieces c.eol_of-eol.result rest (map edit_of c.loop-number.edits.items) (edits_in pieces c.eol_of-eol.result all) c.loop-number.invariant.edits (ap (map numbered) (nil_from_length (into_iter_items c.loop-number.number-iterator) (sym c.loop-number.number-iterator.rest.ok.0 ∙ c.in-None.ensures.steps.0))) in
    plain_done pieces c.eol_of-eol.result all (map edit_of c.deref.result.now) c.args.session.now c.make_edits.new.session c.requires (c.eol_of-eol.ensures ∙ ap (λ x. eol_of (cut x)) c.text.ensures.now) is c.in-Ok.ensures

pub returns : goal.returns
returns c =
    let pieces = pieces_of c.args.pieces in
    let rest = map numbered (into_iter_items c.loop-number.number-iterator) in
    let all = map numbered c.args.words.items in
    let none : rest ≡ [] = ap (map numbered) (nil_from_length (into_iter_items c.loop-number.number-iterator) (sym c.loop-number.number-iterator.rest.ok.0 ∙ c.in-None.ensures.steps.0)) in
    let is : map edit_of c.deref.result.now ≡ edits_in pieces c.eol_of-eol.result all =
    ap (map edit_of) c.deref.ensures.value ∙ all_edits pieces c.eol_of-eol.result rest (map edit_of c.loop-number.edits.items) (edits_in pieces c.eol_of-eol.result all) c.loop-number.invariant.edits none in (
      c.in-Err.ensures.0,
      plain_refused pieces c.eol_of-eol.result all (map edit_of c.deref.result.now) c.args.session.now (refusal_of c.in-Err.reason) c.number_at-number.result c.in-Err.index c.in_ok-path-in-Err.path.items
          c.requires (c.eol_of-eol.ensures ∙ ap (λ x. eol_of (cut x)) c.text.ensures.now) is
          (c.number_at-number.ensures ∙ ap (λ ns. slice_index_or ns c.in-Err.index 0) (c.deref-in-Err.ensures.value ∙ all_numbers rest c.loop-number.numbers.items (numbers_in all) c.loop-number.invariant.numbers none))
          (c.in_ok-path-in-Err.ensures.items ∙ (c.path_at.ensures ∙ ap (λ xs. path_in (map edit_of xs) c.in-Err.index) (c.deref-in-Err-2.ensures.value ∙ sym c.deref.ensures.value)))
          c.in-Err.ensures.1,
    )
