use Rattle.std.proofs.Common.{◌≡◌, ◌∙◌, List, Ok, ℕ, IfErr, IfOk, ap, sym, subst}
use Rattle.mk_tree.specs.Documents.{tree}
use Rattle.mk_tree.specs.Sections.{section_at}
use Rattle.mk_script.specs.ScriptViews.{said_by}
use Rattle.mk_expand.specs.Meanings.{Meaning}
use Rattle.mk_expand.specs.Views.{pieces_of, plain_edits, IsFault}
use Rattle.mk_expand.specs.Words.{attach_file, meaning_of, script_file}
use Rattle.mk_expand.proofs.words.edits_for.Goals as goal

pub returns-in-Attach-clause-edits : goal.returns-in-Attach-clause-edits
returns-in-Attach-clause-edits c =
    let eol = c.args.eol in
    let t = tree c.args.doc.now in
    let pieces = pieces_of c.args.pieces in
    let M : List ℕ → List ℕ → List ℕ → Meaning = λ path media name. attach_file eol path (script_file pieces eol media name c.in-Attach.piece) (section_at path t) in
    subst (λ (m : Meaning). IfOk c.attach_piece.result (λ edits. m ≡ Ok (plain_edits edits.items)))
    ((λ i. M (c.deref-in-Attach.ensures.value i) (c.deref-in-Attach-2.ensures.value i) (c.deref-in-Attach-3.ensures.value i)) ∙ sym (ap (meaning_of pieces eol t) (ap said_by c.in-Attach.is)))
    c.attach_piece.ensures.edits

pub returns-in-Attach-clause-fault : goal.returns-in-Attach-clause-fault
returns-in-Attach-clause-fault c =
    let eol = c.args.eol in
    let t = tree c.args.doc.now in
    let pieces = pieces_of c.args.pieces in
    let M : List ℕ → List ℕ → List ℕ → Meaning = λ path media name. attach_file eol path (script_file pieces eol media name c.in-Attach.piece) (section_at path t) in
    subst (λ m. IfErr c.attach_piece.result (λ error. IsFault error m))
    ((λ i. M (c.deref-in-Attach.ensures.value i) (c.deref-in-Attach-2.ensures.value i) (c.deref-in-Attach-3.ensures.value i)) ∙ sym (ap (meaning_of pieces eol t) (ap said_by c.in-Attach.is)))
    c.attach_piece.ensures.fault
