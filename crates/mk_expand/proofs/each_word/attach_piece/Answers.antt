use Rattle.std.proofs.Common.{◌≡◌, List, ℕ, Ok, IfErr, IfOk, subst}
use Rattle.mk_tree.specs.Documents.{tree}
use Rattle.mk_tree.specs.Sections.{section_at}
use Rattle.mk_build.specs.Building.{named_in_utf8}
use Rattle.mk_pack.specs.Parts.{attached_file}
use Rattle.mk_expand.specs.Views.{pieces_of, plain_edits, IsFault}
use Rattle.mk_expand.specs.Words.{attach_file, attached_bytes}
use Rattle.mk_expand.proofs.each_word.attach_piece.Goals as goal

pub returns-clause-edits : goal.returns-clause-edits
returns-clause-edits c =
    let P : List ℕ → List ℕ → Type 0 = λ path bytes. IfOk c.attach_to.result (λ edits. attach_file c.args.eol path (named_in_utf8 (attached_file (record { media = c.args.media.now; path = c.args.name.now }) bytes)) (section_at path (tree c.args.doc.now)) ≡ Ok (plain_edits edits.items)) in
    let bytes = attached_bytes (pieces_of c.args.pieces) c.args.eol c.args.media.now c.args.piece in
    subst (λ (path : List ℕ). P path bytes) c.in_ok-path.ensures.items (subst (P c.in_ok-path.path.items) c.in_ok-text.ensures c.attach_to.ensures.edits)

pub returns-clause-fault : goal.returns-clause-fault
returns-clause-fault c =
    let P : List ℕ → List ℕ → Type 0 = λ path bytes. IfErr c.attach_to.result (λ error. IsFault error (attach_file c.args.eol path (named_in_utf8 (attached_file (record { media = c.args.media.now; path = c.args.name.now }) bytes)) (section_at path (tree c.args.doc.now)))) in
    let bytes = attached_bytes (pieces_of c.args.pieces) c.args.eol c.args.media.now c.args.piece in
    subst (λ (path : List ℕ). P path bytes) c.in_ok-path.ensures.items (subst (P c.in_ok-path.path.items) c.in_ok-text.ensures c.attach_to.ensures.fault)
