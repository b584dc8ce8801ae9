-- Files that are attached as the last part.
use Rattle.std.proofs.Common.{◌≡◌, ℕ, List, Option, None, Ok, sym, ap, ◌∙◌}
use Rattle.mk_line.specs.declared.cutting.Ending.{Ending}
use Rattle.mk_tree.specs.Documents.{Document}
use Rattle.mk_tree.specs.Sections.{Placed, section_at}
use Rattle.mk_decide.specs.Edits.{PlainEdit}
use Rattle.mk_build.specs.Building.{Attached, attach_refusal}
use Rattle.mk_build.specs.Multiparts.{attached}
use Rattle.mk_script.specs.Script.{ScriptWord, Attaches}
use Rattle.mk_pack.specs.Parts.{attached_file}
use Rattle.mk_expand.specs.Appends.{made_part}
use Rattle.mk_expand.specs.Words.{append, attach_by, attach_file, attached_bytes, meaning_of}
use Rattle.mk_expand.specs.Pieces.{Pieces}

-- a file that may be attached is appended
pub attach_told : (eol : Ending) (path : List ℕ) (a b : Attached) (place : Option Placed) (text part : List ℕ) (edits : List PlainEdit) → b ≡ a → attach_refusal b ≡ None → text ≡ attached eol b → part ≡ made_part eol text place → edits ≡ append eol path part place
    → attach_file eol path a place ≡ Ok edits
attach_told eol path a b place text part edits same allowed is grown made =
    ap (λ x. attach_file eol path x place) (sym same)
    ∙ (ap (attach_by eol path b place) allowed
    ∙ (ap (λ t. Ok (append eol path (made_part eol t place) place)) (sym is) ∙ (ap (λ t. Ok (append eol path t place)) (sym grown) ∙ ap (λ es. Ok es) (sym made))))
