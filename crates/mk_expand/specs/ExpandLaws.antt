-- The laws of `content`, `encode`, `append`, `drop` and `put`.
use Rattle.mk_line.specs.Results.{made_of}
use Rattle.std.specs.Prelude.{Result, Ok, List, [], ◌∷◌}
use Rattle.mk_tree.specs.Documents.{Document}
use Rattle.mk_tree.specs.Tree.{Entity, leaf, message, multi}
use Rattle.mk_decide.specs.Edits.{PlainEdit, Refusal}
use Rattle.mk_decide.specs.Outcomes.{edited}

-- edits, each made in the document that the earlier ones gave
abbrev pub all_edited : List PlainEdit → Document → Result Document Refusal
all_edited [] t = Ok t
all_edited (e ∷ es) t = made_of (all_edited es) (edited e t)

-- a section is a multipart
abbrev pub IsMultipart : Entity → Type 0
IsMultipart (leaf h ls) = ⊥
IsMultipart (message h e) = ⊥
IsMultipart (multi h b pre ps t) = Unit {0}
