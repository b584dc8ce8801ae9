-- Groups: edits that are made one after another, all or none (own).
use Rattle.std.specs.Prelude.{◌+◌, ◌++◌, ℕ, Result, Ok, Err, List, [], ◌∷◌}
use Rattle.mk_tree.specs.Documents.{Document}
use Rattle.mk_decide.specs.Edits.{PlainEdit, Refusal}
use Rattle.mk_decide.specs.EditSplices.{splices_of}
use Rattle.mk_decide.specs.Outcomes.{edited}
use Rattle.mk_splice.specs.Splices.{Splice}

-- a document and the splices that led to it, or the number of the first refused edit, from 0 on, and the reason
abbrev pub Together : Type 0
Together = Result (Document × List Splice) (ℕ × Refusal)

-- what edits give, where so many were made before them, with these splices
abbrev pub following : ℕ → List Splice → Together → Together
following made splices (Ok p) = Ok (p.0, splices ++ p.1)
following made splices (Err q) = Err (made + q.0, q.1)

-- further edits are made in the document that an edit gave
abbrev pub made_on : List Splice → (Document → Together) → Result Document Refusal → Together
made_on splices others (Ok t) = following 1 splices (others t)
made_on splices others (Err e) = Err (0, e)

-- edits, each made in the document that the earlier ones gave
abbrev pub together : List PlainEdit → Document → Together
together [] t = Ok (t, [])
together (e ∷ es) t = made_on (splices_of e t) (together es) (edited e t)
