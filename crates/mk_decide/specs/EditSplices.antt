-- What an edit replaces in the text: a place, the old bytes there, and the new ones (own).
use Rattle.std.specs.Prelude.{◌+◌, ◌-◌, ◌++◌, if◌then◌else◌, ℕ, zero, suc, Option, None, Some, List, [], ◌∷◌}
use Rattle.mk_line.specs.declared.cutting.Ending.{Ending}
use Rattle.mk_line.specs.Lines.{TextLine, text_of, text_line, eol_of}
use Rattle.mk_head.specs.Split.{head_lines}
use Rattle.mk_head.specs.Fields.{name_of}
use Rattle.mk_tree.specs.Tree.{Entity, leaf, message, multi, Parts, no_parts, part, print, entity_head, field_lines}
use Rattle.mk_tree.specs.Documents.{Document, document_lines}
use Rattle.mk_tree.specs.Sections.{body_lines}
use Rattle.mk_tree.specs.Spans.{size}
use Rattle.mk_tree.specs.Places.{Frame, in_message, in_multi, placed}
use Rattle.mk_decide.specs.Edits.{PlainEdit, AddField, RemoveField, RenameField, SetField, SetBody, SetSection, InsertPart, RemovePart, Wrap, path_of}
use Rattle.mk_decide.specs.FieldEdits.{Found, field_at}
use Rattle.mk_line.specs.Marks.{delimiter_line}
use Rattle.mk_decide.specs.Wrapping.{wrapped}
use Rattle.mk_decide.specs.Plans.{place_of}
use Rattle.mk_splice.specs.Splices.{Splice}

-- one splice
abbrev pub one_splice : ℕ → List ℕ → List ℕ → List Splice
one_splice place old new = record { place = place; old = old; new = new } ∷ []

-- the splices for what is found
abbrev pub for_found : {A : Type 0} → Option A → (A → List Splice) → List Splice
for_found None f = []
for_found (Some x) f = f x

-- the separator that is made where there is none
abbrev pub made_separator : Ending → Option TextLine → List TextLine
made_separator eol None = text_line [] eol ∷ []
made_separator eol (Some l) = []

-- the lines of so many parts
abbrev pub front_lines : ℕ → Parts → List TextLine
front_lines zero ps = []
front_lines (suc k) no_parts = []
front_lines (suc k) (part l e ps) = l ∷ (print e ++ front_lines k ps)

-- a part more of a multipart, after so many
abbrev pub part_splices : Ending → ℕ → ℕ → List ℕ → Entity → List Splice
part_splices eol start place text (leaf h ls) = []
part_splices eol start place text (message h e) = []
part_splices eol start place text (multi h b pre ps t) = one_splice (start + size (head_lines h ++ (pre ++ front_lines place ps))) [] (text_of (delimiter_line eol b ∷ []) ++ text)

-- the delimiter of a part
abbrev pub own_delimiter : List Frame → List TextLine
own_delimiter [] = []
own_delimiter (in_message h ∷ []) = []
own_delimiter (in_multi h b pre before l after t ∷ []) = l ∷ []
own_delimiter (f ∷ g ∷ fs) = own_delimiter (g ∷ fs)

-- what an edit of a section replaces, which begins at an offset in bytes; made lines end as the message does
abbrev pub splices_in : PlainEdit → Ending → ℕ → List Frame → Entity → List Splice
splices_in (AddField path top text) eol start fs s = one_splice (if top then start else start + size (field_lines s)) [] text
splices_in (RemoveField path name k) eol start fs s = for_found (field_at name k (field_lines s)) (λ f. one_splice (start + size f.before) (text_of (f.start ∷ f.more)) [])
splices_in (RenameField path name k to) eol start fs s = for_found (field_at name k (field_lines s)) (λ f. one_splice (start + size f.before) (name_of f.start) to)
splices_in (SetField path name k text) eol start fs s = for_found (field_at name k (field_lines s)) (λ f. one_splice (start + size f.before) (text_of (f.start ∷ f.more)) text)
splices_in (SetBody path text) eol start fs s = one_splice (start + size (head_lines (entity_head s))) (text_of (body_lines s)) (text_of (made_separator eol (entity_head s).separator) ++ text)
splices_in (SetSection path text) eol start fs s = one_splice start (text_of (print s)) text
splices_in (InsertPart path place text) eol start fs s = part_splices eol start place text s
splices_in (RemovePart path) eol start fs s = one_splice (start - size (own_delimiter fs)) (text_of (own_delimiter fs ++ print s)) []
splices_in (Wrap path subtype boundary) eol start fs s = one_splice start (text_of (print s)) (text_of (print (wrapped eol fs s subtype boundary)))

-- what an edit of a document replaces
abbrev pub splices_of : PlainEdit → Document → List Splice
splices_of e t = for_found (place_of (path_of e) t.root) (λ q. splices_in e (eol_of (document_lines t)) (placed t.envelope q.0 q.1).start q.0 q.1)
