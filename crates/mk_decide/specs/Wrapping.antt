-- A section made the one part of a multipart: what stands around it, and what it becomes (own; RFC 2046, 5.1).
use Rattle.std.specs.Prelude.{◌||◌, ◌++◌, if◌then◌else◌, ℕ, Bool, true, false, Option, None, Some, List, [], ◌∷◌, codes, nat_eq, unwrap_or, not}
use Rattle.std.specs.List.{list_any, starts_with}
use Rattle.mk_line.specs.declared.cutting.Ending.{Ending}
use Rattle.mk_line.specs.Lines.{TextLine, text_line, is_open, is_nil}
use Rattle.mk_line.specs.Marks.{close_line, delimiter_line}
use Rattle.mk_head.specs.Split.{Head, is_start}
use Rattle.mk_head.specs.Fields.{name_of}
use Rattle.mk_head.specs.Types.{type_line}
use Rattle.mk_head.specs.Values.{lowered}
use Rattle.mk_tree.specs.Tree.{Entity, leaf, message, multi, no_parts, part, field_lines}
use Rattle.mk_tree.specs.Places.{Frame, lines_after}
use Rattle.mk_decide.specs.FieldEdits.{starts_named}

-- whether a line belongs to a field whose name begins with Content-, without regard to ASCII case (RFC 2045, 9: such fields
-- describe the content); inside: one stands before it
abbrev pub is_content_line : Bool → TextLine → Bool
is_content_line inside l = if is_start l then starts_with nat_eq (lowered (name_of l)) (codes "content-") else inside

-- the lines of these fields
abbrev pub content_fields : Bool → List TextLine → List TextLine
content_fields inside [] = []
content_fields inside (l ∷ ls) = if is_content_line inside l then l ∷ content_fields true ls else content_fields false ls

-- the lines of the other fields
abbrev pub other_fields : Bool → List TextLine → List TextLine
other_fields inside [] = []
other_fields inside (l ∷ ls) = if is_content_line inside l then other_fields true ls else l ∷ other_fields false ls

-- only the root of a document says its MIME version (RFC 2045, 4), and says it once
abbrev pub version_lines : Ending → List Frame → List TextLine → List TextLine
version_lines eol [] others = if list_any (starts_named (codes "MIME-Version")) others then [] else text_line (codes "MIME-Version: 1.0") eol ∷ []
version_lines eol (f ∷ fs) others = []

-- the made lines that aren't empty; an empty line is never a mark
abbrev pub made_lines : Ending → List Frame → List TextLine → List ℕ → List ℕ → List TextLine
made_lines eol fs others subtype boundary = version_lines eol fs others ++ (type_line eol subtype boundary ∷ delimiter_line eol boundary ∷ close_line eol boundary ∷ [])

-- lines with an ending put after them: an open last line gets it, else it is an empty line more
abbrev pub ended_lines : Ending → List TextLine → List TextLine
ended_lines eol [] = text_line [] eol ∷ []
ended_lines eol (l ∷ []) = if is_open l.ending then text_line l.content eol ∷ [] else l ∷ text_line [] eol ∷ []
ended_lines eol (l ∷ m ∷ ls) = l ∷ ended_lines eol (m ∷ ls)

-- the head of the part
abbrev pub inner_head : Ending → Head → Head
inner_head eol h = record { fields = content_fields false h.fields; separator = Some (unwrap_or h.separator (text_line [] eol)) }

-- the part: a leaf that no line follows gets an ending, which belongs to the close line after it
abbrev pub inner_part : Ending → List Frame → Entity → Entity
inner_part eol fs (leaf h ls) = leaf (inner_head eol h) (if not (is_nil (lines_after fs)) then ls else ended_lines eol ls)
inner_part eol fs (message h e) = message (inner_head eol h) e
inner_part eol fs (multi h b pre ps t) = multi (inner_head eol h) b pre ps t

-- the head of the multipart: the fields that don't describe the content, and the made ones
abbrev pub outer_head : Ending → List Frame → Entity → List ℕ → List ℕ → Head
outer_head eol fs s subtype boundary =
    let others = other_fields false (field_lines s) in
    record { fields = others ++ (version_lines eol fs others ++ (type_line eol subtype boundary ∷ [])); separator = Some (text_line [] eol) }

-- the multipart
abbrev pub wrapped : Ending → List Frame → Entity → List ℕ → List ℕ → Entity
wrapped eol fs s subtype boundary =
    multi (outer_head eol fs s subtype boundary) boundary []
    (part (delimiter_line eol boundary) (inner_part eol fs s) no_parts)
    (Some (close_line eol boundary, []))
