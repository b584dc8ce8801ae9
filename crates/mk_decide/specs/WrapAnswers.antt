-- What Wrap is answered, by looks at the section and at what stands around it.
use Rattle.std.specs.Prelude.{◌==◌, ◌&&◌, ◌+◌, ◌-◌, ◌++◌, if◌then◌else◌, ℕ, Bool, true, false, not, Result, Err, List, [], ◌∷◌, codes, length, nat_lt, slice_index}
use Rattle.std.specs.Str.{bytes_eq}
use Rattle.mk_line.specs.declared.cutting.Ending.{Ending}
use Rattle.mk_line.specs.Ascii.{carriage_return}
use Rattle.mk_line.specs.Lines.{TextLine, cut, text_of, is_nil, is_lf, ending_bytes, eol_of, ends_open, printed_line}
use Rattle.mk_line.specs.Marks.{close_line, delimiter_line}
use Rattle.std.specs.Option.{option_to_list}
use Rattle.mk_head.specs.Boundaries.{is_boundary}
use Rattle.mk_head.specs.Types.{type_line}
use Rattle.mk_head.specs.Values.{lowered, is_token}
use Rattle.mk_tree.specs.Tree.{Entity, leaf, message, multi, Parts, no_parts, part, entity_head}
use Rattle.mk_tree.specs.Documents.{Document, levels, tree}
use Rattle.mk_tree.specs.Sections.{Placed, root_of, raw_of, head_text, body_text}
use Rattle.mk_decide.specs.Edits.{Refusal, BadBoundary, BadSubtype}
use Rattle.mk_decide.specs.Wrapping.{content_fields, other_fields}
use Rattle.std.specs.List.{list_any}
use Rattle.mk_decide.specs.FieldEdits.{starts_named}
use Rattle.mk_decide.specs.Outcomes.{has_mark}
use Rattle.mk_decide.specs.SectionAnswers.{or_own}
use Rattle.mk_decide.specs.KindsKept.{keeps_default}
use Rattle.mk_decide.specs.Around.{hit_below, glued_below}
use Rattle.mk_decide.specs.LocalAnswers.{PlainSplice, answer_by}

-- some field has the name
abbrev pub names_field : List ℕ → List TextLine → Bool
names_field name ls = list_any (starts_named name) ls

-- the fields at the start of a text that describe the content, and the others
abbrev pub content_part : List ℕ → List ℕ
content_part head = text_of (content_fields false (cut head))

-- the other fields at the start of a text
abbrev pub other_part : List ℕ → List ℕ
other_part head = text_of (other_fields false (cut head))

-- the made lines: the MIME version of a root whose other fields don't say it, the type, the delimiter, the close line
abbrev pub version_bytes : Ending → Bool → (others : List ℕ) → List ℕ
version_bytes eol first others = if first && not (names_field (codes "MIME-Version") (cut others)) then codes "MIME-Version: 1.0" ++ ending_bytes eol else []

-- the field that says the type and the boundary
abbrev pub type_bytes : Ending → (subtype boundary : List ℕ) → List ℕ
type_bytes eol subtype boundary = printed_line (type_line eol subtype boundary)

-- the delimiter
abbrev pub delimiter_bytes : Ending → List ℕ → List ℕ
delimiter_bytes eol boundary = printed_line (delimiter_line eol boundary)

-- the close line
abbrev pub close_bytes : Ending → List ℕ → List ℕ
close_bytes eol boundary = printed_line (close_line eol boundary)

-- the made lines that aren't empty
abbrev pub made_bytes : Ending → Bool → (others subtype boundary : List ℕ) → List ℕ
made_bytes eol first others subtype boundary = ((version_bytes eol first others ++ type_bytes eol subtype boundary) ++ delimiter_bytes eol boundary) ++ close_bytes eol boundary

-- the separator, or a made one
abbrev pub separator_text : Placed → List ℕ
separator_text p = text_of (option_to_list (entity_head p.entity).separator)

-- a separator, or a made one where there is none
abbrev pub separator_part : Ending → List ℕ → List ℕ
separator_part eol separator = if is_nil separator then ending_bytes eol else separator

-- the body of a leaf that no line follows gets an ending
abbrev pub is_leaf : Entity → Bool
is_leaf (leaf h ls) = true
is_leaf (message h e) = false
is_leaf (multi h b pre ps t) = false

-- whether an ending is put after a section
abbrev pub gains_end : Placed → Bool
gains_end p = not p.followed && is_leaf p.entity

-- that ending
abbrev pub end_part : Ending → Placed → List ℕ
end_part eol p = if gains_end p then ending_bytes eol else []

-- what stands before the part, and the part
abbrev pub front_bytes : Ending → Bool → (others subtype boundary : List ℕ) → List ℕ
front_bytes eol first others subtype boundary = (((others ++ version_bytes eol first others) ++ type_bytes eol subtype boundary) ++ ending_bytes eol) ++ delimiter_bytes eol boundary

-- the part
abbrev pub part_bytes : Ending → Placed → (content : List ℕ) → List ℕ
part_bytes eol p content = ((content ++ separator_part eol (separator_text p)) ++ body_text p) ++ end_part eol p

-- the multipart
abbrev pub wrap_bytes : Ending → Bool → Placed → (subtype boundary : List ℕ) → List ℕ
wrap_bytes eol first p subtype boundary = (front_bytes eol first (other_part (head_text p)) subtype boundary ++ part_bytes eol p (content_part (head_text p))) ++ close_bytes eol boundary

-- a line without an ending would stand before another: the last of the text, where it isn't that of a body that gets one
abbrev pub wrap_opens : List ℕ → Placed → Bool
wrap_opens text p = not p.followed && (not (is_leaf p.entity && not (is_nil (body_text p))) && ends_open text)

-- no multipart and no message stands where no level is left below
abbrev mutual
  pub fits_levels : ℕ → Entity → Bool
  fits_levels left (leaf h ls) = true
  fits_levels left (message h e) = if left == 0 then false else (if fits_levels (left - 1) e then true else false)
  fits_levels left (multi h b pre ps t) = if left == 0 then false else fit_levels (left - 1) ps

  pub fit_levels : ℕ → Parts → Bool
  fit_levels left no_parts = true
  fit_levels left (part l e ps) = if fits_levels left e then fit_levels left ps else false

-- in none of these sections
abbrev pub all_fit : ℕ → List Placed → Bool
all_fit left [] = true
all_fit left (p ∷ ps) = if fits_levels left p.entity then all_fit left ps else false

-- CR at the end of the body doesn't meet LF
abbrev pub ends_in_cr : List ℕ → Bool
ends_in_cr text = slice_index text (length text - 1) == carriage_return

-- whether the body may get its ending
abbrev pub may_end : Ending → Placed → Bool
may_end eol p = not (gains_end p && (is_lf eol && ends_in_cr (body_text p)))

-- the section stays of its kind under the new default, where it isn't at a level where all are leaves
abbrev pub keeps_wrapped : ℕ → Bool → Placed → Bool
keeps_wrapped level digest p = if nat_lt levels level then true else keeps_default digest p

-- whether a subtype makes a digest (RFC 2046, 5.1.5)
abbrev pub makes_digest : List ℕ → Bool
makes_digest subtype = bytes_eq (lowered subtype) (codes "digest")

-- a level is left for a section of a level and for what stands in it, and it stays of its kind
abbrev pub fits_below : ℕ → Bool → Placed → Bool
fits_below level digest p = if nat_lt levels level then false else (if fits_levels (levels - level) p.entity then keeps_wrapped (level + 1) digest p else false)

-- whether the section, wrapped, is read back
abbrev pub wrap_fits : Document → Ending → List ℕ → List ℕ → Placed → Bool
wrap_fits t eol numbers subtype p =
    if glued_below false numbers (root_of t) then false
    else (if may_end eol p then fits_below (length numbers + 1) (makes_digest subtype) p else false)

-- the answer at the section, and before that the tests of what is given
abbrev pub wrap_in : (text numbers subtype boundary : List ℕ) → Placed → Result PlainSplice Refusal
wrap_in text numbers subtype boundary p =
    answer_by (wrap_opens text p)
    (or_own (hit_below (cut (made_bytes (eol_of (cut text)) (is_nil numbers) (other_part (head_text p)) subtype boundary)) 1 numbers (root_of (tree text))) (has_mark boundary (cut (body_text p))) (length numbers + 1))
    (wrap_fits (tree text) (eol_of (cut text)) numbers subtype p)
    (record { place = p.start; count = length (raw_of p); new = wrap_bytes (eol_of (cut text)) (is_nil numbers) p subtype boundary })

-- the answer for a section that is there: the boundary is looked at first, then the subtype
abbrev pub wrap_answer : (text numbers subtype boundary : List ℕ) → Placed → Result PlainSplice Refusal
wrap_answer text numbers subtype boundary p =
    if not (is_boundary boundary) then Err BadBoundary
    else (if not (is_token subtype) then Err BadSubtype else wrap_in text numbers subtype boundary p)

-- how many lines are looked at: none where what is given is refused
abbrev pub wrap_looked : (subtype boundary : List ℕ) → Placed → ℕ
wrap_looked subtype boundary p = if not (is_boundary boundary) then 0 else (if not (is_token subtype) then 0 else length (cut (raw_of p)))
