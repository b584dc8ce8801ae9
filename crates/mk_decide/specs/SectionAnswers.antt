-- What the edits of bodies, sections and parts are answered, by looks at the section and at what stands around it.
use Rattle.std.specs.Prelude.{◌==◌, ◌&&◌, ◌||◌, ◌+◌, ◌-◌, ◌++◌, if◌then◌else◌, ℕ, zero, suc, Bool, true, false, not, Option, None, Some, Result, Ok, Err, List, [], ◌∷◌, length, take, slice_index}
use Rattle.std.specs.Option.{option_map, option_or}
use Rattle.mk_line.specs.Kinds.{is_field_start, is_continuation, is_from_line}
use Rattle.mk_line.specs.Lines.{TextLine, cut, text_of, is_nil, ending_bytes, eol_of}
use Rattle.mk_head.specs.Split.{is_start, head_lines}
use Rattle.mk_head.specs.Fields.{counted}
use Rattle.mk_tree.specs.Tree.{Entity, leaf, message, multi, entity_head}
use Rattle.mk_tree.specs.Documents.{tree}
use Rattle.mk_tree.specs.Spans.{size}
use Rattle.mk_tree.specs.Sections.{Placed, root_of, children, raw_of, body_text, preamble_lines}
use Rattle.mk_decide.specs.Edits.{Refusal, NotMultipart, NotLeaf, NotPart, BadPlace}
use Rattle.mk_line.specs.Marks.{delimiter_line}
use Rattle.mk_decide.specs.Outcomes.{has_mark}
use Rattle.mk_decide.specs.Looks.{has_separator}
use Rattle.mk_decide.specs.Around.{hit_below, glues, glued_below}
use Rattle.mk_decide.specs.LocalAnswers.{PlainSplice, opens_at, answer_by}

-- the level that is hit around, or else that of the place itself, where it is hit
abbrev pub or_own : Option ℕ → Bool → ℕ → Option ℕ
or_own o hits level = option_or o (if hits then Some level else None)

-- the path of the section around, and the number of a section in it
abbrev pub outer_path : List ℕ → List ℕ
outer_path path = take (length path - 1) path

-- the number of a section in the section around
abbrev pub last_number : List ℕ → ℕ
last_number path = slice_index path (length path - 1)

-- whether a line of a content after fields, some or none, would belong to them or be their separator
abbrev pub runs_on : Bool → List ℕ → Bool
runs_on some content = (is_field_start content || (some && is_continuation content)) || is_nil content

-- whether the first of these lines may stand after the head of an entity
abbrev pub stays_after : Entity → List TextLine → Bool
stays_after e [] = true
stays_after e (l ∷ ls) = if glues e then not (runs_on (not (is_nil (text_of (entity_head e).fields))) l.content) else true

-- whether it may be the first of the root, which begins at a place
abbrev pub begins_well : ℕ → List TextLine → Bool
begins_well start [] = true
begins_well start (l ∷ ls) = not (start == 0 && is_from_line l.content)

-- whether these lines may be those of a section, in the section around or as the root
abbrev pub stays : Option Placed → ℕ → List TextLine → Bool
stays None start ls = begins_well start ls
stays (Some q) start ls = stays_after q.entity ls

-- another section in the place of a section
abbrev pub section_answer : (text numbers given : List ℕ) → Option Placed → Placed → Result PlainSplice Refusal
section_answer text numbers given around p =
    answer_by (opens_at text p.start (length (raw_of p)) given) (hit_below (cut given) 1 numbers (root_of (tree text)))
    (stays around p.start (cut given)) (record { place = p.start; count = length (raw_of p); new = given })

-- another body of a leaf, after its separator or a made one
abbrev pub separator_bytes : List ℕ → Placed → List ℕ
separator_bytes text p = if has_separator (entity_head p.entity).separator then [] else ending_bytes (eol_of (cut text))

-- the bytes in the place of the body
abbrev pub body_bytes : List ℕ → Placed → List ℕ → List ℕ
body_bytes text p given = separator_bytes text p ++ given

-- where the body of a section begins
abbrev pub body_place : Placed → ℕ
body_place p = p.start + size (head_lines (entity_head p.entity))

-- the answer for another body of a leaf
abbrev pub leaf_answer : (text numbers given : List ℕ) → Placed → Result PlainSplice Refusal
leaf_answer text numbers given p =
    answer_by (opens_at text (body_place p) (length (body_text p)) (body_bytes text p given)) (hit_below (cut given) 1 numbers (root_of (tree text)))
    (not (glued_below false numbers (root_of (tree text)))) (record { place = body_place p; count = length (body_text p); new = body_bytes text p given })

-- the answer by the kind of the section
abbrev pub body_answer_of : (text numbers given : List ℕ) → Placed → Entity → Result PlainSplice Refusal
body_answer_of text numbers given p (leaf h ls) = leaf_answer text numbers given p
body_answer_of text numbers given p (message h e) = Err NotLeaf
body_answer_of text numbers given p (multi h b pre ps t) = Err NotLeaf

-- the answer for another body
abbrev pub body_answer : (text numbers given : List ℕ) → Placed → Result PlainSplice Refusal
body_answer text numbers given p = body_answer_of text numbers given p p.entity

-- the end of a section
abbrev pub end_of : Placed → ℕ
end_of p = p.start + length (raw_of p)

-- where the parts after so many begin, where there are so many
abbrev pub gap_at : ℕ → Placed → Option ℕ
gap_at zero p = Some (body_place p + size (preamble_lines p.entity))
gap_at (suc k) p = option_map end_of (counted (suc k) (children p))

-- a part goes, with its delimiter
abbrev pub removal : Option ℕ → Placed → Result PlainSplice Refusal
removal None p = Err NotPart
removal (Some place) p = Ok (record { place = place; count = end_of p - place; new = [] })

-- the answer for a part of a number, by the kind of the section around
abbrev pub removal_from : ℕ → Placed → Placed → Entity → Result PlainSplice Refusal
removal_from number p q (leaf h ls) = Err NotPart
removal_from number p q (message h e) = Err NotPart
removal_from number p q (multi h b pre ps t) = removal (gap_at (number - 1) q) p

-- the answer for a part that goes
abbrev pub removal_answer : ℕ → Option Placed → Placed → Result PlainSplice Refusal
removal_answer number None p = Err NotPart
removal_answer number (Some q) p = removal_from number p q q.entity

-- the made delimiter and the lines of a part more
abbrev pub part_bytes : List ℕ → List ℕ → List ℕ → List ℕ
part_bytes text boundary given = text_of (delimiter_line (eol_of (cut text)) boundary ∷ []) ++ given

-- whether the fields of a multipart end before a made delimiter: where a separator or other lines stand between, or where
-- it is no field start
abbrev pub ends_at_delimiter : Placed → ℕ → List ℕ → Bool
ends_at_delimiter p place boundary = has_separator (entity_head p.entity).separator || (not (place == body_place p) || not (is_start (delimiter_line (eol_of []) boundary)))

-- the answer for a part more at a place
abbrev pub insertion_at : (text numbers given boundary : List ℕ) → Placed → Option ℕ → Result PlainSplice Refusal
insertion_at text numbers given boundary p None = Err BadPlace
insertion_at text numbers given boundary p (Some place) =
    answer_by (opens_at text place 0 (part_bytes text boundary given))
    (or_own (hit_below (cut (part_bytes text boundary given)) 1 numbers (root_of (tree text))) (has_mark boundary (cut given)) (length numbers + 1))
    (ends_at_delimiter p place boundary) (record { place = place; count = 0; new = part_bytes text boundary given })

-- the answer by the kind of the section
abbrev pub insertion_of : (text numbers given : List ℕ) → ℕ → Placed → Entity → Result PlainSplice Refusal
insertion_of text numbers given place p (leaf h ls) = Err NotMultipart
insertion_of text numbers given place p (message h e) = Err NotMultipart
insertion_of text numbers given place p (multi h b pre ps t) = insertion_at text numbers given b p (gap_at place p)

-- the answer for a part more
abbrev pub insertion_answer : (text numbers given : List ℕ) → ℕ → Placed → Result PlainSplice Refusal
insertion_answer text numbers given place p = insertion_of text numbers given place p p.entity
