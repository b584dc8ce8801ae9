-- A header and what follows it (RFC 5322, 2.1; that the empty line between them may be missing is our own).
use Rattle.std.specs.Option.{option_to_list}
use Rattle.std.specs.Prelude.{◌&&◌, ◌||◌, ◌++◌, if◌then◌else◌, Bool, true, false, Option, None, Some, List, [], ◌∷◌}
use Rattle.mk_line.specs.Lines.{TextLine, is_nil}
use Rattle.mk_line.specs.Kinds.{is_field_start, is_continuation}

-- a line that a field begins with
abbrev pub is_start : TextLine → Bool
is_start l = is_field_start l.content

-- a line that continues a field
abbrev pub is_more : TextLine → Bool
is_more l = is_continuation l.content

-- a line without a byte before its ending
abbrev pub is_empty : TextLine → Bool
is_empty l = is_nil l.content

-- a line of a header: a field start, or a continuation where a field stands before it, `inside`
abbrev pub belongs : Bool → TextLine → Bool
belongs inside l = is_start l || (inside && is_more l)

-- the lines of the longest run of fields at the start
abbrev pub fields_from : Bool → List TextLine → List TextLine
fields_from inside [] = []
fields_from inside (l ∷ ls) = if belongs inside l then l ∷ fields_from true ls else []

-- what follows that run
abbrev pub rest_from : Bool → List TextLine → List TextLine
rest_from inside [] = []
rest_from inside (l ∷ ls) = if belongs inside l then rest_from true ls else l ∷ ls

-- an empty line after the fields is the separator
abbrev pub separator_of : List TextLine → Option TextLine
separator_of [] = None
separator_of (l ∷ ls) = if is_empty l then Some l else None

-- any other line begins the body
abbrev pub body_of : List TextLine → List TextLine
body_of [] = []
body_of (l ∷ ls) = if is_empty l then ls else l ∷ ls

-- the lines of the fields, and the separator where there is one
pub record Head : Type 0 where
  pub fields : List TextLine
  pub separator : Option TextLine

-- the head that lines begin with
abbrev pub head_of : List TextLine → Head
head_of ls = record { fields = fields_from false ls; separator = separator_of (rest_from false ls) }

-- the body after it
abbrev pub after_head : List TextLine → List TextLine
after_head ls = body_of (rest_from false ls)

-- the lines of a head
abbrev pub head_lines : Head → List TextLine
head_lines h = h.fields ++ option_to_list h.separator
