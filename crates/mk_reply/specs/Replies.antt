-- The header of an answer to a message (RFC 5322, 3.6.2 to 3.6.5).
use Rattle.std.specs.Prelude.{◌==◌, ◌&&◌, ◌||◌, ◌++◌, ◌∷◌, [], if◌then◌else◌, ℕ, zero, suc, Bool, false, not, List, Option, None, Some, codes, take, unwrap_or}
use Rattle.std.specs.Char.{is_ascii_whitespace}
use Rattle.std.specs.List.{list_all}
use Rattle.std.specs.Option.{option_map_or}
use Rattle.std.specs.Str.{str_eq_ignore_ascii_case}
use Rattle.mk_line.specs.declared.cutting.Ending.{Ending}
use Rattle.mk_line.specs.Ascii.{colon, space}
use Rattle.mk_line.specs.Lines.{cut, ending_bytes, eol_of, is_nil}
use Rattle.mk_line.specs.Parting.{before, following}
use Rattle.mk_head.specs.Fields.{FieldText, find_field}
use Rattle.mk_code.specs.EncodedWords.{text_decoded}
use Rattle.mk_tree.specs.Documents.{tree}
use Rattle.mk_tree.specs.Sections.{root_of, section_fields}
use Rattle.mk_reply.specs.SpaceAround.{without_space_around}

-- what a field says: what follows its colon, as it stands, without the white space around it
abbrev pub words_of_field : FieldText → List ℕ
words_of_field field = without_space_around (unwrap_or (following colon field.raw) [])

-- what the first field of a name says; nothing where there is none
abbrev pub words_of_name : List ℕ → List FieldText → List ℕ
words_of_name name fields = option_map_or words_of_field (find_field name 1 fields) []

-- this text, and another one where it is empty
abbrev pub or_else : List ℕ → List ℕ → List ℕ
or_else text other = if is_nil text then other else text

-- who is answered: those of Reply-To, and those of From where it says nothing (RFC 5322, 3.6.2)
abbrev pub addressees : List FieldText → List ℕ
addressees fields = or_else (words_of_name (codes "Reply-To") fields) (words_of_name (codes "From") fields)

-- a text begins with `Re:`, in any case
abbrev pub begins_with_re : List ℕ → Bool
begins_with_re text = str_eq_ignore_ascii_case (take 3 text) (codes "Re:")

-- a text from after so many bytes on, without each `Re:` at its start and the white space before them
abbrev pub after_res : ℕ → List ℕ → List ℕ
after_res skipped [] = []
after_res (suc skipped) (byte ∷ bytes) = after_res skipped bytes
after_res zero (byte ∷ bytes) =
    if is_ascii_whitespace byte then after_res 0 bytes
    else if begins_with_re (byte ∷ bytes) then after_res 2 bytes
    else byte ∷ bytes

-- a subject with one `Re: ` before it: none is added where it begins with one once its encoded words are decoded (RFC 5322, 3.6.5; RFC 2047)
abbrev pub answered_subject : List ℕ → List ℕ
answered_subject subject = if begins_with_re (text_decoded subject) then subject else codes "Re: " ++ subject

-- the subject of the answer; nothing where the message has none
abbrev pub subject_of_reply : List ℕ → List ℕ
subject_of_reply subject = if is_nil subject then [] else answered_subject (after_res 0 subject)

-- b'<' and b'>'
abbrev pub left_angle : ℕ
left_angle = 60

abbrev pub right_angle : ℕ
right_angle = 62

-- a byte that may stand in an identifier
abbrev pub is_identifier_byte : ℕ → Bool
is_identifier_byte byte = not (byte == left_angle || is_ascii_whitespace byte)

-- these bytes end an identifier, and nothing follows it
abbrev pub ends_identifier : List ℕ → Bool
ends_identifier bytes = option_map_or is_nil (following right_angle bytes) false && list_all is_identifier_byte (before right_angle bytes)

-- one identifier of a message and nothing else (RFC 5322, 3.6.4)
abbrev pub is_one_identifier : List ℕ → Bool
is_one_identifier [] = false
is_one_identifier (byte ∷ bytes) = byte == left_angle && ends_identifier bytes

-- the identifiers before that of the message: its References, and its In-Reply-To where it has none and that is one identifier (RFC 5322, 3.6.4)
abbrev pub earlier_identifiers : List FieldText → List ℕ
earlier_identifiers fields =
    or_else (words_of_name (codes "References") fields)
    (if is_one_identifier (words_of_name (codes "In-Reply-To") fields) then words_of_name (codes "In-Reply-To") fields else [])

-- the fold between identifiers and another one, where both are there
abbrev pub fold_between : Ending → List ℕ → List ℕ → List ℕ
fold_between eol earlier last = if is_nil earlier || is_nil last then [] else ending_bytes eol ++ space ∷ []

-- identifiers, and another one on a line of its own
abbrev pub with_identifier : Ending → List ℕ → List ℕ → List ℕ
with_identifier eol earlier last = earlier ++ (fold_between eol earlier last ++ last)

-- the line of a field; nothing where it says nothing
abbrev pub reply_line : Ending → List ℕ → List ℕ → List ℕ
reply_line eol name [] = []
reply_line eol name words = name ++ (codes ": " ++ (words ++ ending_bytes eol))

-- the header of the answer to a message of these fields, and the empty line after it (RFC 5322, 3.6.3 to 3.6.5)
abbrev pub header_of_reply : Ending → List FieldText → List ℕ
header_of_reply eol fields =
    reply_line eol (codes "To") (addressees fields)
    ++ (reply_line eol (codes "Subject") (subject_of_reply (words_of_name (codes "Subject") fields))
    ++ (reply_line eol (codes "In-Reply-To") (words_of_name (codes "Message-ID") fields)
    ++ (reply_line eol (codes "References") (with_identifier eol (earlier_identifiers fields) (words_of_name (codes "Message-ID") fields))
    ++ ending_bytes eol)))

-- the same; none where nobody is there who can be answered
abbrev pub reply_for : Ending → List FieldText → Option (List ℕ)
reply_for eol fields = if is_nil (addressees fields) then None else Some (header_of_reply eol fields)

-- the header of the answer to a message; its lines end as the first line of the message
abbrev pub reply_to : List ℕ → Option (List ℕ)
reply_to message = reply_for (eol_of (cut message)) (section_fields (root_of (tree message)))
