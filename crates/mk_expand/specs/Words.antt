-- What a word of a script stands for in a document: edits, made one after another (own). What leads nowhere stands for the edit that
-- is refused for that reason.
use Rattle.std.specs.Prelude.{◌++◌, ◌&&◌, if◌then◌else◌, ℕ, Bool, true, false, Option, None, Some, Result, Ok, Err, List, [], ◌∷◌, codes, map}
use Rattle.std.specs.Str.{is_utf8}
use Rattle.mk_line.specs.declared.cutting.Ending.{Ending}
use Rattle.mk_line.specs.Lines.{ending_bytes}
use Rattle.mk_head.specs.declared.encodings.Encoding.{Encoding}
use Rattle.mk_head.specs.declared.encodings.Encoding.TheVariants.{Identity, Qp, Base64, Other}
use Rattle.mk_head.specs.Values.{MediaType, is_token}
use Rattle.mk_tree.specs.declared.shapes.Kind.{Kind}
use Rattle.mk_tree.specs.declared.shapes.Kind.TheVariants.{Leaf, Message, Multi}
use Rattle.mk_tree.specs.Documents.{Document}
use Rattle.mk_tree.specs.Forms.{kind_in}
use Rattle.mk_tree.specs.Sections.{Placed, section_at}
use Rattle.mk_decide.specs.Edits.{PlainEdit, AddField, RemoveField, RenameField, SetField, SetBody, SetSection, InsertPart, RemovePart, Wrap}
use Rattle.mk_view.specs.Listing.{encoding_in, type_of}
use Rattle.mk_build.specs.declared.attaching.AttachError.{AttachError}
use Rattle.mk_build.specs.declared.attaching.AttachError.TheVariants as attach
use Rattle.mk_build.specs.Building.{Attached, attach_refusal, closed_field, named_in_utf8}
use Rattle.mk_build.specs.Multiparts.{attached, attached_as}
use Rattle.mk_script.specs.Script.{ScriptWord, Adds, Deletes, Renames, Sets, Bodies, Replaces, Inserts, Removes, Wraps, SetsContent, SetsText, Encodes, Puts, PutsPiece, DropsAll, Appends, AppendsText, Attaches, AttachesText}
use Rattle.mk_script.specs.Targets.{field_name_in}
use Rattle.mk_pack.specs.Parts.{attached_file, inlined_file, is_text}
use Rattle.mk_expand.specs.Appends.{appended, made_part, text_part}
use Rattle.mk_expand.specs.Charsets.{are_ascii, charset_field, is_of_text, may_be_in, may_hold}
use Rattle.mk_expand.specs.Contents.{body_with, encoded_in}
use Rattle.mk_expand.specs.Encodings.{encoding_set}
use Rattle.mk_expand.specs.FieldWords.{dropped, put}
use Rattle.mk_expand.specs.Meanings.{Meaning, WordFault, UnknownEncoding, BadCharset, BadType, BadName}
use Rattle.mk_expand.specs.Paths.{latest_first}
use Rattle.mk_expand.specs.Pieces.{Pieces, piece_lines, piece_text}

-- a field of a script gets an ending
abbrev pub field_text : Ending → List ℕ → List ℕ
field_text eol field = field ++ ending_bytes eol

-- a body that was encoded, or wasn't
abbrev pub body_set : Ending → List ℕ → Bool → Option (List ℕ) → Meaning
body_set eol path followed None = Err UnknownEncoding
body_set eol path followed (Some text) = Ok (SetBody path (body_with eol followed text) ∷ [])

-- only a leaf has a content that is encoded
abbrev pub content_set_by : Kind → Ending → List ℕ → List ℕ → Placed → Meaning
content_set_by Leaf eol path bytes p = if may_hold (type_of p) bytes then body_set eol path p.followed (encoded_in (encoding_in p) eol bytes) else Err BadCharset
content_set_by Multi eol path bytes p = Ok (SetBody path bytes ∷ [])
content_set_by Message eol path bytes p = Ok (SetBody path bytes ∷ [])

-- `content`: the body of a leaf, so that its content is these bytes
abbrev pub content_set : Ending → List ℕ → List ℕ → Option Placed → Meaning
content_set eol path bytes None = Ok (SetBody path bytes ∷ [])
content_set eol path bytes (Some p) = content_set_by (kind_in p.entity) eol path bytes p

-- base64 has no lines that a content would have
abbrev pub is_base64 : Encoding → Bool
is_base64 Base64 = true
is_base64 Identity = false
is_base64 Qp = false
is_base64 Other = false

-- the bytes of a piece that are to be the content of a section: in base64 they stay as they are
abbrev pub content_bytes : Pieces → Ending → ℕ → Option Placed → List ℕ
content_bytes pieces eol number None = piece_lines pieces eol number
content_bytes pieces eol number (Some p) = if is_base64 (encoding_in p) then piece_text pieces number else piece_lines pieces eol number

-- edits before those of a meaning
abbrev pub before_those : List PlainEdit → Meaning → Meaning
before_those edits (Ok others) = Ok (edits ++ others)
before_those edits (Err fault) = Err fault

-- bytes as the text of a leaf of a type, in a charset, or why they can't be that
abbrev pub text_for : List ℕ → MediaType → List ℕ → Result (List ℕ) WordFault
text_for charset t bytes = if is_of_text t then (if is_token charset && may_be_in charset bytes then Ok bytes else Err BadCharset) else Err BadType

-- a text as the content of a leaf, whose type gets the charset
abbrev pub text_set_by : Ending → (path charset : List ℕ) → Placed → Result (List ℕ) WordFault → Meaning
text_set_by eol path charset p (Err fault) = Err fault
text_set_by eol path charset p (Ok bytes) =
    before_those (put path (charset_field eol charset (type_of p)) (Some p)) (body_set eol path p.followed (encoded_in (encoding_in p) eol bytes))

-- only a leaf has such a content
abbrev pub text_set_in : Kind → Ending → (path charset bytes : List ℕ) → Placed → Meaning
text_set_in Leaf eol path charset bytes p = text_set_by eol path charset p (text_for charset (type_of p) bytes)
text_set_in Multi eol path charset bytes p = Ok (SetBody path bytes ∷ [])
text_set_in Message eol path charset bytes p = Ok (SetBody path bytes ∷ [])

-- `content --charset`: the body of a leaf, so that its content is these bytes, a text in this charset
abbrev pub text_set : Ending → (path charset bytes : List ℕ) → Option Placed → Meaning
text_set eol path charset bytes None = Ok (SetBody path bytes ∷ [])
text_set eol path charset bytes (Some p) = text_set_in (kind_in p.entity) eol path charset bytes p

-- `append`: a part after the others, or beside a section that is no multipart
abbrev pub append : Ending → List ℕ → List ℕ → Option Placed → List PlainEdit
append eol path text None = InsertPart path 0 text ∷ []
append eol path text (Some p) = appended eol path text p

-- a fault of what is attached
abbrev pub attach_fault : AttachError → WordFault
attach_fault attach.BadType = BadType
attach_fault attach.BadName = BadName
attach_fault attach.Memory = BadName

-- a file as a part after the others, where it may be attached
abbrev pub attach_by : Ending → List ℕ → Attached → Option Placed → Option AttachError → Meaning
attach_by eol path a p None = Ok (append eol path (made_part eol (attached eol a) p) p)
attach_by eol path a p (Some error) = Err (attach_fault error)

-- `attach`: a file as a part after the others
abbrev pub attach_file : Ending → List ℕ → Attached → Option Placed → Meaning
attach_file eol path a p = attach_by eol path a p (attach_refusal a)

-- the charset that a text is said to be in: none where it is ASCII, or else utf-8
abbrev pub said_charset : List ℕ → Result (Option (List ℕ)) WordFault
said_charset text = if are_ascii text then Ok None else (if is_utf8 text then Ok (Some (codes "utf-8")) else Err BadCharset)

-- a text as a part after the others, in a charset, where it may be attached
abbrev pub attach_text_by : Ending → List ℕ → Attached → Option Placed → Result (Option (List ℕ)) WordFault → Option AttachError → Meaning
attach_text_by eol path a p (Err fault) refusal = Err fault
attach_text_by eol path a p (Ok charset) None = Ok (append eol path (made_part eol (attached_as eol charset a) p) p)
attach_text_by eol path a p (Ok charset) (Some error) = Err (attach_fault error)

-- a text of a media type, which has no name
abbrev pub text_of_type : List ℕ → List ℕ → Attached
text_of_type media text = inlined_file (record { media = media; path = [] }) text

-- `attach-text`: a text as a part after the others, to be shown
abbrev pub attach_text : Ending → (path media text : List ℕ) → Option Placed → Meaning
attach_text eol path media text p =
    if is_text media then attach_text_by eol path (text_of_type media text) p (said_charset text) (attach_refusal (text_of_type media text)) else Err BadType

-- the bytes of a piece that is attached: those of a text as lines of the message
abbrev pub attached_bytes : Pieces → Ending → List ℕ → ℕ → List ℕ
attached_bytes pieces eol media number = if is_text media then piece_lines pieces eol number else piece_text pieces number

-- a piece as a file under a name, which is also written in UTF-8 where it is a text that isn't printable ASCII
abbrev pub script_file : Pieces → Ending → (media name : List ℕ) → ℕ → Attached
script_file pieces eol media name piece = named_in_utf8 (attached_file (record { media = media; path = name }) (attached_bytes pieces eol media piece))

-- what a word stands for in a document, where the script has these pieces and lines that are made get this ending
abbrev pub meaning_of : Pieces → Ending → Document → ScriptWord → Meaning
meaning_of pieces eol t (Adds path top field) = Ok (AddField path top (field_text eol field) ∷ [])
meaning_of pieces eol t (Deletes target) = Ok (RemoveField target.path target.name target.k ∷ [])
meaning_of pieces eol t (Renames target to) = Ok (RenameField target.path target.name target.k to ∷ [])
meaning_of pieces eol t (Sets target field) = Ok (SetField target.path target.name target.k (field_text eol field) ∷ [])
meaning_of pieces eol t (Bodies path piece) = Ok (SetBody path (piece_lines pieces eol piece) ∷ [])
meaning_of pieces eol t (Replaces path piece) = Ok (SetSection path (piece_lines pieces eol piece) ∷ [])
meaning_of pieces eol t (Inserts path place piece) = Ok (InsertPart path place (piece_lines pieces eol piece) ∷ [])
meaning_of pieces eol t (Removes paths) = Ok (map (λ path. RemovePart path) (latest_first paths))
meaning_of pieces eol t (Wraps path subtype boundary) = Ok (Wrap path subtype boundary ∷ [])
meaning_of pieces eol t (SetsContent path piece) = content_set eol path (content_bytes pieces eol piece (section_at path t)) (section_at path t)
meaning_of pieces eol t (SetsText charset path piece) = text_set eol path charset (content_bytes pieces eol piece (section_at path t)) (section_at path t)
meaning_of pieces eol t (Encodes path to) = encoding_set eol path to (section_at path t)
meaning_of pieces eol t (Puts path field) = Ok (put path (field_text eol field) (section_at path t))
meaning_of pieces eol t (PutsPiece path piece) = Ok (put path (closed_field eol (piece_lines pieces eol piece)) (section_at path t))
meaning_of pieces eol t (DropsAll path name) = Ok (dropped path (field_name_in name) (section_at path t))
meaning_of pieces eol t (Appends path piece) = Ok (append eol path (piece_lines pieces eol piece) (section_at path t))
meaning_of pieces eol t (AppendsText path piece) = Ok (append eol path (text_part eol (piece_lines pieces eol piece) (section_at path t)) (section_at path t))
meaning_of pieces eol t (Attaches path media name piece) = attach_file eol path (script_file pieces eol media name piece) (section_at path t)
meaning_of pieces eol t (AttachesText path media piece) = attach_text eol path media (piece_lines pieces eol piece) (section_at path t)

-- a word that stands for the same edit in every document
abbrev pub is_plain : ScriptWord → Bool
is_plain (Adds path top field) = true
is_plain (Deletes target) = true
is_plain (Renames target to) = true
is_plain (Sets target field) = true
is_plain (Bodies path piece) = true
is_plain (Replaces path piece) = true
is_plain (Inserts path place piece) = true
is_plain (Removes []) = false
is_plain (Removes (path ∷ [])) = true
is_plain (Removes (path ∷ other ∷ others)) = false
is_plain (Wraps path subtype boundary) = true
is_plain (SetsContent path piece) = false
is_plain (SetsText charset path piece) = false
is_plain (Encodes path to) = false
is_plain (Puts path field) = false
is_plain (PutsPiece path piece) = false
is_plain (DropsAll path name) = false
is_plain (Appends path piece) = false
is_plain (AppendsText path piece) = false
is_plain (Attaches path media name piece) = false
is_plain (AttachesText path media piece) = false
