-- What a script says (own): one word a line, with what it is given, parted by one space.
use Rattle.std.specs.Prelude.{◌==◌, ◌+◌, if◌then◌else◌, ℕ, Bool, true, false, List, [], ◌∷◌, Option, None, Some, codes, nat_le}
use Rattle.std.specs.List.{slice_split}
use Rattle.std.specs.Option.{option_map, option_map_or, option_and_then}
use Rattle.std.specs.Str.{bytes_eq}
use Rattle.mk_line.specs.Ascii.{space}
use Rattle.mk_line.specs.Lines.{TextLine, cut}
use Rattle.mk_script.specs.declared.script.ChosenEncoding.{ChosenEncoding}
use Rattle.mk_script.specs.declared.script.ChosenEncoding.TheVariants.{Qp, QuotedPrintable, Base64, EightBit, Identity}
use Rattle.mk_script.specs.Paths.{parted, number_of, read_each, path_of}
use Rattle.mk_script.specs.Targets.{Target, as_name, is_name, is_field_name, count_of, read_file, read_first, whole_target, target_front}

-- b'#'
abbrev pub number_sign : ℕ
number_sign = 35

-- an edit that a line of a script asks for; the field is still without its line ending
pub data ScriptWord : Type 0 where
  Adds : (path : List ℕ) (top : Bool) (field : List ℕ) → ScriptWord
  Deletes : (target : Target) → ScriptWord
  Renames : (target : Target) (to : List ℕ) → ScriptWord
  Sets : (target : Target) (field : List ℕ) → ScriptWord
  Bodies : (path : List ℕ) (piece : ℕ) → ScriptWord
  Replaces : (path : List ℕ) (piece : ℕ) → ScriptWord
  Inserts : (path : List ℕ) (place piece : ℕ) → ScriptWord
  Removes : (paths : List (List ℕ)) → ScriptWord
  Wraps : (path subtype boundary : List ℕ) → ScriptWord
  SetsContent : (path : List ℕ) (piece : ℕ) → ScriptWord
  SetsText : (charset path : List ℕ) (piece : ℕ) → ScriptWord
  Encodes : (path : List ℕ) (to : ChosenEncoding) → ScriptWord
  Puts : (path field : List ℕ) → ScriptWord
  PutsPiece : (path : List ℕ) (piece : ℕ) → ScriptWord
  DropsAll : (path name : List ℕ) → ScriptWord
  Appends : (path : List ℕ) (piece : ℕ) → ScriptWord
  AppendsText : (path : List ℕ) (piece : ℕ) → ScriptWord
  Attaches : (path media name : List ℕ) (piece : ℕ) → ScriptWord
  AttachesText : (path media : List ℕ) (piece : ℕ) → ScriptWord

-- what one line of a script says: an edit, to take the last step back, to make it again, and where a group begins and ends
pub data ScriptLine : Type 0 where
  Edits : (word : ScriptWord) → ScriptLine
  Undoes : ScriptLine
  Redoes : ScriptLine
  Begins : ScriptLine
  Ends : ScriptLine

-- the piece that a text names by its number, where there are so many
abbrev pub piece_of : ℕ → List ℕ → Option ℕ
piece_of count text = option_and_then (λ k. if nat_le k count then Some k else None) (number_of text)

-- a path and a piece, parted by one space
abbrev pub placed : ℕ → List ℕ → Option (List ℕ × ℕ)
placed count rest = read_first path_of (λ path number. option_map (λ piece. (path, piece)) (piece_of count number)) rest

-- the transfer encoding of a name: a short one, or one of the listing
abbrev pub chosen : List ℕ → Option ChosenEncoding
chosen name =
    if bytes_eq name (codes "qp") then Some Qp
    else (if bytes_eq name (codes "quoted-printable") then Some QuotedPrintable
    else (if bytes_eq name (codes "base64") then Some Base64
    else (if bytes_eq name (codes "8bit") then Some EightBit
    else (if bytes_eq name (codes "identity") then Some Identity else None))))

-- what stands after `--charset`, where a text begins with it
abbrev pub past_charset : List ℕ → Option (List ℕ)
past_charset rest = option_and_then (λ p. if bytes_eq p.0 (codes "--charset") then Some p.1 else None) (parted space rest)

-- a word that stands for more than one edit, where there are so many pieces. `content`, `put-piece`, `append` and `append-text`
-- are given a path and a piece, and `content` a charset before them after `--charset`; `encode` a path and a transfer encoding;
-- `put` a path and a field; `drop` a path and the name of fields; `attach` a path, a media type, the name of a file and a piece;
-- `attach-text` the same without the name. A field may hold spaces and may be empty; the name of a file may hold spaces.
abbrev pub job_of : ℕ → List ℕ × List ℕ → Option ScriptWord
job_of count p =
    if bytes_eq p.0 (codes "content") then option_map_or (read_first as_name (λ charset place. option_map (λ q. SetsText charset q.0 q.1) (placed count place))) (past_charset p.1) (option_map (λ q. SetsContent q.0 q.1) (placed count p.1))
    else (if bytes_eq p.0 (codes "encode") then read_first path_of (λ path name. option_map (λ to. Encodes path to) (chosen name)) p.1
    else (if bytes_eq p.0 (codes "put") then read_first path_of (λ path field. Some (Puts path field)) p.1
    else (if bytes_eq p.0 (codes "put-piece") then option_map (λ q. PutsPiece q.0 q.1) (placed count p.1)
    else (if bytes_eq p.0 (codes "drop") then read_first path_of (λ path name. if is_field_name name then Some (DropsAll path name) else None) p.1
    else (if bytes_eq p.0 (codes "append") then option_map (λ q. Appends q.0 q.1) (placed count p.1)
    else (if bytes_eq p.0 (codes "append-text") then option_map (λ q. AppendsText q.0 q.1) (placed count p.1)
    else (if bytes_eq p.0 (codes "attach") then read_first path_of (λ path. read_first as_name (λ media. read_file (λ name number. option_map (λ piece. Attaches path media name piece) (piece_of count number)))) p.1
    else (if bytes_eq p.0 (codes "attach-text") then read_first path_of (λ path. read_first as_name (λ media number. option_map (λ piece. AttachesText path media piece) (piece_of count number))) p.1 else None))))))))

-- a word that changes more than fields, where there are so many pieces. `body` and `replace` are given a path and a piece;
-- `insert` a path, how many parts stand before the new one, and a piece; `remove` one path or more; `wrap` a path, a subtype,
-- and a boundary, which may hold spaces and may be empty.
abbrev pub word_on : ℕ → List ℕ × List ℕ → Option ScriptWord
word_on count p =
    if bytes_eq p.0 (codes "body") then option_map (λ q. Bodies q.0 q.1) (placed count p.1)
    else (if bytes_eq p.0 (codes "replace") then option_map (λ q. Replaces q.0 q.1) (placed count p.1)
    else (if bytes_eq p.0 (codes "insert") then read_first path_of (λ path. read_first count_of (λ place number. option_map (λ piece. Inserts path place piece) (piece_of count number))) p.1
    else (if bytes_eq p.0 (codes "remove") then option_map (λ paths. Removes paths) (read_each path_of (slice_split (λ byte. byte == space) p.1))
    else (if bytes_eq p.0 (codes "wrap") then read_first path_of (λ path. read_first as_name (λ subtype boundary. Some (Wraps path subtype boundary))) p.1
    else job_of count p))))

-- a word that changes a field which is there. `del` is given the field to take out; `ren` the field and its new name; `set` the
-- field and the one for its place, which may hold spaces and may be empty.
abbrev pub word_at : ℕ → List ℕ × List ℕ → Option ScriptWord
word_at count p =
    if bytes_eq p.0 (codes "del") then option_map (λ target. Deletes target) (whole_target p.1)
    else (if bytes_eq p.0 (codes "ren") then option_and_then (λ q. if is_name q.1 then Some (Renames q.0 q.1) else None) (target_front p.1)
    else (if bytes_eq p.0 (codes "set") then option_map (λ q. Sets q.0 q.1) (target_front p.1) else word_on count p))

-- a word that is given something. `add` and `top` are given a path and then a field, which may hold spaces and may be empty.
abbrev pub word_with : ℕ → List ℕ × List ℕ → Option ScriptWord
word_with count p =
    if bytes_eq p.0 (codes "add") then read_first path_of (λ path field. Some (Adds path false field)) p.1
    else (if bytes_eq p.0 (codes "top") then read_first path_of (λ path field. Some (Adds path true field)) p.1 else word_at count p)

-- the word that a line says, where it is one and there are so many pieces
abbrev pub word_of : ℕ → List ℕ → Option ScriptWord
word_of count line = option_and_then (word_with count) (parted space line)

-- what a line says, where it says something and there are so many pieces
abbrev pub line_of : ℕ → List ℕ → Option ScriptLine
line_of count line =
    if bytes_eq line (codes "undo") then Some Undoes
    else (if bytes_eq line (codes "redo") then Some Redoes
    else (if bytes_eq line (codes "begin") then Some Begins
    else (if bytes_eq line (codes "end") then Some Ends else option_map (λ word. Edits word) (word_of count line))))

-- an empty line and one that begins with a number sign are skipped
abbrev pub is_skipped : List ℕ → Bool
is_skipped [] = true
is_skipped (byte ∷ bytes) = byte == number_sign

-- a line with its number, and what it says
abbrev pub NumberedLine : Type 0
NumberedLine = ℕ × Option ScriptLine

-- lines that are numbered from here on, without those that are skipped
abbrev pub lines_from : (count number : ℕ) → List TextLine → List NumberedLine
lines_from count number [] = []
lines_from count number (line ∷ lines) =
    if is_skipped line.content then lines_from count (number + 1) lines
    else (number, line_of count line.content) ∷ lines_from count (number + 1) lines

-- the lines of a script that is given so many pieces
abbrev pub lines_of : ℕ → List ℕ → List NumberedLine
lines_of count script = lines_from count 1 (cut script)
