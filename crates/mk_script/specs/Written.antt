-- How the lines of a script are written. A line says something exactly where it is that as it is written (`laws`).
use Rattle.std.specs.Prelude.{◌≡◌, ◌<◌, ◌≤◌, ◌^◌, if◌then◌else◌, true, ℕ, List, ◌∷◌, ◌++◌, length, map, codes, decimal}
use Rattle.std.specs.List.{AllByRecursion, join_with_byte}
use Rattle.mk_line.specs.Ascii.{space, full_stop}
use Rattle.mk_script.specs.declared.script.ChosenEncoding.{ChosenEncoding}
use Rattle.mk_script.specs.declared.script.ChosenEncoding.TheVariants.{Qp, QuotedPrintable, Base64, EightBit, Identity}
use Rattle.mk_script.specs.Paths.{max_components}
use Rattle.mk_script.specs.Targets.{Target, is_field_name, is_file_name, is_name}
use Rattle.mk_script.specs.Script.{ScriptWord, Adds, Deletes, Renames, Sets, Bodies, Replaces, Inserts, Removes, Wraps, SetsContent, SetsText, Encodes, Puts, PutsPiece, DropsAll, Appends, AppendsText, Attaches, AttachesText, ScriptLine, Edits, Undoes, Redoes, Begins, Ends}

-- numbers that may lead to a section: from 1 on, and each fits 32 bits
pub record IsPath (path : List ℕ) : Type 0 where
  pub some : 0 < length path
  pub short : length path ≤ max_components
  pub fit : AllByRecursion (λ number. (0 < number) × (number < 2 ^ 32)) path

-- a path is written as its numbers, with dots between them
abbrev pub written_path : List ℕ → List ℕ
written_path path = join_with_byte full_stop (map decimal path)

-- a field that may be picked
pub record IsTarget (target : Target) : Type 0 where
  pub path : IsPath target.path
  pub name : is_name target.name ≡ true
  pub fits : target.k < 2 ^ 32

-- it is written as its path, its name and its number, parted by one space
abbrev pub written_target : Target → List ℕ
written_target target = written_path target.path ++ (space ∷ (target.name ++ (space ∷ decimal target.k)))

-- a piece of so many, by its number from 1 on
pub record IsPiece (count piece : ℕ) : Type 0 where
  pub some : 0 < piece
  pub fits : piece < 2 ^ 32
  pub there : piece ≤ count

-- a word that may be written where there are so many pieces: what it is given may be
abbrev pub IsWord : ℕ → ScriptWord → Type 0
IsWord count (Adds path top field) = IsPath path
IsWord count (Deletes target) = IsTarget target
IsWord count (Renames target to) = IsTarget target × (is_name to ≡ true)
IsWord count (Sets target field) = IsTarget target
IsWord count (Bodies path piece) = IsPath path × IsPiece count piece
IsWord count (Replaces path piece) = IsPath path × IsPiece count piece
IsWord count (Inserts path place piece) = IsPath path × (place < 2 ^ 32) × IsPiece count piece
IsWord count (Removes paths) = (0 < length paths) × AllByRecursion IsPath paths
IsWord count (Wraps path subtype boundary) = IsPath path × (is_name subtype ≡ true)
IsWord count (SetsContent path piece) = IsPath path × IsPiece count piece
IsWord count (SetsText charset path piece) = (is_name charset ≡ true) × IsPath path × IsPiece count piece
IsWord count (Encodes path to) = IsPath path
IsWord count (Puts path field) = IsPath path
IsWord count (PutsPiece path piece) = IsPath path × IsPiece count piece
IsWord count (DropsAll path name) = IsPath path × (is_field_name name ≡ true)
IsWord count (Appends path piece) = IsPath path × IsPiece count piece
IsWord count (AppendsText path piece) = IsPath path × IsPiece count piece
IsWord count (Attaches path media name piece) = IsPath path × (is_name media ≡ true) × (is_file_name name ≡ true) × IsPiece count piece
IsWord count (AttachesText path media piece) = IsPath path × (is_name media ≡ true) × IsPiece count piece

-- a line that may be written where there are so many pieces
abbrev pub IsLine : ℕ → ScriptLine → Type 0
IsLine count (Edits word) = IsWord count word
IsLine count Undoes = Unit {0}
IsLine count Redoes = Unit {0}
IsLine count Begins = Unit {0}
IsLine count Ends = Unit {0}

-- a path and a number after it
abbrev pub written_place : List ℕ → ℕ → List ℕ
written_place path number = written_path path ++ (space ∷ decimal number)

-- the name of a transfer encoding
abbrev pub encoding_word : ChosenEncoding → List ℕ
encoding_word Qp = codes "qp"
encoding_word QuotedPrintable = codes "quoted-printable"
encoding_word Base64 = codes "base64"
encoding_word EightBit = codes "8bit"
encoding_word Identity = codes "identity"

-- a word is written as its name and what it is given, parted by one space; a field is written as it is
abbrev pub written : ScriptWord → List ℕ
written (Adds path top field) = (if top then codes "top" else codes "add") ++ (space ∷ (written_path path ++ (space ∷ field)))
written (Deletes target) = codes "del" ++ (space ∷ written_target target)
written (Renames target to) = codes "ren" ++ (space ∷ (written_target target ++ (space ∷ to)))
written (Sets target field) = codes "set" ++ (space ∷ (written_target target ++ (space ∷ field)))
written (Bodies path piece) = codes "body" ++ (space ∷ written_place path piece)
written (Replaces path piece) = codes "replace" ++ (space ∷ written_place path piece)
written (Inserts path place piece) = codes "insert" ++ (space ∷ (written_path path ++ (space ∷ (decimal place ++ (space ∷ decimal piece)))))
written (Removes paths) = codes "remove" ++ (space ∷ join_with_byte space (map written_path paths))
written (Wraps path subtype boundary) = codes "wrap" ++ (space ∷ (written_path path ++ (space ∷ (subtype ++ (space ∷ boundary)))))
written (SetsContent path piece) = codes "content" ++ (space ∷ written_place path piece)
written (SetsText charset path piece) = codes "content" ++ (space ∷ (codes "--charset" ++ (space ∷ (charset ++ (space ∷ written_place path piece)))))
written (Encodes path to) = codes "encode" ++ (space ∷ (written_path path ++ (space ∷ encoding_word to)))
written (Puts path field) = codes "put" ++ (space ∷ (written_path path ++ (space ∷ field)))
written (PutsPiece path piece) = codes "put-piece" ++ (space ∷ written_place path piece)
written (DropsAll path name) = codes "drop" ++ (space ∷ (written_path path ++ (space ∷ name)))
written (Appends path piece) = codes "append" ++ (space ∷ written_place path piece)
written (AppendsText path piece) = codes "append-text" ++ (space ∷ written_place path piece)
written (Attaches path media name piece) = codes "attach" ++ (space ∷ (written_path path ++ (space ∷ (media ++ (space ∷ (name ++ (space ∷ decimal piece)))))))
written (AttachesText path media piece) = codes "attach-text" ++ (space ∷ (written_path path ++ (space ∷ (media ++ (space ∷ decimal piece)))))

-- a line is written as its word
abbrev pub written_line : ScriptLine → List ℕ
written_line (Edits word) = written word
written_line Undoes = codes "undo"
written_line Redoes = codes "redo"
written_line Begins = codes "begin"
written_line Ends = codes "end"
