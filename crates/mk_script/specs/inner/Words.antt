-- What each word of a script is given, for the function that reads it.
use Rattle.std.specs.Prelude.{◌==◌, if◌then◌else◌, ℕ, Bool, List, Option, None, Some}
use Rattle.std.specs.List.{slice_split}
use Rattle.std.specs.Option.{option_map, option_map_or, option_and_then}
use Rattle.mk_line.specs.Ascii.{space}
use Rattle.mk_script.specs.Paths.{path_of, read_each}
use Rattle.mk_script.specs.Script.{ScriptWord, Adds, Deletes, Renames, Sets, Inserts, Removes, Wraps, SetsContent, SetsText, Encodes, Puts, DropsAll, Attaches, AttachesText, chosen, piece_of, placed}
use Rattle.mk_script.specs.Targets.{as_name, count_of, is_field_name, is_name, read_file, read_first, Target, target_front, whole_target}

-- the field that is picked by the texts of a path, a name and a number
abbrev pub target_of : List ℕ → List ℕ → List ℕ → Option Target
target_of place name number =
    option_and_then (λ path. if is_name name then option_map (λ k. record { path = path; name = name; k = k }) (count_of number) else None) (path_of place)

-- `add` and `top`
abbrev pub adding : Bool → List ℕ → Option ScriptWord
adding top rest = read_first path_of (λ path field. Some (Adds path top field)) rest

-- `del`
abbrev pub deleting : List ℕ → Option ScriptWord
deleting rest = option_map (λ target. Deletes target) (whole_target rest)

-- `ren`
abbrev pub renaming : List ℕ → Option ScriptWord
renaming rest = option_and_then (λ p. if is_name p.1 then Some (Renames p.0 p.1) else None) (target_front rest)

-- `set`
abbrev pub setting : List ℕ → Option ScriptWord
setting rest = option_map (λ p. Sets p.0 p.1) (target_front rest)

-- the words that are given a path and a piece
abbrev pub placing : ℕ → (List ℕ → ℕ → ScriptWord) → List ℕ → Option ScriptWord
placing count word rest = option_map (λ p. word p.0 p.1) (placed count rest)

-- `insert`
abbrev pub inserting : ℕ → List ℕ → Option ScriptWord
inserting count rest = read_first path_of (λ path. read_first count_of (λ place number. option_map (λ piece. Inserts path place piece) (piece_of count number))) rest

-- `remove`
abbrev pub removing : List ℕ → Option ScriptWord
removing rest = option_map (λ paths. Removes paths) (read_each path_of (slice_split (λ byte. byte == space) rest))

-- `wrap`
abbrev pub wrapping : List ℕ → Option ScriptWord
wrapping rest = read_first path_of (λ path. read_first as_name (λ subtype boundary. Some (Wraps path subtype boundary))) rest

-- `encode`
abbrev pub encoding : List ℕ → Option ScriptWord
encoding rest = read_first path_of (λ path name. option_map (λ to. Encodes path to) (chosen name)) rest

-- `put`
abbrev pub putting : List ℕ → Option ScriptWord
putting rest = read_first path_of (λ path field. Some (Puts path field)) rest

-- `drop`
abbrev pub dropping : List ℕ → Option ScriptWord
dropping rest = read_first path_of (λ path name. if is_field_name name then Some (DropsAll path name) else None) rest

-- `attach`
abbrev pub attaching : ℕ → List ℕ → Option ScriptWord
attaching count rest = read_first path_of (λ path. read_first as_name (λ media. read_file (λ name number. option_map (λ piece. Attaches path media name piece) (piece_of count number)))) rest

-- `attach-text`
abbrev pub attaching_text : ℕ → List ℕ → Option ScriptWord
attaching_text count rest = read_first path_of (λ path. read_first as_name (λ media number. option_map (λ piece. AttachesText path media piece) (piece_of count number))) rest

-- `content --charset`
abbrev pub with_charset : ℕ → List ℕ → Option ScriptWord
with_charset count rest = read_first as_name (λ charset place. option_map (λ p. SetsText charset p.0 p.1) (placed count place)) rest

-- `content`, with what stands after `--charset`
abbrev pub content_by : ℕ → List ℕ → Option (List ℕ) → Option ScriptWord
content_by count rest more = option_map_or (with_charset count) more (placing count (λ path piece. SetsContent path piece) rest)
