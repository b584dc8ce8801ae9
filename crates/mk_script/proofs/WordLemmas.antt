-- The words of a script, as they are written.
use Rattle.std.proofs.Common.{◌≡◌, ℕ, Bool, true, false, if◌then◌else◌, List, ◌∷◌, ◌++◌, Some, None, Option, codes, decimal, map, refl, ap, subst, inl, inr}
use Rattle.std.proofs.lemmas.Bool.{cases_Bool}
use Rattle.std.specs.List.{join_with_byte}
use Rattle.std.specs.Option.{option_and_then}
use Rattle.std.specs.Str.{bytes_eq}
use Rattle.mk_line.specs.Ascii.{space}
use Rattle.mk_script.specs.Paths.{parted}
use Rattle.mk_script.specs.Targets.{Target, is_name, whole_target, target_front}
use Rattle.mk_script.specs.Script.{ScriptWord, Adds, Deletes, Renames, Sets, Bodies, Replaces, Inserts, Removes, Wraps, SetsContent, SetsText, Encodes, Puts, PutsPiece, DropsAll, Appends, AppendsText, Attaches, AttachesText, word_at, word_with, word_of}
use Rattle.mk_script.specs.inner.Words.{adding, deleting, renaming, setting}
use Rattle.mk_script.specs.Written.{IsPath, encoding_word, written_path, written_target, written_place, IsWord, written}
use Rattle.mk_script.proofs.NumberLemmas.{some_same, none_some}
use Rattle.mk_script.proofs.PieceLemmas.{parted-append, parted-joined}
use Rattle.mk_script.proofs.WrittenLemmas.{path_of-written}
use Rattle.mk_script.proofs.PlacedWords.{named, placing-written}
use Rattle.mk_script.proofs.PieceWords.{word_on-parts, inserting-written, removing-written, wrapping-written}
use Rattle.mk_script.proofs.JobWords.{attaching-written, attaching_text-written, charset-written, content-written, dropping-written, encoding-written, putting-written}
use Rattle.mk_script.proofs.TargetLemmas.{whole_target-read, whole_target-written, target_front-read, target_front-written}
use Rattle.mk_script.proofs.FirstWords.{and_then-some, map-some, name_holds, path-read, path_holds}

-- the name of a word that adds a field
abbrev name_of : Bool → List ℕ
name_of top = if top then codes "top" else codes "add"

adding-read : (count : ℕ) (top : Bool) (rest : List ℕ) (word : ScriptWord) → adding top rest ≡ Some word → IsWord count word × (name_of top ++ (space ∷ rest) ≡ written word)
adding-read count top rest word e =
    let p = path-read (λ path field. Some (Adds path top field)) rest word e in
    subst (λ w. IsWord count w × (name_of top ++ (space ∷ rest) ≡ written w)) (some_same p.3) (p.2, ap (λ l. name_of top ++ (space ∷ l)) p.4)

deleting-read : (count : ℕ) (rest : List ℕ) (word : ScriptWord) → deleting rest ≡ Some word → IsWord count word × (codes "del" ++ (space ∷ rest) ≡ written word)
deleting-read count rest word said =
    let found = map-some (λ target. Deletes target) (whole_target rest) word said in
    let read = whole_target-read rest found.0 found.1 in
    subst (λ w. IsWord count w × (codes "del" ++ (space ∷ rest) ≡ written w)) found.2 (read.0, ap (λ l. codes "del" ++ (space ∷ l)) read.1)

renaming-read : (count : ℕ) (rest : List ℕ) (word : ScriptWord) → renaming rest ≡ Some word → IsWord count word × (codes "ren" ++ (space ∷ rest) ≡ written word)
renaming-read count rest word said =
    let found = and_then-some (λ (p : Target × List ℕ). if is_name p.1 then Some (Renames p.0 p.1) else None) (target_front rest) word said in
    elim (cases_Bool (is_name found.0.1)) [
      | inr f ↦ absurd (none_some (rw f at found.2))
      | inl t ↦
          let same : Renames found.0.0 found.0.1 ≡ word = some_same (rw t at found.2) in
          let read = target_front-read rest found.0 found.1 in
          subst (λ w. IsWord count w × (codes "ren" ++ (space ∷ rest) ≡ written w)) same ((read.0, t), ap (λ l. codes "ren" ++ (space ∷ l)) read.1)
    ]

setting-read : (count : ℕ) (rest : List ℕ) (word : ScriptWord) → setting rest ≡ Some word → IsWord count word × (codes "set" ++ (space ∷ rest) ≡ written word)
setting-read count rest word said =
    let found = map-some (λ (p : Target × List ℕ). Sets p.0 p.1) (target_front rest) word said in
    let read = target_front-read rest found.0 found.1 in
    subst (λ w. IsWord count w × (codes "set" ++ (space ∷ rest) ≡ written w)) found.2 (read.0, ap (λ l. codes "set" ++ (space ∷ l)) read.1)

word_at-parts : (count : ℕ) (line : List ℕ) (word : ScriptWord) (p : List ℕ × List ℕ) → line ≡ p.0 ++ (space ∷ p.1) → word_at count p ≡ Some word
    → IsWord count word × (line ≡ written word)
word_at-parts count line word p parts said = elim (cases_Bool (bytes_eq p.0 (codes "del"))) [
  | inl del ↦ let read = deleting-read count p.1 word (rw del at said) in (read.0, named (codes "del") line word p parts del read.1)
  | inr other ↦ elim (cases_Bool (bytes_eq p.0 (codes "ren"))) [
    | inl ren ↦ let read = renaming-read count p.1 word (rw (other, ren) at said) in (read.0, named (codes "ren") line word p parts ren read.1)
    | inr neither ↦ elim (cases_Bool (bytes_eq p.0 (codes "set"))) [
      | inl set ↦ let read = setting-read count p.1 word (rw (other, neither, set) at said) in (read.0, named (codes "set") line word p parts set read.1)
      | inr none ↦ word_on-parts count line word p parts (rw (other, neither, none) at said)
    ]
  ]
]

word_with-parts : (count : ℕ) (line : List ℕ) (word : ScriptWord) (p : List ℕ × List ℕ) → line ≡ p.0 ++ (space ∷ p.1) → word_with count p ≡ Some word
    → IsWord count word × (line ≡ written word)
word_with-parts count line word p parts said = elim (cases_Bool (bytes_eq p.0 (codes "add"))) [
  | inl add ↦ let read = adding-read count false p.1 word (rw add at said) in (read.0, named (codes "add") line word p parts add read.1)
  | inr other ↦ elim (cases_Bool (bytes_eq p.0 (codes "top"))) [
    | inl top ↦ let read = adding-read count true p.1 word (rw (other, top) at said) in (read.0, named (codes "top") line word p parts top read.1)
    | inr neither ↦ word_at-parts count line word p parts (rw (other, neither) at said)
  ]
]

word_of-parts : (count : ℕ) (line : List ℕ) (word : ScriptWord) (parts : Option (List ℕ × List ℕ)) → parted space line ≡ parts
    → option_and_then (word_with count) parts ≡ Some word → IsWord count word × (line ≡ written word)
word_of-parts count line word None e said = absurd (none_some said)
word_of-parts count line word (Some p) e said = word_with-parts count line word p (parted-joined space line p e) said

-- a word that a line says is one, and the line is the word as it is written
pub word_of-read : (count : ℕ) (line : List ℕ) (word : ScriptWord) → word_of count line ≡ Some word → IsWord count word × (line ≡ written word)
word_of-read count line word said = word_of-parts count line word (parted space line) refl said

adding-written : (top : Bool) (path field : List ℕ) → IsPath path → adding top (written_path path ++ (space ∷ field)) ≡ Some (Adds path top field)
adding-written top path field h =
    rw (parted-append space (written_path path) field (path_holds path h), path_of-written path h) refl

-- a word that is written is said by the line
pub word_of-written : (count : ℕ) (word : ScriptWord) → IsWord count word → word_of count (written word) ≡ Some word
word_of-written count (Adds path false field) h = rw (parted-append space (codes "add") (written_path path ++ (space ∷ field)) (name_holds (codes "add") refl)) (adding-written false path field h)
word_of-written count (Adds path true field) h = rw (parted-append space (codes "top") (written_path path ++ (space ∷ field)) (name_holds (codes "top") refl)) (adding-written true path field h)
word_of-written count (Deletes target) h = rw (parted-append space (codes "del") (written_target target) (name_holds (codes "del") refl), whole_target-written target h) refl
word_of-written count (Renames target to) h =
    rw (parted-append space (codes "ren") (written_target target ++ (space ∷ to)) (name_holds (codes "ren") refl), target_front-written target to h.0, h.1) refl
word_of-written count (Sets target field) h = rw (parted-append space (codes "set") (written_target target ++ (space ∷ field)) (name_holds (codes "set") refl), target_front-written target field h) refl
word_of-written count (Bodies path piece) h =
    rw (parted-append space (codes "body") (written_place path piece) (name_holds (codes "body") refl)) (placing-written count (λ p k. Bodies p k) path piece h.0 h.1)
word_of-written count (Replaces path piece) h =
    rw (parted-append space (codes "replace") (written_place path piece) (name_holds (codes "replace") refl)) (placing-written count (λ p k. Replaces p k) path piece h.0 h.1)
word_of-written count (Inserts path place piece) h =
    rw (parted-append space (codes "insert") (written_path path ++ (space ∷ (decimal place ++ (space ∷ decimal piece)))) (name_holds (codes "insert") refl)) (inserting-written count path place piece h.0 h.1 h.2)
word_of-written count (Removes paths) h =
    rw (parted-append space (codes "remove") (join_with_byte space (map written_path paths)) (name_holds (codes "remove") refl)) (removing-written paths h.0 h.1)
word_of-written count (Wraps path subtype boundary) h =
    rw (parted-append space (codes "wrap") (written_path path ++ (space ∷ (subtype ++ (space ∷ boundary)))) (name_holds (codes "wrap") refl)) (wrapping-written path subtype boundary h.0 h.1)
word_of-written count (SetsContent path piece) h =
    rw (parted-append space (codes "content") (written_place path piece) (name_holds (codes "content") refl)) (content-written count path piece h.0 h.1)
word_of-written count (SetsText charset path piece) h =
    rw (parted-append space (codes "content") (codes "--charset" ++ (space ∷ (charset ++ (space ∷ written_place path piece)))) (name_holds (codes "content") refl)) (charset-written count charset path piece h.0 h.1 h.2)
word_of-written count (Encodes path to) h = rw (parted-append space (codes "encode") (written_path path ++ (space ∷ encoding_word to)) (name_holds (codes "encode") refl)) (encoding-written path to h)
word_of-written count (Puts path field) h = rw (parted-append space (codes "put") (written_path path ++ (space ∷ field)) (name_holds (codes "put") refl)) (putting-written path field h)
word_of-written count (PutsPiece path piece) h =
    rw (parted-append space (codes "put-piece") (written_place path piece) (name_holds (codes "put-piece") refl)) (placing-written count (λ p k. PutsPiece p k) path piece h.0 h.1)
word_of-written count (DropsAll path name) h = rw (parted-append space (codes "drop") (written_path path ++ (space ∷ name)) (name_holds (codes "drop") refl)) (dropping-written path name h.0 h.1)
word_of-written count (Appends path piece) h =
    rw (parted-append space (codes "append") (written_place path piece) (name_holds (codes "append") refl)) (placing-written count (λ p k. Appends p k) path piece h.0 h.1)
word_of-written count (AppendsText path piece) h =
    rw (parted-append space (codes "append-text") (written_place path piece) (name_holds (codes "append-text") refl)) (placing-written count (λ p k. AppendsText p k) path piece h.0 h.1)
word_of-written count (Attaches path media name piece) h =
    rw (parted-append space (codes "attach") (written_path path ++ (space ∷ (media ++ (space ∷ (name ++ (space ∷ decimal piece)))))) (name_holds (codes "attach") refl)) (attaching-written count path media name piece h.0 h.1 h.2 h.3)
word_of-written count (AttachesText path media piece) h =
    rw (parted-append space (codes "attach-text") (written_path path ++ (space ∷ (media ++ (space ∷ decimal piece)))) (name_holds (codes "attach-text") refl)) (attaching_text-written count path media piece h.0 h.1 h.2)
