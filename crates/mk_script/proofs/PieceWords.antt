-- The words of a script that change more than fields, as they are written.
use Rattle.std.proofs.Common.{◌≡◌, ◌<◌, ◌^◌, ℕ, true, List, [], ◌∷◌, ◌++◌, Option, Some, None, codes, decimal, length, map, refl, sym, ap, ◌∙◌, subst, inl, inr, arith}
use Rattle.std.proofs.lemmas.Bool.{cases_Bool}
use Rattle.std.specs.List.{AllByRecursion, join_with_byte}
use Rattle.std.specs.Option.{option_map, option_and_then}
use Rattle.std.specs.Str.{bytes_eq}
use Rattle.mk_line.specs.Ascii.{space}
use Rattle.mk_script.specs.Paths.{path_of, read_each}
use Rattle.mk_script.specs.inner.Numbers.{pieces_of}
use Rattle.mk_script.specs.Targets.{as_name, count_of, is_name, read_first}
use Rattle.mk_script.specs.Script.{ScriptWord, Bodies, Replaces, Inserts, Removes, Wraps, piece_of, word_on}
use Rattle.mk_script.specs.inner.Words.{inserting, removing, wrapping}
use Rattle.mk_script.specs.Written.{IsPath, IsPiece, written_path, IsWord, written}
use Rattle.mk_script.proofs.NumberLemmas.{some_same, none_some}
use Rattle.mk_script.proofs.PieceLemmas.{AllHoldNo, HasFirst, join-pieces_of, pieces_of-join, pieces_of-some}
use Rattle.mk_script.proofs.PlacedWords.{named, piece-read, piece-written, placing-read}
use Rattle.mk_script.proofs.JobWords.{job_of-parts}
use Rattle.mk_script.proofs.WrittenLemmas.{path_of-decimal, path_of-written}
use Rattle.mk_script.proofs.FirstWords.{count-read, count-then, map-some, name-read, name-then, path-read, path-then, path_holds}

-- a part more
insert-read : (count : ℕ) (rest : List ℕ) (word : ScriptWord) → inserting count rest ≡ Some word → IsWord count word × (codes "insert" ++ (space ∷ rest) ≡ written word)
insert-read count rest word e =
    let p = path-read (λ path. read_first count_of (λ place number. option_map (λ piece. Inserts path place piece) (piece_of count number))) rest word e in
    let q = count-read (λ place number. option_map (λ piece. Inserts p.0 place piece) (piece_of count number)) p.1 word p.3 in
    let k = map-some (λ piece. Inserts p.0 q.0 piece) (piece_of count q.1) word q.3 in
    let piece = piece-read count q.1 k.0 k.1 in
    let whole : rest ≡ written_path p.0 ++ (space ∷ (decimal q.0 ++ (space ∷ decimal k.0))) =
    p.4 ∙ ap (λ l. written_path p.0 ++ (space ∷ l)) (q.4 ∙ ap (λ n. decimal q.0 ++ (space ∷ n)) piece.1) in
    subst (λ w. IsWord count w × (codes "insert" ++ (space ∷ rest) ≡ written w)) k.2 ((p.2, q.2, piece.0), ap (λ l. codes "insert" ++ (space ∷ l)) whole)

pub inserting-written : (count : ℕ) (path : List ℕ) (place piece : ℕ) → IsPath path → place < 2 ^ 32 → IsPiece count piece → inserting count (written_path path ++ (space ∷ (decimal place ++ (space ∷ decimal piece)))) ≡ Some (Inserts path place piece)
inserting-written count path place piece h small k =
    path-then (λ p. read_first count_of (λ n number. option_map (λ piece. Inserts p n piece) (piece_of count number))) path (decimal place ++ (space ∷ decimal piece)) h
    ∙ (count-then (λ n number. option_map (λ piece. Inserts path n piece) (piece_of count number)) place (decimal piece) small ∙ ap (option_map (λ piece. Inserts path place piece)) (piece-written count piece k))

-- paths, each as it is written
paths_of-with : (text : List ℕ) (texts : List (List ℕ)) (paths : List (List ℕ)) (first : Option (List ℕ)) (others : Option (List (List ℕ)))
    → path_of text ≡ first → ((ps : List (List ℕ)) → others ≡ Some ps → AllByRecursion IsPath ps × (texts ≡ map written_path ps))
    → option_and_then (λ p. option_map (λ ps. p ∷ ps) others) first ≡ Some paths → AllByRecursion IsPath paths × (text ∷ texts ≡ map written_path paths)
paths_of-with text texts paths None others f rest e = absurd (none_some e)
paths_of-with text texts paths (Some p) None f rest e = absurd (none_some e)
paths_of-with text texts paths (Some p) (Some ps) f rest e =
    let same : p ∷ ps ≡ paths = some_same e in
    let one = path_of-decimal text p f in
    let more = rest ps refl in
    subst (λ all. AllByRecursion IsPath all × (text ∷ texts ≡ map written_path all)) same ((one.0, more.0), ap (λ t. t ∷ texts) one.1 ∙ ap (λ ts. written_path p ∷ ts) more.1)

paths_of-read : (texts : List (List ℕ)) (paths : List (List ℕ)) → read_each path_of texts ≡ Some paths → AllByRecursion IsPath paths × (texts ≡ map written_path paths)
paths_of-read [] paths e =
    let none : [] ≡ paths = some_same e in
    subst (λ all. AllByRecursion IsPath all × ([] ≡ map written_path all)) none (tt, refl)
paths_of-read (text ∷ texts) paths e = paths_of-with text texts paths (path_of text) (read_each path_of texts) refl (λ ps. paths_of-read texts ps) e

paths_of-written : (paths : List (List ℕ)) → AllByRecursion IsPath paths → read_each path_of (map written_path paths) ≡ Some paths
paths_of-written [] h = refl
paths_of-written (p ∷ ps) h = rw (path_of-written p h.0, paths_of-written ps h.1) refl

some_paths : (paths : List (List ℕ)) → HasFirst (map written_path paths) → 0 < length paths
some_paths [] h = absurd h
some_paths (p ∷ ps) h = omega arith

all_hold : (paths : List (List ℕ)) → AllByRecursion IsPath paths → AllHoldNo space (map written_path paths)
all_hold [] h = tt
all_hold (p ∷ ps) h = (path_holds p h.0, all_hold ps h.1)

remove-read : (count : ℕ) (rest : List ℕ) (word : ScriptWord) → removing rest ≡ Some word → IsWord count word × (codes "remove" ++ (space ∷ rest) ≡ written word)
remove-read count rest word e =
    let found = map-some (λ paths. Removes paths) (read_each path_of (pieces_of space rest)) word e in
    let read = paths_of-read (pieces_of space rest) found.0 found.1 in
    let some : HasFirst (map written_path found.0) = subst HasFirst read.1 (pieces_of-some space rest) in
    let is : rest ≡ join_with_byte space (map written_path found.0) = sym (join-pieces_of space rest) ∙ ap (join_with_byte space) read.1 in
    subst (λ w. IsWord count w × (codes "remove" ++ (space ∷ rest) ≡ written w)) found.2 ((some_paths found.0 some, read.0), ap (λ l. codes "remove" ++ (space ∷ l)) is)

pub removing-written : (paths : List (List ℕ)) → 0 < length paths → AllByRecursion IsPath paths → removing (join_with_byte space (map written_path paths)) ≡ Some (Removes paths)
removing-written [] some h = absurd (omega arith)
removing-written (p ∷ ps) some h =
    let parts = pieces_of-join space (written_path p) (map written_path ps) (all_hold (p ∷ ps) h) in
    rw (parts, paths_of-written (p ∷ ps) h) refl

wrap-read : (count : ℕ) (rest : List ℕ) (word : ScriptWord) → wrapping rest ≡ Some word → IsWord count word × (codes "wrap" ++ (space ∷ rest) ≡ written word)
wrap-read count rest word e =
    let p = path-read (λ path. read_first as_name (λ subtype boundary. Some (Wraps path subtype boundary))) rest word e in
    let q = name-read (λ subtype boundary. Some (Wraps p.0 subtype boundary)) p.1 word p.3 in
    let whole : rest ≡ written_path p.0 ++ (space ∷ (q.0 ++ (space ∷ q.1))) = p.4 ∙ ap (λ l. written_path p.0 ++ (space ∷ l)) q.4 in
    subst (λ w. IsWord count w × (codes "wrap" ++ (space ∷ rest) ≡ written w)) (some_same q.3) ((p.2, q.2), ap (λ l. codes "wrap" ++ (space ∷ l)) whole)

pub wrapping-written : (path subtype boundary : List ℕ) → IsPath path → is_name subtype ≡ true → wrapping (written_path path ++ (space ∷ (subtype ++ (space ∷ boundary)))) ≡ Some (Wraps path subtype boundary)
wrapping-written path subtype boundary h n =
    path-then (λ p. read_first as_name (λ s b. Some (Wraps p s b))) path (subtype ++ (space ∷ boundary)) h ∙ name-then (λ s b. Some (Wraps path s b)) subtype boundary n

pub word_on-parts : (count : ℕ) (line : List ℕ) (word : ScriptWord) (p : List ℕ × List ℕ) → line ≡ p.0 ++ (space ∷ p.1) → word_on count p ≡ Some word → IsWord count word × (line ≡ written word)
word_on-parts count line word p parts said = elim (cases_Bool (bytes_eq p.0 (codes "body"))) [
  | inl body ↦ let read = placing-read count (codes "body") (λ path piece. Bodies path piece) p.1 word (λ path piece h k. ((h, k), refl)) (rw body at said) in (read.0, named (codes "body") line word p parts body read.1)
  | inr other ↦ elim (cases_Bool (bytes_eq p.0 (codes "replace"))) [
    | inl replace ↦ let read = placing-read count (codes "replace") (λ path piece. Replaces path piece) p.1 word (λ path piece h k. ((h, k), refl)) (rw (other, replace) at said) in (read.0, named (codes "replace") line word p parts replace read.1)
    | inr neither ↦ elim (cases_Bool (bytes_eq p.0 (codes "insert"))) [
      | inl insert ↦ let read = insert-read count p.1 word (rw (other, neither, insert) at said) in (read.0, named (codes "insert") line word p parts insert read.1)
      | inr more ↦ elim (cases_Bool (bytes_eq p.0 (codes "remove"))) [
        | inl remove ↦ let read = remove-read count p.1 word (rw (other, neither, more, remove) at said) in (read.0, named (codes "remove") line word p parts remove read.1)
        | inr last ↦ elim (cases_Bool (bytes_eq p.0 (codes "wrap"))) [
          | inl wrap ↦ let read = wrap-read count p.1 word (rw (other, neither, more, last, wrap) at said) in (read.0, named (codes "wrap") line word p parts wrap read.1)
          | inr none ↦ job_of-parts count line word p parts (rw (other, neither, more, last, none) at said)
        ]
      ]
    ]
  ]
]
