-- The words of a script that are given a path and a piece, as they are written.
use Rattle.std.proofs.Common.{◌≡◌, ℕ, true, if◌then◌else◌, List, ◌∷◌, ◌++◌, Some, None, decimal, nat_le, refl, ap, ◌∙◌, subst, inl, inr}
use Rattle.std.proofs.lemmas.Bool.{cases_Bool, leb-true, le-leb}
use Rattle.std.proofs.lemmas.Slice.Eq.{bytes_eq-Decides}
use Rattle.std.specs.Option.{option_map}
use Rattle.std.specs.Str.{bytes_eq}
use Rattle.mk_line.specs.Ascii.{space}
use Rattle.mk_script.specs.Paths.{number_of}
use Rattle.mk_script.specs.Script.{ScriptWord, piece_of, placed}
use Rattle.mk_script.specs.inner.Words.{placing}
use Rattle.mk_script.specs.Written.{IsPath, IsPiece, written_path, written_place, IsWord, written}
use Rattle.mk_script.proofs.NumberLemmas.{some_same, none_some, number_of-decimal, number_of-written}
use Rattle.mk_script.proofs.PieceLemmas.{parted-append}
use Rattle.mk_script.proofs.WrittenLemmas.{path_of-written}
use Rattle.mk_script.proofs.FirstWords.{and_then-some, map-some, path-read, path_holds}

-- a word's name, a space and what it is given make up the line
pub named : (name line : List ℕ) (word : ScriptWord) (p : List ℕ × List ℕ) → line ≡ p.0 ++ (space ∷ p.1) → bytes_eq p.0 name ≡ true
    → name ++ (space ∷ p.1) ≡ written word → line ≡ written word
named name line word p parts same is = parts ∙ ap (λ n. n ++ (space ∷ p.1)) ((bytes_eq-Decides p.0 name).0 same) ∙ is

-- the number of a piece
pub piece-read : (count : ℕ) (text : List ℕ) (piece : ℕ) → piece_of count text ≡ Some piece → IsPiece count piece × (text ≡ decimal piece)
piece-read count text piece e =
    let found = and_then-some (λ k. if nat_le k count then Some k else None) (number_of text) piece e in
    elim (cases_Bool (nat_le found.0 count)) [
      | inr f ↦ absurd (none_some (rw f at found.2))
      | inl t ↦
          let same : found.0 ≡ piece = some_same (rw t at found.2) in
          let read = number_of-decimal text found.0 found.1 in
          subst (λ k. IsPiece count k × (text ≡ decimal k)) same (record { some = read.0; fits = read.1; there = leb-true found.0 count t }, read.2)
    ]

pub piece-written : (count piece : ℕ) → IsPiece count piece → piece_of count (decimal piece) ≡ Some piece
piece-written count piece h = let there : nat_le piece count ≡ true = le-leb piece count h.there in rw (number_of-written piece h.some h.fits, there) refl

-- ---- a path and a piece

placed-read : (count : ℕ) (rest : List ℕ) (found : List ℕ × ℕ) → placed count rest ≡ Some found → IsPath found.0 × IsPiece count found.1 × (rest ≡ written_place found.0 found.1)
placed-read count rest found e =
    let p = path-read (λ path number. option_map (λ piece. (path, piece)) (piece_of count number)) rest found e in
    let k = map-some (λ piece. (p.0, piece)) (piece_of count p.1) found p.3 in
    let read = piece-read count p.1 k.0 k.1 in
    subst (λ (f : List ℕ × ℕ). IsPath f.0 × IsPiece count f.1 × (rest ≡ written_place f.0 f.1)) k.2 (p.2, read.0, p.4 ∙ ap (λ n. written_path p.0 ++ (space ∷ n)) read.1)

-- a word that is given a path and a piece is the one that is made of them
pub placing-read : (count : ℕ) (name : List ℕ) (make : List ℕ → ℕ → ScriptWord) (rest : List ℕ) (word : ScriptWord)
    → ((path : List ℕ) (piece : ℕ) → IsPath path → IsPiece count piece → IsWord count (make path piece) × (name ++ (space ∷ written_place path piece) ≡ written (make path piece)))
    → placing count make rest ≡ Some word → IsWord count word × (name ++ (space ∷ rest) ≡ written word)
placing-read count name make rest word is e =
    let found = map-some (λ (p : List ℕ × ℕ). make p.0 p.1) (placed count rest) word e in
    let read = placed-read count rest found.0 found.1 in
    let one = is found.0.0 found.0.1 read.0 read.1 in
    subst (λ w. IsWord count w × (name ++ (space ∷ rest) ≡ written w)) found.2 (one.0, ap (λ l. name ++ (space ∷ l)) read.2 ∙ one.1)

pub placing-written : (count : ℕ) (make : List ℕ → ℕ → ScriptWord) (path : List ℕ) (piece : ℕ) → IsPath path → IsPiece count piece → placing count make (written_place path piece) ≡ Some (make path piece)
placing-written count make path piece h k = rw (parted-append space (written_path path) (decimal piece) (path_holds path h), path_of-written path h, piece-written count piece k) refl
