-- The words that the command line gives to letters (own, after formail).
use Rattle.std.specs.Prelude.{◌≡◌, ◌++◌, ℕ, IsPermutation, List, [], ◌∷◌, codes, map, unwrap_or}
use Rattle.std.specs.List.Sorted.{IsNonDecreasingBy}
use Rattle.std.specs.Option.{option_map}
use Rattle.clap.specs.declared.parser.matches.Found.{Found}
use Rattle.clap.specs.Matches.{matched_of, raw_values}
use Rattle.mk_letters.specs.RoundsAsked.{PlainWord}
use Rattle.mk_letters.specs.declared.words.Letter.{Letter}
use Rattle.mk_letters.specs.declared.words.Letter.TheVariants.{Prepend, Drops, Keeps, KeepsOnly, Rename, AddIf, Add, Prefixed, Only, First, Last, Take, Whole, Sub}

-- a letter with its word, and its place on the command line
pub record PlacedWord : Type 0 where
  pub place : ℕ
  pub word : PlainWord

-- the words that an option takes
abbrev pub words_found : Found → List ℕ → List (List ℕ)
words_found found option = unwrap_or (option_map raw_values (matched_of found option)) []

-- their places on the command line
abbrev pub places_found : Found → List ℕ → List ℕ
places_found found option = unwrap_or (option_map (λ a. a.indices.items) (matched_of found option)) []

-- words of a letter, each with its place; one without a place stands first
abbrev pub words_placed : Letter → List (List ℕ) → List ℕ → List PlacedWord
words_placed letter [] places = []
words_placed letter (word ∷ words) [] = record { place = 0; word = record { letter = letter; word = word } } ∷ words_placed letter words []
words_placed letter (word ∷ words) (place ∷ places) = record { place = place; word = record { letter = letter; word = word } } ∷ words_placed letter words places

-- the words of a letter by the option that takes it
abbrev pub letter_found : Found → Letter → List ℕ → List PlacedWord
letter_found found letter option = words_placed letter (words_found found option) (places_found found option)

-- the words of all letters, each by the option that takes it
abbrev pub letters_found : Found → List PlacedWord
letters_found found =
    letter_found found Prepend (codes "prepend")
    ++ letter_found found Drops (codes "drop")
    ++ letter_found found Keeps (codes "keep") ++ letter_found found KeepsOnly (codes "keep-only")
    ++ letter_found found Rename (codes "rename")
    ++ letter_found found AddIf (codes "add-if") ++ letter_found found Add (codes "add")
    ++ letter_found found Prefixed (codes "prefixed") ++ letter_found found Only (codes "only")
    ++ letter_found found First (codes "first") ++ letter_found found Last (codes "last")
    ++ letter_found found Take (codes "take") ++ letter_found found Whole (codes "whole") ++ letter_found found Sub (codes "sub")

-- words that are these, in the order of their places
pub record AreInOrder (found : List PlacedWord) (words : List PlainWord) : Type 0 where
  pub placed : List PlacedWord
  pub all : IsPermutation found placed
  pub order : IsNonDecreasingBy (λ p. p.place) placed
  pub same : words ≡ map (λ p. p.word) placed
