-- Letters as words of the command line (own, after formail).
use Rattle.mk_line.specs.Ascii.{asterisk}
use Rattle.std.specs.Prelude.{◌==◌, ◌-◌, ◌&&◌, if◌then◌else◌, ℕ, Bool, true, false, Option, None, Some, List, [], drop, is_some, length, map, slice_index, take, unwrap_or}
use Rattle.std.specs.List.{list_all, prefix_len}
use Rattle.std.specs.Option.{option_and_then, option_map, option_map_or}
use Rattle.mk_line.specs.Ascii.{colon, is_blank}
use Rattle.mk_line.specs.Lines.{is_nil}
use Rattle.mk_mail.specs.Letters.{PlainLetters, PlainPattern}
use Rattle.mk_mail.specs.Prepended.{PlainPrepend}
use Rattle.mk_script.specs.Paths.{parted}
use Rattle.mk_letters.specs.declared.letters.LetterWords.{LetterWords}

-- the words that stand after letters, each where its letter was given
pub record PlainWords : Type 0 where
  -- --prepend
  pub prepend : Option (List ℕ)
  -- --drop, each time
  pub drops : List (List ℕ)
  -- --keep and --keep-only, each time
  pub keeps : List (List ℕ)
  -- whether one of these is --keep-only
  pub keep_only : Bool
  -- --rename
  pub rename : Option (List ℕ)
  -- -a
  pub add_if : Option (List ℕ)
  -- -A
  pub add : Option (List ℕ)
  -- -i
  pub prefixed : Option (List ℕ)
  -- -I
  pub only : Option (List ℕ)
  -- -u
  pub first : Option (List ℕ)
  -- -U
  pub last : Option (List ℕ)
  -- -x
  pub take : Option (List ℕ)
  -- -X
  pub whole : Option (List ℕ)

-- words as they are
abbrev pub words_of : LetterWords → PlainWords
words_of w = record {
  prepend = option_map (λ s. s.now) w.prepend;
  drops = map (λ s. s.now) w.drops.items;
  keeps = map (λ s. s.now) w.keeps.items;
  keep_only = w.keep_only;
  rename = option_map (λ s. s.now) w.rename;
  add_if = option_map (λ s. s.now) w.add_if;
  add = option_map (λ s. s.now) w.add;
  prefixed = option_map (λ s. s.now) w.prefixed;
  only = option_map (λ s. s.now) w.only;
  first = option_map (λ s. s.now) w.first;
  last = option_map (λ s. s.now) w.last;
  take = option_map (λ s. s.now) w.take;
  whole = option_map (λ s. s.now) w.whole;
}

-- the name of a word that is a name and a colon: what stands before the colon, where nothing stands after it
abbrev pub name_in : List ℕ → Option (List ℕ)
name_in word = option_and_then (λ p. if is_nil p.1 then Some p.0 else None) (parted colon word)

-- a word that is a name and a colon
abbrev pub is_name_word : List ℕ → Bool
is_name_word word = is_some (name_in word)

-- a word with a colon, as those of two names and those of a name and a text have it
abbrev pub is_pair_word : List ℕ → Bool
is_pair_word word = is_some (parted colon word)

-- a name as a pattern: what stands before an asterisk at its end is the front of names
abbrev pub pattern_in : List ℕ → PlainPattern
pattern_in name =
    if slice_index name (length name - 1) == asterisk then record { text = take (length name - 1) name; is_front = true } else record { text = name; is_front = false }

-- the pattern of a word that is a name and a colon
abbrev pub pattern_asked : List ℕ → PlainPattern
pattern_asked word = pattern_in (unwrap_or (name_in word) [])

-- the text of `--prepend` after its name and colon, without the blanks at its start
abbrev pub prepend_in : List ℕ × List ℕ → PlainPrepend
prepend_in p = record { name = p.0; text = drop (prefix_len is_blank p.1) p.1 }

-- the words that take names have their colons
abbrev pub have_colons : PlainWords → Bool
have_colons w =
    list_all is_name_word w.drops && list_all is_name_word w.keeps && option_map_or is_name_word w.first true && (option_map_or is_name_word w.last true && (option_map_or is_name_word w.take true && (option_map_or is_name_word w.whole true && (option_map_or is_pair_word w.rename true && option_map_or is_pair_word w.prepend true))))

-- what words ask for, each by the letter that takes it
abbrev pub letters_asked : PlainWords → PlainLetters
letters_asked w = record {
  prepend = option_map prepend_in (option_and_then (parted colon) w.prepend);
  drops = map pattern_asked w.drops;
  keeps = map pattern_asked w.keeps;
  keep_only = w.keep_only;
  rename = option_and_then (parted colon) w.rename;
  add_if = w.add_if;
  add = w.add;
  prefixed = w.prefixed;
  only = w.only;
  first = option_and_then name_in w.first;
  last = option_and_then name_in w.last;
  take = option_and_then name_in w.take;
  whole = option_and_then name_in w.whole;
}

-- the same, where all names have their colons
abbrev pub asked : PlainWords → Option PlainLetters
asked w = if have_colons w then Some (letters_asked w) else None
