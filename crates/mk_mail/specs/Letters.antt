-- Letters: a filter of the fields of a section, as a list of edits (own, after formail).
use Rattle.mk_view.specs.Listed.{greatest_number}
use Rattle.std.specs.Option.{option_map_or}
use Rattle.std.specs.Prelude.{◌+◌, ◌++◌, ◌==◌, ◌&&◌, ◌||◌, if◌then◌else◌, ℕ, Bool, true, false, not, Option, None, Some, List, [], ◌∷◌, codes, drop, filter, is_some, length, map, nat_lt, take, unwrap_or}
use Rattle.std.specs.List.{list_all, list_any, prefix_len}
use Rattle.std.specs.Str.{bytes_eq, str_to_ascii_lowercase}
use Rattle.mk_line.specs.declared.cutting.Ending.{Ending}
use Rattle.mk_line.specs.Ascii.{colon, is_blank, is_name_byte}
use Rattle.mk_line.specs.Lines.{cut, ending_bytes, eol_of, is_nil}
use Rattle.mk_head.specs.Fields.{FieldText, is_named, is_one_field}
use Rattle.mk_line.specs.Parting.{following}
use Rattle.mk_tree.specs.Documents.{tree}
use Rattle.mk_tree.specs.Sections.{section_at, section_fields}
use Rattle.mk_decide.specs.Edits.{PlainEdit, AddField, RemoveField, RenameField, SetField}
use Rattle.mk_line.specs.Kinds.{is_name}
use Rattle.mk_line.specs.Lines.{ends_open}
use Rattle.mk_mail.specs.Prepended.{PlainPrepend, is_prepend, prepended}

-- names of fields: one, or all that begin so
pub record PlainPattern : Type 0 where
  pub text : List ℕ
  pub is_front : Bool

-- what is asked for; a name stands without its colon
pub record PlainLetters : Type 0 where
  -- `--prepend`: a text before what the fields of a name say
  pub prepend : Option PlainPrepend
  -- `--drop`: the fields of these names go
  pub drops : List PlainPattern
  -- `--keep`: where there are some, all fields go but those of these names
  pub keeps : List PlainPattern
  -- `--keep-only`: then those go, too, that say the structure of the message
  pub keep_only : Bool
  -- `--rename`: each field of a name gets another
  pub rename : Option (List ℕ × List ℕ)
  -- `-a`: a field, unless one of its name is there
  pub add_if : Option (List ℕ)
  -- `-A`: a field
  pub add : Option (List ℕ)
  -- `-i`: a field, those of its name renamed
  pub prefixed : Option (List ℕ)
  -- `-I`: a field in the place of those of its name
  pub only : Option (List ℕ)
  -- `-u`: the first field of a name alone
  pub first : Option (List ℕ)
  -- `-U`: the last field of a name alone
  pub last : Option (List ℕ)
  -- `-x`: what the fields of a name hold
  pub take : Option (List ℕ)
  -- `-X`: the fields of a name
  pub whole : Option (List ℕ)

-- exactly one field, whose last line has no ending
abbrev pub is_given_field : List ℕ → Bool
is_given_field text = is_one_field (cut text) && ends_open text

-- only blanks stand after the first colon; a line feed is none
abbrev pub is_bare : List ℕ → Bool
is_bare text = list_all is_blank (unwrap_or (following colon text) [])

-- a field that may be added by itself
abbrev pub is_full_field : List ℕ → Bool
is_full_field text = is_given_field text && not (is_bare text)

-- whether letters take fields out by their names
abbrev pub removes_some : PlainLetters → Bool
removes_some l = not (length l.drops == 0) || not (length l.keeps == 0)

-- whether a letter that edits is there
abbrev pub edits_some : PlainLetters → Bool
edits_some l = is_some l.prepend || (removes_some l || is_some l.rename || is_some l.add_if || is_some l.add || is_some l.prefixed || is_some l.only || is_some l.first || is_some l.last)

-- `-x` and `-X` stand alone
abbrev pub stand_together : PlainLetters → Bool
stand_together l = not (is_some l.take && is_some l.whole) && not ((is_some l.take || is_some l.whole) && edits_some l)

-- the values that letters may have; the text of a pattern is a name
abbrev pub have_values : PlainLetters → Bool
have_values l =
    option_map_or is_prepend l.prepend true && list_all (λ p. is_name p.text) l.drops && list_all (λ p. is_name p.text) l.keeps && option_map_or (λ p. is_name p.0 && is_name p.1) l.rename true && option_map_or is_full_field l.add_if true && option_map_or is_full_field l.add true && option_map_or is_given_field l.prefixed true && option_map_or is_given_field l.only true
    && option_map_or is_name l.first true && option_map_or is_name l.last true && option_map_or is_name l.take true && option_map_or is_name l.whole true

-- letters that may be asked for
abbrev pub are_allowed : PlainLetters → Bool
are_allowed l = have_values l && stand_together l

-- the name of a field, as it is spelt
abbrev pub name_in : List ℕ → List ℕ
name_in field = take (prefix_len is_name_byte field) field

-- names are equal without regard to ASCII case
abbrev pub same_name : List ℕ → List ℕ → Bool
same_name name own = bytes_eq (str_to_ascii_lowercase own) (str_to_ascii_lowercase name)

-- those of some names that are one, and the others
abbrev pub those : List ℕ → List (List ℕ) → List (List ℕ)
those name names = filter (same_name name) names

-- a name that a pattern means: its text, or what begins with it, without regard to ASCII case
abbrev pub is_meant : PlainPattern → List ℕ → Bool
is_meant p own = same_name p.text (if p.is_front then take (length p.text) own else own)

-- a name that one of some patterns means
abbrev pub is_dropped : List PlainPattern → List ℕ → Bool
is_dropped ps own = list_any (λ p. is_meant p own) ps

-- which fields go by their names: those that are dropped, and where some are kept all others, with the structure or without it
pub record Removal : Type 0 where
  pub drops : List PlainPattern
  pub keeps : List PlainPattern
  pub only : Bool

-- those of letters
abbrev pub removal_of : PlainLetters → Removal
removal_of l = record { drops = l.drops; keeps = l.keeps; only = l.keep_only }

-- a field that says the structure of a message (RFC 2045, 4 and 9)
abbrev pub is_structural : List ℕ → Bool
is_structural own = is_meant (record { text = codes "MIME-Version"; is_front = false }) own || is_meant (record { text = codes "Content-"; is_front = true }) own

-- a name that isn't kept, where some are; what says the structure stays, unless it is asked to go
abbrev pub is_left_out : Removal → List ℕ → Bool
is_left_out r own = not (is_nil r.keeps) && (not (is_dropped r.keeps own) && (r.only || not (is_structural own)))

-- a name that goes
abbrev pub goes : Removal → List ℕ → Bool
goes r own = is_dropped r.drops own || is_left_out r own

-- the names that are not that one
abbrev pub others : List ℕ → List (List ℕ) → List (List ℕ)
others name names = filter (λ own. not (same_name name own)) names

-- what letters did so far: the names that the fields now have, and the edits
pub record Work : Type 0 where
  pub names : List (List ℕ)
  pub edits : List PlainEdit

-- the path of the root
abbrev pub root_path : List ℕ
root_path = 1 ∷ []

-- a path is that of the root
abbrev pub is_root : List ℕ → Bool
is_root [] = false
is_root (k ∷ []) = k == 1
is_root (k ∷ n ∷ ks) = false

-- each name that is one, made another
abbrev pub replaced : List ℕ → (List ℕ → List ℕ) → List (List ℕ) → List (List ℕ)
replaced name f names = map (λ own. if same_name name own then f own else own) names

-- the number after a number, as far as numbers go
abbrev pub next_number : ℕ → Option ℕ
next_number k = if nat_lt k greatest_number then Some (k + 1) else None

-- a name that is spelt in another way, where the first field of it has a number, or none has
abbrev pub respelt : List ℕ → List ℕ → Option ℕ → List (List ℕ) → List (List ℕ)
respelt old new number [] = []
respelt old new None (own ∷ names) = own ∷ names
respelt old new (Some k) (own ∷ names) = if same_name old own then new ∷ respelt old new (next_number k) names else own ∷ respelt old new (Some k) names

-- the edits for that
abbrev pub respelling : List ℕ → List ℕ → List ℕ → Option ℕ → List (List ℕ) → List PlainEdit
respelling path old new number [] = []
respelling path old new None (own ∷ names) = []
respelling path old new (Some k) (own ∷ names) =
    if same_name old own then RenameField path old k new ∷ respelling path old new (next_number k) names else respelling path old new (Some k) names

-- `--rename`: all fields of a name get another, or are spelt in another way where that is the same
abbrev pub rename_letter : List ℕ → List ℕ × List ℕ → List (List ℕ) → Work
rename_letter path p names =
    if same_name p.0 p.1 then record { names = respelt p.0 p.1 (Some 1) names; edits = respelling path p.0 p.1 (Some 1) names }
    else record { names = replaced p.0 (λ own. p.1) names; edits = map (λ own. RenameField path p.0 1 p.1) (those p.0 names) }

-- nothing is done
abbrev pub untouched : List (List ℕ) → Work
untouched names = record { names = names; edits = [] }

-- a field more at the end, with an ending
abbrev pub added : List ℕ → Ending → List ℕ → List (List ℕ) → Work
added path eol field names = record { names = names ++ name_in field ∷ []; edits = AddField path false (field ++ ending_bytes eol) ∷ [] }

-- `-a`
abbrev pub add_if_letter : List ℕ → Ending → List ℕ → List (List ℕ) → Work
add_if_letter path eol field names = if list_any (same_name (name_in field)) names then untouched names else added path eol field names

-- a field more, if it isn't bare
abbrev pub added_full : List ℕ → Ending → List ℕ → List (List ℕ) → Work
added_full path eol field names = if is_bare field then untouched names else added path eol field names

-- what is done after other work
abbrev pub then_do : Work → (List (List ℕ) → Work) → Work
then_do w f = record { names = (f w.names).names; edits = w.edits ++ (f w.names).edits }

-- a name after `Old-`
abbrev pub old_name : List ℕ → List ℕ
old_name own = codes "Old-" ++ own

-- all fields of a name get theirs after `Old-`
abbrev pub made_old : List ℕ → List ℕ → List (List ℕ) → Work
made_old path name names = record { names = replaced name old_name names; edits = map (λ own. RenameField path name 1 (old_name own)) (those name names) }

-- `-i`
abbrev pub prefixed_letter : List ℕ → Ending → List ℕ → List (List ℕ) → Work
prefixed_letter path eol field names = then_do (made_old path (name_in field) names) (added_full path eol field)

-- all fields of a name go
abbrev pub removed_all : List ℕ → List ℕ → List (List ℕ) → Work
removed_all path name names = record { names = others name names; edits = map (λ own. RemoveField path name 1) (those name names) }

-- `-I`
abbrev pub only_letter : List ℕ → Ending → List ℕ → List (List ℕ) → Work
only_letter path eol field names = then_do (removed_all path (name_in field) names) (added_full path eol field)

-- `--drop` and `--keep`, the first letters: all fields whose names go, each as the first of its name
abbrev pub dropped : List ℕ → Removal → List (List ℕ) → Work
dropped path r names = record {
  names = filter (λ own. not (goes r own)) names;
  edits = map (λ own. RemoveField path own 1) (filter (goes r) names);
}

-- the names but for those that are one and aren't the first such
abbrev pub with_first : List ℕ → List (List ℕ) → List (List ℕ)
with_first name [] = []
with_first name (own ∷ names) = own ∷ (if same_name name own then others name names else with_first name names)

-- `-u`
abbrev pub first_letter : List ℕ → List ℕ → List (List ℕ) → Work
first_letter path name names = record { names = with_first name names; edits = map (λ own. RemoveField path name 2) (drop 1 (those name names)) }

-- a letter's work, where it is asked for
abbrev pub letter : {X : Type 0} → (X → List (List ℕ) → Work) → Option X → Work → Work
letter f None w = w
letter f (Some x) w = then_do w (f x)

-- the work of all letters but the last, on fields of these names
abbrev pub worked : List ℕ → Ending → PlainLetters → List (List ℕ) → Work
worked path eol l names =
    letter (first_letter path) l.first
    (letter (only_letter path eol) l.only
    (letter (prefixed_letter path eol) l.prefixed
    (letter (added path eol) l.add
    (letter (add_if_letter path eol) l.add_if
    (letter (rename_letter path) l.rename (dropped path (removal_of l) names))))))

-- the edits of all letters, on fields of these names: `-U` is the last letter
abbrev pub letter_edits : List ℕ → Ending → PlainLetters → List (List ℕ) → List PlainEdit
letter_edits path eol l names =
    let w = worked path eol l names in
    w.edits ++ option_map_or (λ name. map (λ own. RemoveField path name 1) (drop 1 (those name w.names))) l.last []

-- the fields of the section at a path, none where there is no section
abbrev pub fields_at : List ℕ → List ℕ → List FieldText
fields_at path text = option_map_or section_fields (section_at path (tree text)) []

-- their names
abbrev pub names_at : List ℕ → List ℕ → List (List ℕ)
names_at path text = map (λ f. f.name) (fields_at path text)

-- how many fields of a name get a text before what they say, or are changed by a rule: each is looked for from the first field on, and
-- there may be very many (own)
abbrev pub most_prepended : ℕ
most_prepended = 100

-- the edits that put a text before what the fields of a name say, the next of which has a number, or none has
abbrev pub prepending : List ℕ → Ending → PlainPrepend → Option ℕ → List FieldText → List PlainEdit
prepending path eol p number [] = []
prepending path eol p None (f ∷ fs) = []
prepending path eol p (Some k) (f ∷ fs) =
    if is_named p.name f then SetField path p.name k (prepended eol p.text f.raw) ∷ prepending path eol p (if nat_lt k most_prepended then Some (k + 1) else None) fs
    else prepending path eol p (Some k) fs

-- the edits of letters on the section at a path of the document of a text, whose ending they give: `--prepend` works before the other
-- letters, and leaves the names of all fields
abbrev pub edits_at : List ℕ → List ℕ → PlainLetters → List PlainEdit
edits_at path text l =
    option_map_or (λ p. prepending path (eol_of (cut text)) p (Some 1) (fields_at path text)) l.prepend [] ++ letter_edits path (eol_of (cut text)) l (names_at path text)
