-- Laws of mailboxes of which no message comes again (own).
use Rattle.std.specs.Prelude.{◌≡◌, ◌+◌, ◌++◌, ◌∷◌, ◌||◌, if◌then◌else◌, [], ℕ, List, false, length}
use Rattle.std.specs.FinSet as set
use Rattle.std.specs.List.{list_any}
use Rattle.std.specs.Ordering.{eq_by_cmp, nat_cmp}
use Rattle.std.specs.Cmp.Lexicographic.{slice_cmp}
use Rattle.std.specs.Option.{option_map_or}
use Rattle.mk_field.specs.Filtering.{PlainFilter}
use Rattle.mk_transfer.specs.Said.{Said}
use Rattle.mk_messages.specs.Working.{Effect, WorksOn}
use Rattle.mk_seen.specs.declared.ids.IdFile.{IdFile}
use Rattle.mk_seen.specs.declared.listing.ListedSoFar.{ListedSoFar}
use Rattle.mk_seen.specs.Firsts.{first_lines, new_lines, said_of_firsts, said_once}
use Rattle.mk_seen.specs.SeenIds.{Seen, is_repeated, message_id, new_line, seen_after}

-- what listing the first messages says of each, by lines of a kind
abbrev pub ListsFirst : (ℕ → ℕ → List ℕ → List ℕ) → Effect ListedSoFar
ListsFirst line number message said old new =
    (said ≡ record { output = if is_repeated old.seen message then [] else line number old.start message; errors = [] })
    × (new.seen ≡ seen_after old.seen message) × (new.start ≡ old.start + length message)

-- what filtering the first messages says of each
abbrev pub FiltersFirst : PlainFilter → Effect IdFile
FiltersFirst f number message said old new =
    (said ≡ said_once f old.seen number message)
    × (new.seen ≡ seen_after old.seen message) × (new.lines.items ≡ old.lines.items ++ new_line old.seen message)

-- what is listed of messages in turn are the lines of the first ones
abbrev pub FirstsAreListed : Type 0
FirstsAreListed = (line : ℕ → ℕ → List ℕ → List ℕ) (number : ℕ) (ms : List (List ℕ)) (said : Said) (old new : ListedSoFar)
    → WorksOn ListedSoFar (ListsFirst line) number ms said old new
    → said ≡ record { output = first_lines line old.seen number old.start ms; errors = [] }

-- what is said of messages in turn that are filtered, and the lines that come to the file
abbrev pub FirstsAreFiltered : Type 0
FirstsAreFiltered = (f : PlainFilter) (number : ℕ) (ms : List (List ℕ)) (said : Said) (old new : IdFile)
    → WorksOn IdFile (FiltersFirst f) number ms said old new
    → (said ≡ said_of_firsts f old.seen number ms) × (new.lines.items ≡ old.lines.items ++ new_lines old.seen ms)

-- the identifiers that were seen once messages in turn were
abbrev pub seen_after_all : Seen → List (List ℕ) → Seen
seen_after_all seen [] = seen
seen_after_all seen (m ∷ ms) = seen_after_all (seen_after seen m) ms

-- an identifier counts as seen exactly where it was seen before, or is that of one of the messages
abbrev pub NoneComesAgain : Type 0
NoneComesAgain = (seen : Seen) (ms : List (List ℕ)) (id : List ℕ)
    → set.contains (seen_after_all seen ms) id ≡ (set.contains seen id || list_any (λ m. option_map_or (eq_by_cmp (slice_cmp nat_cmp) id) (message_id m) false) ms)
