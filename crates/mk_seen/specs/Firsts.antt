-- The messages of a mailbox without those that come again (own).
use Rattle.std.specs.Prelude.{◌≡◌, ◌⊎◌, ◌+◌, ◌++◌, ◌∷◌, [], if◌then◌else◌, ℕ, suc, List, length}
use Rattle.mk_field.specs.Filtering.{PlainFilter, said_of}
use Rattle.mk_transfer.specs.Said.{Said, said_after, silence}
use Rattle.mk_seen.specs.declared.ids.IdFile.{IdFile}
use Rattle.mk_seen.specs.SeenIds.{Seen, is_repeated, new_line, seen_after}
use Rattle.std.specs.Prelude.{true}

-- the lines of messages in turn, each by its number, where it begins and its bytes, without those that come again; the first has this
-- number and begins here
abbrev pub first_lines : (ℕ → ℕ → List ℕ → List ℕ) → Seen → ℕ → ℕ → List (List ℕ) → List ℕ
first_lines line seen number start [] = []
first_lines line seen number start (m ∷ ms) =
    (if is_repeated seen m then [] else line number start m) ++ first_lines line (seen_after seen m) (suc number) (start + length m) ms

-- what a filter says of a message of a number, unless it comes again
abbrev pub said_once : PlainFilter → Seen → ℕ → List ℕ → Said
said_once f seen number message = if is_repeated seen message then silence else said_of true f number message

-- what it says of messages in turn
abbrev pub said_of_firsts : PlainFilter → Seen → ℕ → List (List ℕ) → Said
said_of_firsts f seen number [] = silence
said_of_firsts f seen number (m ∷ ms) = said_after (said_once f seen number m) (said_of_firsts f (seen_after seen m) (suc number) ms)

-- the lines of the identifiers that messages in turn have and that weren't seen
abbrev pub new_lines : Seen → List (List ℕ) → List ℕ
new_lines seen [] = []
new_lines seen (m ∷ ms) = new_line seen m ++ new_lines (seen_after seen m) ms

-- the identifiers of a file, and those that come to it, as they were, or with that of a message
abbrev pub MayBeSeen : List ℕ → IdFile → IdFile → Type 0
MayBeSeen message old new =
    ((new.seen ≡ old.seen) × (new.lines.items ≡ old.lines.items))
    ⊎ ((new.seen ≡ seen_after old.seen message) × (new.lines.items ≡ old.lines.items ++ new_line old.seen message))
