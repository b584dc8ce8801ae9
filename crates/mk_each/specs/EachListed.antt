-- The sections of each message of a mailbox, listed (own).
use Rattle.std.specs.Prelude.{[], ℕ, Bool, List}
use Rattle.mk_tree.specs.Documents.{tree}
use Rattle.mk_view.specs.Listing.{listing}
use Rattle.mk_transfer.specs.Said.{Said}
use Rattle.mk_messages.specs.TakenOut.{taken_out}
use Rattle.mk_each.specs.Labels.{labelled, number_label}

-- the listing of a message, each line after a number and a space
abbrev pub listed_lines : ℕ → List ℕ → List ℕ
listed_lines number message = labelled (number_label number) (listing (tree message))

-- what is said of a message of a mailbox: its sections as it was before it went in
abbrev pub said_listed : Bool → ℕ → List ℕ → Said
said_listed unquote number message = record { output = listed_lines number (taken_out unquote message); errors = [] }
