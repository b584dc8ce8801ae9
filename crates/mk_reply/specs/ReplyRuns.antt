-- Runs that print the header of an answer (own).
use Rattle.std.specs.Prelude.{◌≡◌, ◌++◌, ◌∷◌, [], ℕ, List, Option, None, Some, codes}
use Rattle.mk_line.specs.Ascii.{line_feed}
use Rattle.mk_transfer.specs.Said.{Run, shown}
use Rattle.mk_reply.specs.Replies.{reply_to}

-- the line that reports that nobody can be answered
abbrev pub no_address_line : List ℕ
no_address_line = codes "message: NoAddress" ++ line_feed ∷ []

-- what is shown of an answer
abbrev pub run_of_reply : Option (List ℕ) → Run
run_of_reply (Some header) = shown header []
run_of_reply None = shown [] no_address_line

-- the header of the answer to a message goes out, or the reason why there is none
abbrev pub IsReplyRun : List ℕ → Run → Type 0
IsReplyRun message run = run ≡ run_of_reply (reply_to message)
