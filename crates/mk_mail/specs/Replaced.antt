-- The messages of a mailbox, each replaced by a text or left out (own).
use Rattle.std.specs.Prelude.{if◌then◌else◌, ℕ, Option, None, Some, List, [], ◌∷◌}
use Rattle.mk_mail.specs.Filtered.{is_left}

-- the texts that stand in the place of messages; one of no bytes is none
abbrev pub texts_left : List (Option (List ℕ)) → List (List ℕ)
texts_left [] = []
texts_left (None ∷ os) = texts_left os
texts_left (Some text ∷ os) = if is_left text then text ∷ texts_left os else texts_left os
