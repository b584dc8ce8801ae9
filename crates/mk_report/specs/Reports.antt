-- The lines of a run that report why a line of a script, or an edit of a message, was refused (own).
use Rattle.std.specs.Prelude.{◌++◌, ◌∷◌, [], ℕ, List, codes, decimal, take}
use Rattle.mk_line.specs.Ascii.{space, line_feed}
use Rattle.mk_decide.specs.Edits.{Refusal, NoSuchSection, NotMultipart, NotLeaf, NotPart, NoSuchField, BadPlace, BadField, BadName, BadBoundary, BadSubtype, OpenLine, HoldsBoundary, Recut, NothingToUndo, NothingToRedo, Member}
use Rattle.mk_view.specs.Listing.{path_text}

-- the name under which a reason is reported
abbrev pub reason_name : Refusal → List ℕ
reason_name NoSuchSection = codes "NoSuchSection"
reason_name NotMultipart = codes "NotMultipart"
reason_name NotLeaf = codes "NotLeaf"
reason_name NotPart = codes "NotPart"
reason_name NoSuchField = codes "NoSuchField"
reason_name BadPlace = codes "BadPlace"
reason_name BadField = codes "BadField"
reason_name BadName = codes "BadName"
reason_name BadBoundary = codes "BadBoundary"
reason_name BadSubtype = codes "BadSubtype"
reason_name OpenLine = codes "OpenLine"
reason_name (HoldsBoundary level) = codes "HoldsBoundary"
reason_name Recut = codes "Recut"
reason_name NothingToUndo = codes "NothingToUndo"
reason_name NothingToRedo = codes "NothingToRedo"
reason_name (Member index reason) = reason_name reason

-- after the name stands the path of the multipart of which a line would be a mark: a front of the edit's path
abbrev pub after_name : List ℕ → Refusal → List ℕ
after_name path (HoldsBoundary level) = space ∷ path_text (take level path)
after_name path reason = []

-- the line that reports a refusal
abbrev pub error_line : ℕ → List ℕ → Refusal → List ℕ
error_line number path reason = codes "line " ++ (decimal number ++ (codes ": " ++ (reason_name reason ++ (after_name path reason ++ line_feed ∷ []))))

-- the line that reports a message for which an edit at a path is refused, by its number from 1 on
abbrev pub message_line_at : List ℕ → ℕ → Refusal → List ℕ
message_line_at path number reason = codes "message " ++ (decimal number ++ (codes ": " ++ (reason_name reason ++ (after_name path reason ++ line_feed ∷ []))))

-- the same of an edit at the root
abbrev pub message_line : ℕ → Refusal → List ℕ
message_line number reason = message_line_at (1 ∷ []) number reason
