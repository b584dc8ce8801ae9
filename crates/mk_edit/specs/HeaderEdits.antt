-- Edits of the root's fields that depend on a header alone.
use Rattle.std.specs.Prelude.{◌==◌, ◌&&◌, ℕ, Bool, false, not, List, [], ◌∷◌, codes}
use Rattle.std.specs.List.{list_all}
use Rattle.std.specs.Str.{bytes_eq, str_to_ascii_lowercase}
use Rattle.mk_line.specs.Lines.{cut, is_nil}
use Rattle.mk_head.specs.Fields.{fields_of}
use Rattle.mk_head.specs.Split.{fields_from}
use Rattle.mk_decide.specs.Edits.{PlainEdit, AddField, RemoveField, RenameField, SetField, SetBody, SetSection, InsertPart, RemovePart, Wrap}

-- names are the same without regard to ASCII case (RFC 5322, 2.2)
abbrev pub are_same : List ℕ → List ℕ → Bool
are_same a b = bytes_eq (str_to_ascii_lowercase a) (str_to_ascii_lowercase b)

-- a field of this name says nothing of the body (RFC 2045, 5 and 6)
abbrev pub is_silent : List ℕ → Bool
is_silent name = not (are_same name (codes "Content-Type")) && not (are_same name (codes "Content-Transfer-Encoding"))

-- none of the fields that a text begins with says anything of the body
abbrev pub are_silent : List ℕ → Bool
are_silent text = list_all (λ f. is_silent f.name) (fields_of (fields_from false (cut text)))

-- the path of the root
abbrev pub leads_to_root : List ℕ → Bool
leads_to_root [] = false
leads_to_root (k ∷ ks) = k == 1 && is_nil ks

-- an edit is one of the root's fields, and none of the names, old and new, says anything of the body
abbrev pub edits_header : PlainEdit → Bool
edits_header (AddField path top text) = leads_to_root path && are_silent text
edits_header (RemoveField path name k) = leads_to_root path && is_silent name
edits_header (RenameField path name k to) = leads_to_root path && is_silent name && is_silent to
edits_header (SetField path name k text) = leads_to_root path && is_silent name && are_silent text
edits_header (SetBody path text) = false
edits_header (SetSection path text) = false
edits_header (InsertPart path place text) = false
edits_header (RemovePart path) = false
edits_header (Wrap path subtype boundary) = false
