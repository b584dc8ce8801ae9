-- A part after the last one of a multipart, or beside any other section (own).
use Rattle.mk_view.specs.Listed.{greatest_number}
use Rattle.std.specs.Option.{option_map_or}
use Rattle.std.specs.Prelude.{◌++◌, ◌||◌, if◌then◌else◌, ℕ, suc, nat_le, nat_lt, Bool, true, false, Option, None, Some, List, [], ◌∷◌, codes, length}
use Rattle.mk_line.specs.declared.cutting.Ending.{Ending}
use Rattle.mk_line.specs.Lines.{ending_bytes, text_of}
use Rattle.mk_head.specs.Fields.{counted}
use Rattle.mk_tree.specs.Sections.{Placed, body_text, children, preamble_lines, raw_of}
use Rattle.mk_tree.specs.Tree.{Entity, leaf, message, multi}
use Rattle.mk_decide.specs.Edits.{PlainEdit, InsertPart, SetSection, Wrap}
use Rattle.mk_pack.specs.OwnBoundary.{boundary_beside}
use Rattle.mk_expand.specs.Contents.{body_with, divided}

-- a section gets an ending where no line follows it, so that it keeps its content when one does
abbrev pub divided_at : Ending → List ℕ → Option Placed → List PlainEdit
divided_at eol path None = []
divided_at eol path (Some p) = if p.followed then [] else SetSection path (divided eol (raw_of p)) ∷ []

-- so does the last of so many parts
abbrev pub last_divided : Ending → List ℕ → ℕ → List Placed → List PlainEdit
last_divided eol path number parts = divided_at eol (path ++ number ∷ []) (counted number parts)

-- a part after so many others
abbrev pub after_parts : Ending → List ℕ → List ℕ → ℕ → List Placed → List PlainEdit
after_parts eol path text count parts =
    if nat_le count greatest_number then last_divided eol path count parts ++ InsertPart path count text ∷ [] else InsertPart path greatest_number text ∷ []

-- a section that is a multipart
abbrev pub is_multipart : Entity → Bool
is_multipart (leaf h ls) = false
is_multipart (message h e) = false
is_multipart (multi h b pre ps t) = true

-- a part beside a section: both become the parts of a multipart/mixed, whose boundary is made of them
abbrev pub beside : List ℕ → List ℕ → Placed → List PlainEdit
beside path text p = Wrap path (codes "mixed") (boundary_beside (raw_of p) text) ∷ InsertPart path 1 text ∷ []

-- a part after the others of a multipart, as far as numbers go, or beside any other section
abbrev pub appended : Ending → List ℕ → List ℕ → Placed → List PlainEdit
appended eol path text p = if is_multipart p.entity then after_parts eol path text (length (children p)) (children p) else beside path text p

-- the number of the part that goes after the others, or beside the section
abbrev pub new_number : Placed → ℕ
new_number p = if is_multipart p.entity then suc (if nat_le (length (children p)) greatest_number then length (children p) else greatest_number) else 2

-- whether a line follows the preamble of a section: one of its body, or one after the section
abbrev pub follows_preamble : Placed → Bool
follows_preamble p = nat_lt (length (text_of (preamble_lines p.entity))) (length (body_text p)) || p.followed

-- whether a line follows the last part of a multipart, as far as numbers go; without parts, whether one follows the preamble
abbrev pub follows_parts : Placed → Bool
follows_parts p = if nat_le (length (children p)) greatest_number then option_map_or (λ p. p.followed) (counted (length (children p)) (children p)) (follows_preamble p) else true

-- whether a line follows a new part: beside a section the close line does
abbrev pub follows_last : Placed → Bool
follows_last p = if is_multipart p.entity then follows_parts p else true

-- a made part as it goes after the others: with an ending where a line follows, since that ending isn't content (RFC 2046, 5.1.1)
abbrev pub made_part : Ending → List ℕ → Option Placed → List ℕ
made_part eol text None = text
made_part eol text (Some p) = if follows_last p then text ++ ending_bytes eol else text

-- a text as a part without fields, so that it is the content, as it goes after the others (RFC 2046, 5.1)
abbrev pub text_part : Ending → List ℕ → Option Placed → List ℕ
text_part eol text None = ending_bytes eol ++ text
text_part eol text (Some p) = ending_bytes eol ++ body_with eol (follows_last p) text
