-- How findings are written (own; RFC 8259 for the objects).
use Rattle.std.specs.Prelude.{◌≡◌, ◌++◌, if◌then◌else◌, ℕ, List, [], ◌∷◌, codes, decimal}
use Rattle.std.specs.List.{flat_map}
use Rattle.mk_line.specs.Ascii.{line_feed, space}
use Rattle.mk_line.specs.Lines.{is_nil}
use Rattle.mk_view.specs.Listed.{Listed}
use Rattle.mk_view.specs.Listing.{path_text}
use Rattle.mk_check.specs.declared.faults.Fault.{Fault}
use Rattle.mk_check.specs.declared.faults.Fault.TheVariants.{NotAscii, LongLine, HasNul, Repeated, MissingSemicolon, ExtendedBoundary, NoBoundary, NoPart, NotClosed, UnknownEncoding, BadBase64}
use Rattle.mk_check.specs.declared.lines.FindingForm.{FindingForm}
use Rattle.mk_check.specs.declared.lines.FindingForm.TheVariants.{Plain, Json}
use Rattle.mk_check.specs.Findings.{AreFaults, FoundFault}

-- the name of a fault
abbrev pub finding_name : Fault → List ℕ
finding_name NotAscii = codes "NotAscii"
finding_name LongLine = codes "LongLine"
finding_name HasNul = codes "HasNul"
finding_name Repeated = codes "Repeated"
finding_name MissingSemicolon = codes "MissingSemicolon"
finding_name ExtendedBoundary = codes "ExtendedBoundary"
finding_name NoBoundary = codes "NoBoundary"
finding_name NoPart = codes "NoPart"
finding_name NotClosed = codes "NotClosed"
finding_name UnknownEncoding = codes "UnknownEncoding"
finding_name BadBase64 = codes "BadBase64"

-- the end of a line: the field that it is about, if it is about one
abbrev pub field_column : List ℕ → List ℕ
field_column field = if is_nil field then [] else space ∷ field

-- a line: the path, the place, the name, and the field
abbrev pub plain_line : List ℕ → FoundFault → List ℕ
plain_line path f = path_text path ++ (space ∷ decimal f.place ++ (space ∷ finding_name f.fault ++ (field_column f.field ++ line_feed ∷ [])))

-- the member of the field, if it is about one; a name of a field needs no escapes
abbrev pub field_member_of : List ℕ → List ℕ
field_member_of field = if is_nil field then [] else codes ",\"field\":\"" ++ (field ++ codes "\"")

-- the place and the name of a finding, after its path
abbrev pub json_place : FoundFault → List ℕ
json_place f = codes "\",\"offset\":" ++ (decimal f.place ++ (codes ",\"fault\":\"" ++ (finding_name f.fault ++ codes "\"")))

-- the members of every finding
abbrev pub json_members : List ℕ → FoundFault → List ℕ
json_members path f = codes "{\"path\":\"" ++ (path_text path ++ json_place f)

-- the same line as an object
abbrev pub json_line : List ℕ → FoundFault → List ℕ
json_line path f = json_members path f ++ (field_member_of f.field ++ (codes "}" ++ line_feed ∷ []))

-- in a form
abbrev pub finding_line : FindingForm → List ℕ → FoundFault → List ℕ
finding_line Plain = plain_line
finding_line Json = json_line

-- the lines of what is found in sections, one after another
abbrev pub AreFindingLines : FindingForm → List Listed → List ℕ → Type 0
AreFindingLines form [] text = text ≡ []
AreFindingLines form (s ∷ ss) text =
    (faults : List FoundFault) × (rest : List ℕ) × AreFaults s.section faults × AreFindingLines form ss rest × (text ≡ flat_map (finding_line form s.path) faults ++ rest)
