-- The listing of a document: a line of nine columns for each of its sections (own).
use Rattle.std.specs.Prelude.{◌+◌, ◌++◌, ℕ, List, [], ◌∷◌, codes, decimal, length}
use Rattle.std.specs.List.{flat_map, join_by}
use Rattle.mk_line.specs.Ascii.{space, line_feed}
use Rattle.mk_line.specs.Lines.{cut}
use Rattle.mk_head.specs.declared.encodings.Encoding.{Encoding}
use Rattle.mk_head.specs.declared.encodings.Encoding.TheVariants.{Identity, Qp, Base64, Other}
use Rattle.mk_head.specs.Split.{head_lines}
use Rattle.mk_head.specs.Values.{MediaType}
use Rattle.mk_head.specs.Types.{header_type, header_encoding}
use Rattle.mk_tree.specs.declared.shapes.Kind.{Kind}
use Rattle.mk_tree.specs.declared.shapes.Kind.TheVariants.{Leaf, Multi, Message}
use Rattle.mk_tree.specs.Spans.{size}
use Rattle.mk_tree.specs.Tree.{print, entity_head, field_lines}
use Rattle.mk_tree.specs.Forms.{kind_in}
use Rattle.mk_tree.specs.Sections.{Placed, head_text, body_text}
use Rattle.mk_tree.specs.Documents.{Document}
use Rattle.mk_line.specs.Ascii.{full_stop, slash}
use Rattle.mk_view.specs.Listed.{Listed, listed}

-- a path as it is written: its numbers, joined by dots
abbrev pub path_text : List ℕ → List ℕ
path_text path = join_by decimal (full_stop ∷ []) path

-- how a kind is written
abbrev pub kind_name : Kind → List ℕ
kind_name Leaf = codes "leaf"
kind_name Multi = codes "multi"
kind_name Message = codes "message"

-- how an encoding is written
abbrev pub encoding_name : Encoding → List ℕ
encoding_name Identity = codes "identity"
encoding_name Qp = codes "quoted-printable"
encoding_name Base64 = codes "base64"
encoding_name Other = codes "other"

-- how a media type is written
abbrev pub type_text : MediaType → List ℕ
type_text t = t.main ++ slash ∷ t.sub

-- the content type of a section; where no field says it, that of its place
abbrev pub type_of : Placed → MediaType
type_of p = header_type p.digest (field_lines p.entity)

-- the transfer encoding of a section
abbrev pub encoding_in : Placed → Encoding
encoding_in p = header_encoding (field_lines p.entity)

-- the columns of a section after its path: its kind, its type and its encoding; where it begins, where its body begins and where
-- it ends, in bytes from the start of the document; how many lines its fields have, and how many its body
abbrev pub columns : Placed → List (List ℕ)
columns p =
    kind_name (kind_in p.entity) ∷ type_text (type_of p) ∷ encoding_name (encoding_in p)
    ∷ decimal p.start ∷ decimal (p.start + size (head_lines (entity_head p.entity))) ∷ decimal (p.start + size (print p.entity))
    ∷ decimal (length (cut (head_text p))) ∷ decimal (length (cut (body_text p))) ∷ []

-- the line of a section: its path, and a space before each column
unfoldable pub listing_line : Listed → List ℕ
listing_line s = path_text s.path ++ (flat_map (λ text. space ∷ text) (columns s.section) ++ line_feed ∷ [])

-- the listing of a document
abbrev pub listing : Document → List ℕ
listing t = flat_map listing_line (listed t)
