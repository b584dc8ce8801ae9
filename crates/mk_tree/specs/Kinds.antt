-- What the fields of an entity say that its body is (RFC 2046, 5.1, 5.1.5, 5.2.1; RFC 6532, 3.7 for message/global).
use Rattle.std.specs.Prelude.{◌==◌, ◌&&◌, ◌||◌, if◌then◌else◌, ℕ, zero, suc, Bool, true, false, not, List, [], ◌∷◌, codes}
use Rattle.std.specs.List.{list_any}
use Rattle.std.specs.Str.{bytes_eq}
use Rattle.mk_line.specs.Ascii.{carriage_return}
use Rattle.mk_line.specs.Lines.{TextLine, is_nil}
use Rattle.mk_head.specs.declared.encodings.Encoding.{Encoding}
use Rattle.mk_head.specs.declared.encodings.Encoding.TheVariants.{Identity, Qp, Base64, Other}
use Rattle.mk_head.specs.Values.{MediaType}
use Rattle.mk_head.specs.Types.{header_type, header_encoding, boundary_of}

-- a leaf, a message, or a multipart with its boundary, whose parts without a type are messages where it is a digest
pub data Kind : Type 0 where
  Leaf : Kind
  Message : Kind
  Multi : (boundary : List ℕ) → (digest : Bool) → Kind

-- the encoding changes nothing: 7bit, 8bit or binary (RFC 2045, 6.2)
abbrev pub is_identity : Encoding → Bool
is_identity Identity = true
is_identity Qp = false
is_identity Base64 = false
is_identity Other = false

-- a boundary counts where it has a byte and no CR (own)
abbrev pub has_boundary : MediaType → Bool
has_boundary t = not (is_nil (boundary_of t)) && not (list_any (λ c. c == carriage_return) (boundary_of t))

-- message/rfc822 and message/global hold a message, where no encoding hides it (own)
abbrev pub holds_message : MediaType → Encoding → Bool
holds_message t e = bytes_eq t.main (codes "message") && (bytes_eq t.sub (codes "rfc822") || bytes_eq t.sub (codes "global")) && is_identity e

-- the kind that a media type and an encoding say
abbrev pub kind_of : MediaType → Encoding → Kind
kind_of t e =
    if bytes_eq t.main (codes "multipart") && has_boundary t then Multi (boundary_of t) (bytes_eq t.sub (codes "digest"))
    else (if holds_message t e then Message else Leaf)

-- the kind that fields say, where a missing type means a message in a digest
unfoldable pub kind : List TextLine → Bool → Kind
kind fields digest = kind_of (header_type digest fields) (header_encoding fields)

-- where no level is left below an entity, it is a leaf
abbrev pub kind_at : ℕ → List TextLine → Bool → Kind
kind_at zero fields digest = Leaf
kind_at (suc left) fields digest = kind fields digest

-- whether a missing type means a message in the parts of an entity of this kind (RFC 2046, 5.1.5)
abbrev pub is_digest : Kind → Bool
is_digest Leaf = false
is_digest Message = false
is_digest (Multi boundary digest) = digest
