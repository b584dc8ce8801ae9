-- What is taken out of a document: the content of a section, decoded where it is a leaf.
use Rattle.std.specs.Prelude.{◌≡◌, ℕ, List, Option, None, Some}
use Rattle.mk_head.specs.declared.encodings.Encoding.{Encoding}
use Rattle.mk_code.specs.declared.decoding.CodeError.{CodeError}
use Rattle.mk_code.specs.declared.decoding.CodeError.TheVariants as code
use Rattle.mk_code.specs.Contents.{IsContent, IsRefused}
use Rattle.mk_tree.specs.declared.shapes.Kind.{Kind}
use Rattle.mk_tree.specs.declared.shapes.Kind.TheVariants.{Leaf, Multi, Message}
use Rattle.mk_tree.specs.Forms.{kind_in}
use Rattle.mk_tree.specs.Sections.{Placed, content_text}
use Rattle.mk_view.specs.declared.extracting.ExtractError.{ExtractError}
use Rattle.mk_view.specs.declared.extracting.ExtractError.TheVariants.{NoSuchSection, BadBase64, UnknownEncoding, Memory}
use Rattle.mk_view.specs.Listing.{encoding_in}

-- the bytes that the content of a section of a kind stands for: only that of a leaf is encoded
abbrev pub IsContentBy : Kind → Encoding → List ℕ → List ℕ → Type 0
IsContentBy Leaf encoding text bytes = IsContent encoding text bytes
IsContentBy Multi encoding text bytes = bytes ≡ text
IsContentBy Message encoding text bytes = bytes ≡ text

-- the bytes that the content of a section stands for
abbrev pub IsContentOf : Placed → List ℕ → Type 0
IsContentOf p bytes = IsContentBy (kind_in p.entity) (encoding_in p) (content_text p) bytes

-- a reason not to decode the content of a section of a kind
abbrev pub IsRefusedBy : Kind → Encoding → List ℕ → CodeError → Type 0
IsRefusedBy Leaf encoding text error = IsRefused encoding text error
IsRefusedBy Multi encoding text error = error ≡ code.Memory
IsRefusedBy Message encoding text error = error ≡ code.Memory

-- a reason not to decode the content of a section
abbrev pub IsRefusedOf : Placed → CodeError → Type 0
IsRefusedOf p error = IsRefusedBy (kind_in p.entity) (encoding_in p) (content_text p) error

-- the bytes are the content of the section that was looked for
abbrev pub IsExtract : Option Placed → List ℕ → Type 0
IsExtract None bytes = ⊥
IsExtract (Some p) bytes = IsContentOf p bytes

-- the reason holds of the section that was looked for
abbrev pub IsExtractRefused : Option Placed → ExtractError → Type 0
IsExtractRefused None error = error ≡ NoSuchSection
IsExtractRefused (Some p) NoSuchSection = ⊥
IsExtractRefused (Some p) BadBase64 = IsRefusedOf p code.BadBase64
IsExtractRefused (Some p) UnknownEncoding = IsRefusedOf p code.UnknownEncoding
IsExtractRefused (Some p) Memory = Unit {0}

-- the same reason, where a section was found
abbrev pub extract_reason : CodeError → ExtractError
extract_reason code.BadBase64 = BadBase64
extract_reason code.UnknownEncoding = UnknownEncoding
extract_reason code.Memory = Memory
