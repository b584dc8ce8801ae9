-- The boundary that is made of what is packed, where none is given (own).
use Rattle.std.specs.Prelude.{◌++◌, ℕ, unwrap_or, List, [], ◌∷◌, codes, decimal, length, take}
use Rattle.std.specs.List.{flat_map}
use Rattle.mk_line.specs.Ascii.{colon}
use Rattle.mk_splice.specs.Journals.{digest_of}
use Rattle.mk_build.specs.Building.{Attached}

-- a piece after its length, so that no two lists of pieces are written alike
abbrev pub measured : List ℕ → List ℕ
measured piece = decimal (length piece) ++ (colon ∷ piece)

-- a part: its media type, its name and its bytes
abbrev pub measured_part : Attached → List ℕ
measured_part a = measured a.media ++ (measured (unwrap_or a.name []) ++ measured a.text)

-- all that is packed: the fields as they are given, then the parts; no field can be a media type, since each holds a colon
abbrev pub all_packed : List (List ℕ) → List Attached → List ℕ
all_packed fields parts = flat_map measured fields ++ flat_map measured_part parts

-- how many digits of the digest a boundary has
abbrev pub digits_kept : ℕ
digits_kept = 24

-- `=_`, which stands in no line of quoted-printable or base64 (RFC 2045, 6.7), and the first digits of the SHA-256
abbrev pub own_boundary : List (List ℕ) → List Attached → List ℕ
own_boundary fields parts = codes "=_" ++ take digits_kept (digest_of (all_packed fields parts))

-- the same for a multipart of a section and a part that is put beside it: made of both
abbrev pub boundary_beside : (section part : List ℕ) → List ℕ
boundary_beside section part = codes "=_" ++ take digits_kept (digest_of (measured section ++ measured part))
