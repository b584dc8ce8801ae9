-- Transfer encodings by their names (RFC 2045, 6.1; that comments are taken out is our own).
use Rattle.std.specs.Prelude.{◌||◌, if◌then◌else◌, List, ℕ, codes}
use Rattle.std.specs.Str.{bytes_eq}
use Rattle.mk_line.specs.Lines.{is_nil}
use Rattle.mk_head.specs.declared.encodings.Encoding.{Encoding}
use Rattle.mk_head.specs.declared.encodings.Encoding.TheVariants.{Identity, Qp, Base64, Other}
use Rattle.mk_head.specs.Values.{Plain, uncommented, stripped, lowered}

-- the encoding that a value says, without its comments, the blanks at its ends, and regard to case
abbrev pub encoding_of : List ℕ → Encoding
encoding_of value =
    let name = lowered (stripped (uncommented Plain value)) in
    if is_nil name || bytes_eq name (codes "7bit") || bytes_eq name (codes "8bit") || bytes_eq name (codes "binary") then Identity
    else (if bytes_eq name (codes "quoted-printable") then Qp else (if bytes_eq name (codes "base64") then Base64 else Other))
