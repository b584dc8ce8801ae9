-- Texts and their charsets (RFC 2045, 5; RFC 2046, 4.1.2): which bytes a leaf may hold, and the field that names another charset.
use Rattle.std.specs.Prelude.{◌==◌, ◌||◌, ◌++◌, if◌then◌else◌, ℕ, Bool, true, not, nat_lt, Option, None, Some, List, [], ◌∷◌, codes}
use Rattle.std.specs.List.{flat_map, list_all}
use Rattle.std.specs.Str.{bytes_eq, is_utf8}
use Rattle.mk_line.specs.declared.cutting.Ending.{Ending}
use Rattle.mk_line.specs.Ascii.{backslash, equals_sign, quote}
use Rattle.mk_line.specs.Lines.{ending_bytes}
use Rattle.mk_head.specs.Values.{MediaType, is_token, lowered, param_of}
use Rattle.mk_build.specs.Multiparts.{charset_param}
use Rattle.mk_view.specs.Listing.{type_text}

-- bytes below 128
abbrev pub are_ascii : List ℕ → Bool
are_ascii bytes = list_all (λ byte. nat_lt byte 128) bytes

-- whether bytes may be a text in a charset; of others than these nothing is known
abbrev pub may_be_in : List ℕ → List ℕ → Bool
may_be_in charset bytes =
    if bytes_eq (lowered charset) (lowered (codes "us-ascii")) then are_ascii bytes
    else (if bytes_eq (lowered charset) (lowered (codes "utf-8")) then is_utf8 bytes else true)

-- whether bytes may be a text of a subtype that names a charset, or none: text/plain is us-ascii then, and of others nothing is known
-- (RFC 2046, 4.1.2; RFC 6657, 3)
abbrev pub may_be_text : List ℕ → Option (List ℕ) → List ℕ → Bool
may_be_text sub None bytes = not (bytes_eq sub (codes "plain")) || are_ascii bytes
may_be_text sub (Some charset) bytes = may_be_in charset bytes

-- a type of texts
abbrev pub is_of_text : MediaType → Bool
is_of_text t = bytes_eq t.main (codes "text")

-- whether a leaf of a type may hold bytes: only a text has a charset
abbrev pub may_hold : MediaType → List ℕ → Bool
may_hold t bytes = not (is_of_text t) || may_be_text t.sub (param_of (codes "charset") t.params) bytes

-- a byte of a quoted string: a backslash stands before what would end it (RFC 5322, 3.2.4)
abbrev pub quoted_byte : ℕ → List ℕ
quoted_byte byte = if byte == quote || byte == backslash then backslash ∷ byte ∷ [] else byte ∷ []

-- the value of a parameter as it is written: a token, or a quoted string (RFC 2045, 5.1)
abbrev pub value_text : List ℕ → List ℕ
value_text value = if is_token value then value else quote ∷ (flat_map quoted_byte value ++ quote ∷ [])

-- a parameter after a type; the charset is left out
abbrev pub parameter_text : List ℕ × List ℕ → List ℕ
parameter_text p = if bytes_eq p.0 (codes "charset") then [] else codes "; " ++ (p.0 ++ (equals_sign ∷ value_text p.1))

-- the field that says a type with another charset
abbrev pub charset_field : Ending → List ℕ → MediaType → List ℕ
charset_field eol charset t = codes "Content-Type: " ++ (type_text t ++ (flat_map parameter_text t.params ++ (charset_param (Some charset) ++ ending_bytes eol)))
