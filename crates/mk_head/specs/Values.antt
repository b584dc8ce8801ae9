-- Structured values of fields: comments, quoted strings, parameters (RFC 2045, 5.1; each step is defined on any bytes, which is our own).
use Rattle.std.specs.Prelude.{◌==◌, ◌&&◌, if◌then◌else◌, ℕ, suc, zero, Bool, true, false, not, Option, None, Some, List, [], ◌∷◌, codes, nat_le}
use Rattle.std.specs.List.{list_all, list_any, onto_first}
use Rattle.std.specs.Str.{bytes_eq, str_to_ascii_lowercase}
use Rattle.mk_line.specs.Ascii.{backslash, closing, equals_sign, is_blank, opening, quote, semicolon, slash}
use Rattle.mk_line.specs.Lines.{is_nil}
use Rattle.mk_line.specs.Marks.{trimmed}
use Rattle.mk_line.specs.Parting.{before, following}

-- where a byte of a value stands: outside, in a quoted string, or in a comment with so many comments around it; after
-- a backslash a byte is escaped
pub data Scan : Type 0 where
  Plain : Scan
  Quoted : Scan
  QuotedEscaped : Scan
  Comment : ℕ → Scan
  CommentEscaped : ℕ → Scan

-- after the end of a comment
abbrev pub out_of : ℕ → Scan
out_of zero = Plain
out_of (suc depth) = Comment depth

-- where the next byte stands
abbrev pub scan : Scan → ℕ → Scan
scan Plain byte = if byte == quote then Quoted else (if byte == opening then Comment 0 else Plain)
scan Quoted byte = if byte == backslash then QuotedEscaped else (if byte == quote then Plain else Quoted)
scan QuotedEscaped byte = Quoted
scan (Comment depth) byte = if byte == backslash then CommentEscaped depth else (if byte == opening then Comment (suc depth) else (if byte == closing then out_of depth else Comment depth))
scan (CommentEscaped depth) byte = Comment depth

-- a byte that is part of no comment
abbrev pub is_kept : Scan → ℕ → Bool
is_kept Plain byte = not (byte == opening)
is_kept Quoted byte = true
is_kept QuotedEscaped byte = true
is_kept (Comment depth) byte = false
is_kept (CommentEscaped depth) byte = false

-- neither inside quotes nor inside a comment
abbrev pub is_plain : Scan → Bool
is_plain Plain = true
is_plain Quoted = false
is_plain QuotedEscaped = false
is_plain (Comment depth) = false
is_plain (CommentEscaped depth) = false

-- a value without its comments; what isn't closed runs to the end
abbrev pub uncommented : Scan → List ℕ → List ℕ
uncommented s [] = []
uncommented s (byte ∷ bytes) = if is_kept s byte then byte ∷ uncommented (scan s byte) bytes else uncommented (scan s byte) bytes

-- the pieces between the semicolons outside quoted strings
abbrev pub pieces : Scan → List ℕ → List (List ℕ)
pieces s [] = [] ∷ []
pieces s (byte ∷ bytes) = if is_plain s && byte == semicolon then [] ∷ pieces s bytes else onto_first byte (pieces (scan s byte) bytes)

-- without the blanks at the start
abbrev pub unled : List ℕ → List ℕ
unled [] = []
unled (byte ∷ bytes) = if is_blank byte then unled bytes else byte ∷ bytes

-- without the blanks at both ends
abbrev pub stripped : List ℕ → List ℕ
stripped bytes = trimmed (unled bytes)

-- a quoted string up to its closing quote, each backslash replaced by the byte after it
abbrev pub unquoted : Bool → List ℕ → List ℕ
unquoted escaped [] = []
unquoted true (byte ∷ bytes) = byte ∷ unquoted false bytes
unquoted false (byte ∷ bytes) = if byte == quote then [] else (if byte == backslash then unquoted true bytes else byte ∷ unquoted false bytes)

-- the value of a parameter: a quoted string is unquoted, and what follows it is ignored
abbrev pub parameter_value : List ℕ → List ℕ
parameter_value [] = []
parameter_value (byte ∷ bytes) = if byte == quote then unquoted false bytes else byte ∷ bytes

-- in ASCII lower case
abbrev pub lowered : List ℕ → List ℕ
lowered bytes = str_to_ascii_lowercase bytes

-- a piece with an equals sign is a parameter: a name in lower case and a value
abbrev pub parameter_before : List ℕ → Option (List ℕ) → List (List ℕ × List ℕ) → List (List ℕ × List ℕ)
parameter_before name None others = others
parameter_before name (Some value) others = (lowered (stripped name), parameter_value (stripped value)) ∷ others

-- the pieces with a `=` as names and values, the others left out
abbrev pub parameters : List (List ℕ) → List (List ℕ × List ℕ)
parameters [] = []
parameters (piece ∷ pieces) = parameter_before (before equals_sign piece) (following equals_sign piece) (parameters pieces)

-- a byte of a token: 33 to 126, and none of these
abbrev pub is_token_byte : ℕ → Bool
is_token_byte byte = nat_le 33 byte && nat_le byte 126 && not (list_any (λ special. special == byte) (codes "()<>@,;:\\\"/[]?="))

-- one or more of them
abbrev pub is_token : List ℕ → Bool
is_token bytes = not (is_nil bytes) && list_all is_token_byte bytes

-- a content type: type and subtype in lower case, and the parameters in their order
pub record MediaType : Type 0 where
  pub main : List ℕ
  pub sub : List ℕ
  pub params : List (List ℕ × List ℕ)

-- a media type of these parts
abbrev pub media_type : List ℕ → List ℕ → List (List ℕ × List ℕ) → MediaType
media_type main sub params = record { main = main; sub = sub; params = params }

-- token, slash, token is a type; anything else is text/plain
abbrev pub typed_as : List ℕ → Option (List ℕ) → List (List ℕ × List ℕ) → MediaType
typed_as main None params = media_type (codes "text") (codes "plain") params
typed_as main (Some sub) params = if is_token main && is_token sub then media_type (lowered main) (lowered sub) params else media_type (codes "text") (codes "plain") params

-- the first piece says the type, the others the parameters; without a piece it is text/plain
abbrev pub type_of_pieces : List (List ℕ) → MediaType
type_of_pieces [] = media_type (codes "text") (codes "plain") []
type_of_pieces (piece ∷ pieces) = typed_as (before slash (stripped piece)) (following slash (stripped piece)) (parameters pieces)

-- the content type that a value says
abbrev pub content_type_of : List ℕ → MediaType
content_type_of value = type_of_pieces (pieces Plain (uncommented Plain value))

-- the first parameter of a name counts
abbrev pub param_of : List ℕ → List (List ℕ × List ℕ) → Option (List ℕ)
param_of name [] = None
param_of name (p ∷ ps) = if bytes_eq p.0 name then Some p.1 else param_of name ps
