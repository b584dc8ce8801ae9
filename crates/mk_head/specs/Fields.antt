-- The fields of a header (RFC 5322, 2.2 and 2.2.3).
use Rattle.std.specs.Option.{option_map}
use Rattle.std.specs.Prelude.{◌≡◌, ◌&&◌, if◌then◌else◌, ℕ, Bool, true, false, Option, None, Some, List, [], ◌∷◌, suc, zero, length, take, filter}
use Rattle.std.specs.List.{list_all, prefix_len}
use Rattle.std.specs.Str.{bytes_eq, str_to_ascii_lowercase}
use Rattle.mk_line.specs.Ascii.{is_name_byte}
use Rattle.mk_line.specs.Lines.{TextLine, cut, text_of}
use Rattle.mk_head.specs.Split.{Head, is_start, is_more, head_lines}

-- a field: its name as it is spelt, and all its bytes
pub record FieldText : Type 0 where
  pub name : List ℕ
  pub raw : List ℕ

-- the continuations at the start
abbrev pub continuations : List TextLine → List TextLine
continuations [] = []
continuations (l ∷ ls) = if is_more l then l ∷ continuations ls else []

-- the lines after them
abbrev pub after_more : List TextLine → List TextLine
after_more [] = []
after_more (l ∷ ls) = if is_more l then after_more ls else l ∷ ls

-- the name that a field start begins with
abbrev pub name_of : TextLine → List ℕ
name_of l = take (prefix_len is_name_byte l.content) l.content

-- the field of a field start and the lines that continue it
abbrev pub field_text : TextLine → List TextLine → FieldText
field_text start more = record { name = name_of start; raw = text_of (start ∷ more) }

-- the fields of the lines of a header: each field start, and all continuations directly after it
abbrev pub fields_of : List TextLine → List FieldText
fields_of [] = []
fields_of (l ∷ ls) = if is_start l then field_text l (continuations ls) ∷ fields_of ls else fields_of ls

-- exactly one field, and nothing else
abbrev pub is_one_field : List TextLine → Bool
is_one_field [] = false
is_one_field (l ∷ ls) = is_start l && list_all is_more ls

-- names are equal without regard to ASCII case
abbrev pub is_named : List ℕ → FieldText → Bool
is_named name field = bytes_eq (str_to_ascii_lowercase field.name) (str_to_ascii_lowercase name)

-- the k-th of a list, counted from 1
abbrev pub counted : {X : Type 0} → ℕ → List X → Option X
counted k [] = None
counted zero (x ∷ xs) = None
counted (suc zero) (x ∷ xs) = Some x
counted (suc (suc k)) (x ∷ xs) = counted (suc k) xs

-- the k-th field of a name, counted from 1
abbrev pub find_field : List ℕ → ℕ → List FieldText → Option FieldText
find_field name k fields = counted k (filter (is_named name) fields)

-- a header as its fields, and the places where its separator and its body begin
pub record HeaderView : Type 0 where
  pub fields : List FieldText
  pub separator : Option ℕ
  pub body : ℕ

-- a head as its fields and places
abbrev pub header_view : Head → HeaderView
header_view h = record { fields = fields_of h.fields; separator = option_map (λ l. length (text_of h.fields)) h.separator; body = length (text_of (head_lines h)) }

-- a text begins with a field, a field start and the continuations directly after it, and these bytes stand after the field
pub record BeginsField (text rest : List ℕ) : Type 0 where
  pub start : TextLine
  pub more : List TextLine
  pub lines : cut text ≡ start ∷ more
  pub starts : is_start start ≡ true
  pub following : cut rest ≡ after_more more
