-- A field among the lines of fields, by its name, and what edits make of it.
use Rattle.mk_head.specs.Fields.{after_more}
use Rattle.std.specs.Prelude.{◌&&◌, ◌++◌, if◌then◌else◌, ℕ, Bool, Option, None, Some, List, [], ◌∷◌, suc, zero}
use Rattle.std.specs.Option.{option_map}
use Rattle.mk_line.specs.Ascii.{is_name_byte}
use Rattle.mk_line.specs.Lines.{TextLine, text_line}
use Rattle.mk_head.specs.Split.{is_start, is_more}
use Rattle.mk_head.specs.Fields.{continuations, field_text, is_named}

-- a field start of a name, without regard to ASCII case (RFC 5322, 2.2)
abbrev pub starts_named : List ℕ → TextLine → Bool
starts_named name l = is_start l && is_named name (field_text l [])

-- a field among others: the lines before it, its field start, the lines that continue it, the lines after it
pub record Found : Type 0 where
  pub before : List TextLine
  pub start : TextLine
  pub more : List TextLine
  pub after : List TextLine

-- a field found after a line
abbrev pub found_after : TextLine → Option Found → Option Found
found_after l o = option_map (λ (f : Found). record { before = l ∷ f.before; start = f.start; more = f.more; after = f.after }) o

-- the field of the first line that passes a test, or, where so many such are passed over, of a later one
abbrev pub find : (TextLine → Bool) → ℕ → List TextLine → Option Found
find test k [] = None
find test zero (l ∷ ls) =
    if test l then Some (record { before = []; start = l; more = continuations ls; after = after_more ls })
    else found_after l (find test zero ls)
find test (suc k) (l ∷ ls) = found_after l (find test (if test l then k else suc k) ls)

-- the k-th field of a name, counted from 1
abbrev pub field_at : List ℕ → ℕ → List TextLine → Option Found
field_at name zero ls = None
field_at name (suc k) ls = find (starts_named name) k ls

-- what follows the name that a content begins with
abbrev pub after_name : List ℕ → List ℕ
after_name [] = []
after_name (byte ∷ bytes) = if is_name_byte byte then after_name bytes else byte ∷ bytes

-- a field start with another name
abbrev pub renamed : List ℕ → TextLine → TextLine
renamed to l = text_line (to ++ after_name l.content) l.ending
