-- The four edits of fields: what each puts among the lines of a head.
use Rattle.mk_decide.specs.Plans.{unless, unless_none}
use Rattle.std.specs.Prelude.{◌≡◌, ◌==◌, ◌+◌, ◌-◌, ◌++◌, if◌then◌else◌, ℕ, Bool, true, false, not, Option, None, Some, Result, Ok, Err, IsOkAnd, List, [], ◌∷◌, length, take, drop}
use Rattle.mk_line.specs.Lines.{TextLine, cut, text_of, printed_line, ending_bytes}
use Rattle.mk_head.specs.Fields.{FieldText, name_of, is_named, is_one_field}
use Rattle.mk_tree.specs.Spans.{size}
use Rattle.mk_decide.specs.declared.field_edits.FieldEdit.{FieldEdit}
use Rattle.mk_decide.specs.declared.field_edits.FieldEdit.TheVariants.{Add, Remove, Rename, Set}
use Rattle.mk_decide.specs.declared.field_edits.Put.{Put}
use Rattle.mk_decide.specs.Edits.{PlainEdit, AddField, RemoveField, RenameField, SetField, Refusal, NoSuchField, BadField, BadName}
use Rattle.mk_line.specs.Kinds.{is_name}
use Rattle.mk_decide.specs.FieldEdits.{Found, field_at, after_name, renamed}

-- an edit in memory as plain data
abbrev pub plain_of : List ℕ → FieldEdit → PlainEdit
plain_of path (Add top text) = AddField path top text.now
plain_of path (Remove name k) = RemoveField path name.now k
plain_of path (Rename name k to) = RenameField path name.now k to.now
plain_of path (Set name k text) = SetField path name.now k text.now

-- lines in the place of others: those before, those that go, the given ones, those after; `kept`: the bytes that stay at
-- the end of those that go
pub record LinePut : Type 0 where
  pub before : List TextLine
  pub old : List TextLine
  pub given : List TextLine
  pub after : List TextLine
  pub kept : List ℕ

-- a field more
abbrev pub add_put : Bool → List TextLine → List TextLine → LinePut
add_put true given fields = record { before = []; old = []; given = given; after = fields; kept = [] }
add_put false given fields = record { before = fields; old = []; given = given; after = []; kept = [] }

-- lines in the place of a field
abbrev pub set_put : List TextLine → Found → LinePut
set_put given f = record { before = f.before; old = f.start ∷ f.more; given = given; after = f.after; kept = [] }

-- a field under another name: what follows the name stays
abbrev pub name_put : List ℕ → Found → LinePut
name_put to f = record {
  before = f.before;
  old = f.start ∷ [];
  given = renamed to f.start ∷ [];
  after = f.more ++ f.after;
  kept = after_name f.start.content ++ ending_bytes f.start.ending;
}

-- what each edit puts among fields, or the first reason against it
abbrev pub puts : FieldEdit → List TextLine → Result LinePut Refusal
puts (Add top text) fields = unless (not (is_one_field (cut text.now))) BadField (Ok (add_put top (cut text.now) fields))
puts (Remove name k) fields = unless_none NoSuchField (field_at name.now k fields) (λ f. Ok (set_put [] f))
puts (Rename name k to) fields = unless_none NoSuchField (field_at name.now k fields) (λ f. unless (not (is_name to.now)) BadName (Ok (name_put to.now f)))
puts (Set name k text) fields = unless_none NoSuchField (field_at name.now k fields) (λ f. unless (not (is_one_field (cut text.now))) BadField (Ok (set_put (cut text.now) f)))

-- lines in memory are these
pub record PutsLines (r : Put) (p : LinePut) : Type 0 where
  pub from : r.from ≡ size p.before
  pub count : r.count ≡ size p.old
  pub lines : r.lines.items ≡ text_of p.given
  pub kept : r.kept ≡ length p.kept

-- what is put in memory is this
abbrev pub IsPut : Put → Result LinePut Refusal → Type 0
IsPut r o = IsOkAnd o (PutsLines r)

-- the k-th field of a name, and how many bytes stand before it
abbrev pub placed_field : List ℕ → ℕ → ℕ → List FieldText → Option (ℕ × FieldText)
placed_field name k place [] = None
placed_field name k place (f ∷ fs) =
    if is_named name f then (if k == 1 then Some (place, f) else placed_field name (k - 1) (place + length f.raw) fs)
    else placed_field name k (place + length f.raw) fs

-- how many bytes the first line has
abbrev pub first_line_size : List TextLine → ℕ
first_line_size [] = 0
first_line_size (l ∷ ls) = length (printed_line l)

-- the k-th field of a name among lines stands after so many bytes
pub record IsFieldAt (wanted : List ℕ) (k : ℕ) (ls : List TextLine) (place : ℕ) (field : FieldText) : Type 0 where
  pub found : Found
  pub is : field_at wanted k ls ≡ Some found
  pub following : place ≡ size found.before
  pub name : field.name ≡ name_of found.start
  pub raw : field.raw ≡ text_of (found.start ∷ found.more)
  pub lines : cut field.raw ≡ found.start ∷ found.more

-- what follows the name in the first line of a field
abbrev pub after_field_name : FieldText → List ℕ
after_field_name f = drop (length f.name) (take (first_line_size (cut f.raw)) f.raw)

-- how many bytes fields have
abbrev pub raw_size : List FieldText → ℕ
raw_size [] = 0
raw_size (f ∷ fs) = length f.raw + raw_size fs
