-- The fields of the root in a text, and what an edit replaces that says nothing of its body.
use Rattle.std.specs.Prelude.{◌≡◌, ◌≤◌, ◌<◌, ◌+◌, ◌-◌, ◌++◌, ℕ, Bool, true, false, min, Option, List, [], ◌∷◌, filter, length}
use Rattle.std.specs.Global.{Vec}
use Rattle.mk_line.specs.Lines.{TextLine, cut}
use Rattle.mk_head.specs.Splits.{IsRun}
use Rattle.mk_tree.specs.Tree.{entity_head}
use Rattle.mk_tree.specs.Documents.{tree}
use Rattle.mk_tree.specs.Sections.{Placed, head_text, root_of}
use Rattle.mk_tree.specs.Spans.{size}
use Rattle.mk_splice.specs.Splices.{spliced}
use Rattle.mk_edit.specs.declared.silent_edits.SilentEdit.{SilentEdit}
use Rattle.mk_decide.specs.LocalAnswers.{IsDecided, PlainSplice}
use Rattle.mk_decide.specs.FieldEdits.{starts_named}
use Rattle.mk_decide.specs.FieldPuts.{plain_of}
use Rattle.mk_decide.specs.Looks.{has_separator}
use Rattle.mk_edit.specs.inner.FieldNames.{BeginsField, IsKnown}
use Rattle.mk_edit.specs.SilentEdits.{numbered}

-- the root of a text
abbrev pub root_in : List ℕ → Placed
root_in text = root_of (tree text)

-- the lines of its fields
abbrev pub lines_in : List ℕ → List TextLine
lines_in text = cut (head_text (root_in text))

-- the root's fields take so many bytes at a place, and a separator stands after them
pub record HasFields (text : List ℕ) (start size : ℕ) : Type 0 where
  pub begins : start ≡ (root_in text).start
  pub takes : size ≡ length (head_text (root_in text))
  pub separated : has_separator (entity_head (root_in text).entity).separator ≡ true

-- fields at the start take so many bytes, and so many of them have a name
pub record HasPassed (ls : List TextLine) (name : List ℕ) (bytes fields : ℕ) : Type 0 where
  pub place : BeginsField ls bytes
  pub holds : length (filter (starts_named name) place.before) ≡ fields

-- the field of an edit is the k-th of its name after so many bytes of fields
pub record IsBehind (ls : List TextLine) (bytes : ℕ) (edit : SilentEdit) (k : ℕ) : Type 0 where
  pub before : List TextLine
  pub following : List TextLine
  pub whole : before ++ following ≡ ls
  pub takes : size before ≡ bytes
  pub number : edit.k ≡ length (filter (starts_named edit.name.now) before) + k
  pub some : 0 < k
  pub run : IsRun false following

-- an edit of the root is accepted, these bytes are its splice, and the root's fields stand at the same place after it, where
-- those before the splice were passed over; what was known of fields before it is known still
pub record Replaces (edit : SilentEdit) (text : List ℕ) (start size : ℕ) (r : PlainSplice) : Type 0 where
  pub decided : IsDecided (plain_of (1 ∷ []) (numbered edit edit.k)) text r
  pub inside : (r.place - start) + r.count ≤ size
  pub following : start ≤ r.place
  pub left : HasFields (spliced r.place r.count r.new text) start (size - r.count + length r.new)
  pub passed : HasPassed (lines_in (spliced r.place r.count r.new text)) edit.name.now (r.place - start) (edit.k - 1)
  pub stays : (bytes : ℕ) → bytes ≤ r.place - start → BeginsField (lines_in text) bytes → BeginsField (lines_in (spliced r.place r.count r.new text)) bytes
  pub known : (bytes : ℕ) (marks : Option (Vec Bool)) → IsKnown (lines_in text) bytes marks → IsKnown (lines_in (spliced r.place r.count r.new text)) (min bytes (r.place - start)) marks
