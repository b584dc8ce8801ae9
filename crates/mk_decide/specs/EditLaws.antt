-- The laws of the nine edits.
use Rattle.std.specs.Prelude.{◌≡◌, ◌↔◌, ◌⊎◌, ◌++◌, ℕ, Bool, true, false, Option, Some, IfSome, MatchResult, Result, Ok, Err, List, [], ◌∷◌}
use Rattle.std.specs.Option.{option_map}
use Rattle.mk_tree.specs.Tree.{Entity, leaf, message, multi}
use Rattle.mk_tree.specs.Sections.{Placed, section_at, content_text}
use Rattle.mk_tree.specs.Documents.{Document, IsStable, tree, printed}
use Rattle.mk_tree.specs.Places.{Frame, placed}
use Rattle.mk_tree.specs.Locality.{Replaces}
use Rattle.mk_line.specs.Lines.{TextLine}
use Rattle.mk_head.specs.Split.{is_start}
use Rattle.mk_head.specs.Fields.{name_of, field_text, fields_of, find_field}
use Rattle.mk_line.specs.Kinds.{is_name}
use Rattle.mk_decide.specs.FieldEdits.{Found, field_at, after_name, renamed}
use Rattle.mk_decide.specs.Edits.{PlainEdit, RemovePart, Wrap, path_of, Refusal, NoSuchSection, NotPart, OpenLine, HoldsBoundary, Recut}
use Rattle.mk_decide.specs.Plans.{Plan, without, place_of, plan_of, planned}
use Rattle.mk_decide.specs.Outcomes.{edited}
use Rattle.mk_decide.specs.EditSplices.{splices_of}
use Rattle.mk_splice.specs.Splices.{LeadsTo}
use Rattle.mk_decide.specs.Local.{LocalConditions}

-- the reasons that look at the edited document
abbrev pub is_late : Refusal → Bool
is_late OpenLine = true
is_late (HoldsBoundary level) = true
is_late Recut = true
is_late _ = false

-- an edit that no earlier reason holds against gives the edited document exactly where this is stable, and a reason from
-- OpenLine to Recut exactly where it isn't
abbrev pub StabilityReasons : Type 0
StabilityReasons = (e : PlainEdit) (t : Document) (p : Plan) → plan_of e t ≡ Ok p
    → MatchResult (edited e t) (λ u. (u ≡ planned t.envelope p) × IsStable (planned t.envelope p)) (λ r. (is_late r ≡ true) × (IsStable (planned t.envelope p) → ⊥))

-- a part of a stable document is never refused to go but for its path
abbrev pub RemovalReasons : Type 0
RemovalReasons = (path : List ℕ) (t : Document) (e : Refusal) → IsStable t → edited (RemovePart path) t ≡ Err e → (e ≡ NoSuchSection) ⊎ (e ≡ NotPart)

-- an edit, at the section of its path, of a stable document gives a stable one exactly where its local conditions hold
abbrev pub LocalityOfEdits : Type 0
LocalityOfEdits = (e : PlainEdit) (t : Document) (fs : List Frame) (s : Entity) (p : Plan) → IsStable t → place_of (path_of e) t.root ≡ Some (fs, s) → plan_of e t ≡ Ok p → (IsStable (planned t.envelope p) ↔ LocalConditions e t s p)

-- a section is a leaf
abbrev pub IsLeaf : Entity → Type 0
IsLeaf (leaf h ls) = Unit {0}
IsLeaf (message h e) = ⊥
IsLeaf (multi h b pre ps t) = ⊥

-- a leaf that was wrapped has, as the one part of the multipart, the content that it had
abbrev pub WrappingKeepsContent : Type 0
WrappingKeepsContent = (path subtype boundary : List ℕ) (t u : Document) (p : Placed) → section_at path t ≡ Some p → IsLeaf p.entity → edited (Wrap path subtype boundary) t ≡ Ok u
    → option_map content_text (section_at (path ++ 1 ∷ []) u) ≡ Some (content_text p)

-- a plan puts a multipart without one of its parts in the place of the multipart
pub record IsWithoutPart (fs : List Frame) (p : Plan) : Type 0 where
  pub innermost : Frame
  pub around : fs ≡ p.around ++ innermost ∷ []
  pub new : without innermost ≡ Some p.new

-- a plan puts its entity in the place of the section, and the removal of a part in that of the multipart around
abbrev pub IsPlaced : PlainEdit → List Frame → Plan → Type 0
IsPlaced (RemovePart path) fs p = IsWithoutPart fs p
IsPlaced e fs p = p.around ≡ fs

-- an edit without an earlier reason is a replacement, and its local conditions are those of the replacement
abbrev pub EditsAreReplacements : Type 0
EditsAreReplacements = (e : PlainEdit) (t : Document) (fs : List Frame) (s : Entity) (p : Plan) → IsStable t → place_of (path_of e) t.root ≡ Some (fs, s) → plan_of e t ≡ Ok p
    → IsPlaced e fs p × (Replaces t.envelope p.around p.new ↔ LocalConditions e t s p)

-- the lines of the k-th field of a name are those of the k-th such field of the header
abbrev pub FieldsAreCounted : Type 0
FieldsAreCounted = (name : List ℕ) (k : ℕ) (fields : List TextLine) → option_map (λ f. field_text f.start f.more) (field_at name k fields) ≡ find_field name k (fields_of fields)

-- a field that is found leaves no line out: the lines are those before it, its own, and those after it
abbrev pub FieldsAreApart : Type 0
FieldsAreApart = (name : List ℕ) (k : ℕ) (fields : List TextLine) → IfSome (field_at name k fields) (λ (f : Found). f.before ++ (f.start ∷ (f.more ++ f.after)) ≡ fields)

-- a field start under another name: the name is the new one, and what follows it is as it was
abbrev pub NamesAreReplaced : Type 0
NamesAreReplaced = (to : List ℕ) (l : TextLine) → is_name to ≡ true → is_start l ≡ true → (name_of (renamed to l) ≡ to) × (after_name (renamed to l).content ≡ after_name l.content) × (name_of l ++ after_name l.content ≡ l.content)

-- what a path leads to is the section of that path
abbrev pub PathsLeadToSections : Type 0
PathsLeadToSections = (path : List ℕ) (t : Document) → section_at path t ≡ option_map (λ q. placed t.envelope q.0 q.1) (place_of path t.root)

-- the splices of an accepted edit lead from the text before to the text after, and back
abbrev pub SplicesLead : Type 0
SplicesLead = (e : PlainEdit) (text : List ℕ) (t : Document) → edited e (tree text) ≡ Ok t → LeadsTo (splices_of e (tree text)) text (printed t)

-- an accepted edit gives a document that is read as itself
abbrev pub EditsReadBack : Type 0
EditsReadBack = (e : PlainEdit) (text : List ℕ) (t : Document) → edited e (tree text) ≡ Ok t → tree (printed t) ≡ t
