-- The plans of the edits, by names.
use Rattle.std.proofs.Common.{if◌then◌else◌, ◌≡◌, ◌++◌, take, ℕ, Bool, true, false, Option, Some, Result, Ok, Err, List, [], ◌∷◌}
use Rattle.std.specs.Prelude.{unwrap_or, IfNone, MatchResult}
use Rattle.mk_line.specs.declared.cutting.Ending.{Ending}
use Rattle.mk_line.specs.Lines.{TextLine, text_line}
use Rattle.mk_head.specs.Split.{Head}
use Rattle.mk_tree.specs.Tree.{Entity, leaf, Parts, read, field_lines}
use Rattle.mk_tree.specs.Documents.{Document, IsStable, levels, document_lines}
use Rattle.mk_tree.specs.Locality.{Ends}
use Rattle.mk_tree.specs.Spans.{digest_below}
use Rattle.mk_tree.specs.Places.{Frame, below, left_at, default_at, placed}
use Rattle.mk_splice.specs.Splices.{Splice}
use Rattle.mk_decide.specs.Edits.{PlainEdit, Refusal, NoSuchSection, NoSuchField, NotPart, BadPlace, OpenLine}
use Rattle.mk_decide.specs.FieldEdits.{Found, renamed}
use Rattle.mk_decide.specs.FieldPuts.{LinePut}
use Rattle.mk_decide.specs.EditSplices.{for_found, splices_in}
use Rattle.mk_decide.specs.Plans.{Plan, plain_plan, fields_plan, part_plan, planned, unless, unless_none}
use Rattle.mk_decide.specs.Reasons.{is_open_early}
use Rattle.mk_decide.specs.Outcomes.{hit_level, unless_hit}
use Rattle.mk_decide.specs.EditLaws.{is_late}

-- the fields with one more, as the first or as the last
abbrev pub added : Bool → List TextLine → List TextLine → List TextLine
added top given fields = if top then given ++ fields else fields ++ given

-- with lines put before its fields (top) or after them
abbrev pub add_plan : List Frame → Entity → Bool → List TextLine → Plan
add_plan fs s top given = fields_plan fs s (added top given (field_lines s)) given

-- without a field of it
abbrev pub drop_plan : List Frame → Entity → Found → Plan
drop_plan fs s f = fields_plan fs s (f.before ++ f.after) []

-- with a field under another name
abbrev pub rename_plan : List Frame → Entity → List ℕ → Found → Plan
rename_plan fs s to f = fields_plan fs s (f.before ++ (renamed to f.start ∷ (f.more ++ f.after))) (renamed to f.start ∷ [])

-- with lines in the place of a field
abbrev pub change_plan : List Frame → Entity → List TextLine → Found → Plan
change_plan fs s given f = fields_plan fs s (f.before ++ (given ++ f.after)) given

-- the entity that lines are read as at a place
abbrev pub read_plan : List Frame → List TextLine → Plan
read_plan fs given = plain_plan fs (read (left_at levels fs) (default_at false fs) given) given

-- a leaf with another body, after its separator or a made one
abbrev pub body_plan : Ending → List Frame → Head → List TextLine → Plan
body_plan eol fs h given = plain_plan fs (leaf (record { fields = h.fields; separator = Some (unwrap_or h.separator (text_line [] eol)) }) given) given

-- lines read as a part of a multipart at a place
abbrev pub part_read : List Frame → Head → List TextLine → Entity
part_read fs h given = read (below (left_at levels fs)) (digest_below (default_at false fs) h) given

-- what follows for the field that is found
abbrev pub with_field : {A : Type 0} → Option Found → (Found → Result A Refusal) → Result A Refusal
with_field o f = unless_none NoSuchField o f

-- a part more, where there are so many parts
abbrev pub insert_between : Ending → List Frame → Head → List ℕ → List TextLine → Option (TextLine × List TextLine) → List TextLine → Option (Parts × Parts) → Result Plan Refusal
insert_between eol fs h b pre t given o = unless_none BadPlace o (λ q. Ok (part_plan eol fs h b pre t given q))

-- the multipart without the part, where the section is a part
abbrev pub remove : Option (List Frame × Entity) → Result Plan Refusal
remove o = unless_none NotPart o (λ q. Ok (plain_plan q.0 q.1 []))

-- what follows for the section that is found
abbrev pub with_place : Option (List Frame × Entity) → (List Frame → Entity → Result Plan Refusal) → Result Plan Refusal
with_place o f = unless_none NoSuchSection o (λ q. f q.0 q.1)

-- the edited document of a plan, or the first of the reasons from OpenLine on
abbrev pub judged : Option TextLine → Plan → Result Document Refusal
judged envelope p = if is_open_early (document_lines (planned envelope p)) then Err OpenLine else unless_hit (hit_level p) (planned envelope p)

-- fields without a separator end before the first line of the body
abbrev pub HeaderEnds : List TextLine → Option TextLine → List TextLine → Type 0
HeaderEnds fields o body = IfNone o (Ends fields (take 1 body))

-- an answer is the document, which is stable, or a late reason, and the document isn't stable
abbrev pub IsJudged : Result Document Refusal → Document → Type 0
IsJudged r edit = MatchResult r (λ t. (t ≡ edit) × IsStable edit) (λ e. (is_late e ≡ true) × (IsStable edit → ⊥))

-- what is put among fields, unless a reason holds
abbrev pub put_unless : Bool → Refusal → LinePut → Result LinePut Refusal
put_unless b e p = unless b e (Ok p)

-- the splices of an edit at a place that is there
abbrev pub splices_at : PlainEdit → Ending → Option TextLine → Option (List Frame × Entity) → List Splice
splices_at e eol envelope o = for_found o (λ q. splices_in e eol (placed envelope q.0 q.1).start q.0 q.1)
