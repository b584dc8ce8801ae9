-- What an edit puts where, unless a reason of those before OpenLine holds against it (own).
use Rattle.std.specs.Prelude.{◌==◌, ◌++◌, if◌then◌else◌, ℕ, Bool, true, false, not, Option, None, Some, Result, Ok, Err, List, [], ◌∷◌, suc, zero, unwrap_or}
use Rattle.std.specs.Option.{option_map}
use Rattle.mk_line.specs.declared.cutting.Ending.{Ending}
use Rattle.mk_line.specs.Lines.{TextLine, cut, eol_of, text_line}
use Rattle.mk_head.specs.Split.{Head}
use Rattle.mk_head.specs.Fields.{is_one_field}
use Rattle.mk_head.specs.Boundaries.{is_boundary}
use Rattle.mk_head.specs.Values.{is_token}
use Rattle.mk_tree.specs.Tree.{Entity, leaf, message, multi, Parts, no_parts, part, read, field_lines, with_fields}
use Rattle.mk_tree.specs.Documents.{Document, levels, document_lines}
use Rattle.mk_tree.specs.Sections.{body_lines}
use Rattle.mk_tree.specs.Spans.{digest_below}
use Rattle.mk_tree.specs.Places.{Frame, in_message, in_multi, append_parts, place_at, below, left_at, default_at, put}
use Rattle.mk_decide.specs.Edits.{PlainEdit, AddField, RemoveField, RenameField, SetField, SetBody, SetSection, InsertPart, RemovePart, Wrap, path_of, Refusal, NoSuchSection, NotMultipart, NotLeaf, NotPart, NoSuchField, BadPlace, BadField, BadName, BadBoundary, BadSubtype}
use Rattle.mk_line.specs.Kinds.{is_name}
use Rattle.mk_decide.specs.FieldEdits.{Found, field_at, renamed}
use Rattle.mk_line.specs.Marks.{delimiter_line}
use Rattle.mk_decide.specs.Wrapping.{other_fields, made_lines, wrapped}

-- a new entity and what stands around it; `given`: its given and made lines, which no enclosing multipart may have as
-- marks; `inside`: lines that a boundary at the place itself may not have as marks
pub record Plan : Type 0 where
  pub around : List Frame
  pub new : Entity
  pub given : List TextLine
  pub boundary : List ℕ
  pub inside : List TextLine

-- a plan without a boundary at the place itself
abbrev pub plain_plan : List Frame → Entity → List TextLine → Plan
plain_plan fs new given = record { around = fs; new = new; given = given; boundary = []; inside = [] }

-- a section with other fields
abbrev pub fields_plan : List Frame → Entity → List TextLine → List TextLine → Plan
fields_plan fs s fields given = plain_plan fs (with_fields fields s) given

-- a reason where a test holds, and else what follows
abbrev pub unless : {A : Type 0} → Bool → Refusal → Result A Refusal → Result A Refusal
unless true e r = Err e
unless false e r = r

-- a reason where there is nothing, and else what follows for what is there
abbrev pub unless_none : {A B : Type 0} → Refusal → Option A → (A → Result B Refusal) → Result B Refusal
unless_none e None f = Err e
unless_none e (Some x) f = f x

-- another body, after the separator or a made one, where the section is a leaf
abbrev pub set_body : Ending → List Frame → Entity → List TextLine → Result Plan Refusal
set_body eol fs (leaf h ls) given = Ok (plain_plan fs (leaf (record { fields = h.fields; separator = Some (unwrap_or h.separator (text_line [] eol)) }) given) given)
set_body eol fs (message h e) given = Err NotLeaf
set_body eol fs (multi h b pre ps t) given = Err NotLeaf

-- parts with so many at the start, and the others
abbrev pub parts_at : ℕ → Parts → Option (Parts × Parts)
parts_at zero ps = Some (no_parts, ps)
parts_at (suc k) no_parts = None
parts_at (suc k) (part l e ps) = option_map (λ q. (part l e q.0, q.1)) (parts_at k ps)

-- a multipart with a part more between its parts: a made delimiter, and what lines are read as there
abbrev pub part_plan : Ending → List Frame → Head → List ℕ → List TextLine → Option (TextLine × List TextLine) → List TextLine → Parts × Parts → Plan
part_plan eol fs h b pre t given q = record {
  around = fs;
  new = multi h b pre (append_parts q.0 (part (delimiter_line eol b) (read (below (left_at levels fs)) (digest_below (default_at false fs) h) given) q.1)) t;
  given = delimiter_line eol b ∷ given;
  boundary = b;
  inside = given;
}

-- a part more, where the section is a multipart with so many parts
abbrev pub insert : Ending → List Frame → Entity → ℕ → List TextLine → Result Plan Refusal
insert eol fs (leaf h ls) place given = Err NotMultipart
insert eol fs (message h e) place given = Err NotMultipart
insert eol fs (multi h b pre ps t) place given = unless_none BadPlace (parts_at place ps) (λ q. Ok (part_plan eol fs h b pre t given q))

-- a multipart without the part that stands here
abbrev pub without : Frame → Option Entity
without (in_message h) = None
without (in_multi h b pre before l after t) = Some (multi h b pre (append_parts before after) t)

-- the multipart that holds a place, without the part there
abbrev pub last_without : List Frame → Option (List Frame × Entity)
last_without [] = None
last_without (f ∷ []) = option_map (λ e. ([], e)) (without f)
last_without (f ∷ g ∷ fs) = option_map (λ q. (f ∷ q.0, q.1)) (last_without (g ∷ fs))

-- the section as the one part of a multipart; the new boundary stands at the place itself
abbrev pub wrap : Ending → List Frame → Entity → List ℕ → List ℕ → Plan
wrap eol fs s subtype boundary = record {
  around = fs;
  new = wrapped eol fs s subtype boundary;
  given = made_lines eol fs (other_fields false (field_lines s)) subtype boundary;
  boundary = boundary;
  inside = body_lines s;
}

-- what an edit does at a place: the plan, or the first reason against it
abbrev pub plan_at : PlainEdit → Ending → List Frame → Entity → Result Plan Refusal
plan_at (AddField path top text) eol fs s = unless (not (is_one_field (cut text))) BadField (Ok (fields_plan fs s (if top then cut text ++ field_lines s else field_lines s ++ cut text) (cut text)))
plan_at (RemoveField path name k) eol fs s = unless_none NoSuchField (field_at name k (field_lines s)) (λ f. Ok (fields_plan fs s (f.before ++ f.after) []))
plan_at (RenameField path name k to) eol fs s =
    unless_none NoSuchField (field_at name k (field_lines s)) (λ f. unless (not (is_name to)) BadName
    (Ok (fields_plan fs s (f.before ++ (renamed to f.start ∷ (f.more ++ f.after))) (renamed to f.start ∷ []))))
plan_at (SetField path name k text) eol fs s =
    unless_none NoSuchField (field_at name k (field_lines s)) (λ f. unless (not (is_one_field (cut text))) BadField
    (Ok (fields_plan fs s (f.before ++ (cut text ++ f.after)) (cut text))))
plan_at (SetBody path text) eol fs s = set_body eol fs s (cut text)
plan_at (SetSection path text) eol fs s = Ok (plain_plan fs (read (left_at levels fs) (default_at false fs) (cut text)) (cut text))
plan_at (InsertPart path place text) eol fs s = insert eol fs s place (cut text)
plan_at (RemovePart path) eol fs s = unless_none NotPart (last_without fs) (λ q. Ok (plain_plan q.0 q.1 []))
plan_at (Wrap path subtype boundary) eol fs s = unless (not (is_boundary boundary)) BadBoundary (unless (not (is_token subtype)) BadSubtype (Ok (wrap eol fs s subtype boundary)))

-- the section at a path, and what stands around it
abbrev pub place_of : List ℕ → Entity → Option (List Frame × Entity)
place_of [] root = None
place_of (k ∷ ks) root = if k == 1 then place_at ks root else None

-- the plan of an edit, or the first of the reasons before OpenLine. Made lines end as the message does
abbrev pub plan_of : PlainEdit → Document → Result Plan Refusal
plan_of e t = unless_none NoSuchSection (place_of (path_of e) t.root) (λ q. plan_at e (eol_of (document_lines t)) q.0 q.1)

-- the edited document
abbrev pub planned : Option TextLine → Plan → Document
planned envelope p = put envelope p.around p.new
