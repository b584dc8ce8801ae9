-- What an edit gives: the edited document, or the first reason against it (own).
use Rattle.std.specs.Prelude.{◌||◌, if◌then◌else◌, ℕ, Bool, false, Option, None, Some, Result, Ok, Err, List, [], ◌∷◌, suc, length}
use Rattle.std.specs.Option.{option_or}
use Rattle.mk_line.specs.Lines.{TextLine}
use Rattle.mk_line.specs.Marks.{mark}
use Rattle.mk_tree.specs.Documents.{Document, document_lines}
use Rattle.mk_tree.specs.Upto.{is_mark}
use Rattle.mk_tree.specs.Equal.{is_stable}
use Rattle.mk_tree.specs.Places.{Frame, in_message, in_multi}
use Rattle.mk_decide.specs.Reasons.{is_open_early}
use Rattle.mk_decide.specs.Edits.{PlainEdit, Refusal, OpenLine, HoldsBoundary, Recut}
use Rattle.mk_decide.specs.Plans.{Plan, plan_of, planned}

-- some line is a delimiter or close line of a boundary (RFC 2046, 5.1.1)
abbrev pub has_mark : List ℕ → List TextLine → Bool
has_mark b [] = false
has_mark b (l ∷ ls) = is_mark (mark b l.content) || has_mark b ls

-- the level of the outermost multipart around that a line is a mark of; the outermost of all has level `level`
abbrev pub hit : ℕ → List Frame → List TextLine → Option ℕ
hit level [] ls = None
hit level (in_message h ∷ fs) ls = hit (suc level) fs ls
hit level (in_multi h b pre before l after t ∷ fs) ls = if has_mark b ls then Some level else hit (suc level) fs ls

-- the level of the outermost multipart that is hit: one around, or the one at the place itself
abbrev pub hit_level : Plan → Option ℕ
hit_level p = option_or (hit 1 p.around p.given) (if has_mark p.boundary p.inside then Some (suc (length p.around)) else None)

-- the reasons after OpenLine: a multipart is hit; the document would be read in another way
abbrev pub unless_hit : Option ℕ → Document → Result Document Refusal
unless_hit None t = if is_stable t then Ok t else Err Recut
unless_hit (Some level) t = Err (HoldsBoundary level)

-- the edited document of a plan, or the first of the reasons from OpenLine on; an earlier reason stands
abbrev pub judged_by : Option TextLine → Result Plan Refusal → Result Document Refusal
judged_by envelope (Ok p) = if is_open_early (document_lines (planned envelope p)) then Err OpenLine else unless_hit (hit_level p) (planned envelope p)
judged_by envelope (Err e) = Err e

-- what an edit gives
abbrev pub edited : PlainEdit → Document → Result Document Refusal
edited e t = judged_by t.envelope (plan_of e t)
