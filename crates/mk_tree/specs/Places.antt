-- Places in a tree: an entity, and what stands around it, level by level (own).
use Rattle.std.specs.Prelude.{◌++◌, ℕ, zero, suc, Bool, false, Option, None, Some, List, [], ◌∷◌, option_and_then, not}
use Rattle.std.specs.Option.{option_map, option_to_list}
use Rattle.mk_line.specs.Lines.{TextLine, is_nil}
use Rattle.mk_head.specs.Split.{Head, head_lines}
use Rattle.mk_head.specs.Fields.{counted}
use Rattle.mk_tree.specs.Cutting.{tail_lines}
use Rattle.mk_tree.specs.Tree.{Entity, leaf, message, multi, Parts, no_parts, part, print_parts}
use Rattle.mk_tree.specs.Documents.{Document}
use Rattle.mk_tree.specs.Spans.{size, digest_below}
use Rattle.mk_tree.specs.Sections.{Placed}

-- what stands directly around an entity: the head of a message, or a multipart without one of its parts
pub data Frame : Type 0 where
  in_message : Head → Frame
  in_multi : Head → (boundary : List ℕ) → (preamble : List TextLine) → (before : Parts) → (delimiter : TextLine) → (after : Parts) → (tail : Option (TextLine × List TextLine)) → Frame

-- parts after parts
abbrev pub append_parts : Parts → Parts → Parts
append_parts no_parts qs = qs
append_parts (part l e ps) qs = part l e (append_parts ps qs)

-- an entity and what stands directly around it
abbrev pub plug_one : Frame → Entity → Entity
plug_one (in_message h) e = message h e
plug_one (in_multi h b pre before l after t) e = multi h b pre (append_parts before (part l e after)) t

-- an entity and all that stands around it, the outermost first
abbrev pub plug : List Frame → Entity → Entity
plug [] e = e
plug (f ∷ fs) e = plug_one f (plug fs e)

-- the part of a number, counted from 1: the parts before it, its delimiter, its entity, the parts after it
abbrev pub part_at : ℕ → Parts → Option (Parts × TextLine × Entity × Parts)
part_at k no_parts = None
part_at zero (part l e ps) = None
part_at (suc zero) (part l e ps) = Some (no_parts, l, e, ps)
part_at (suc (suc k)) (part l e ps) = option_map (λ q. (part l e q.0, q.1, q.2, q.3)) (part_at (suc k) ps)

-- the section of a number directly below an entity; the one below a message has number 1
abbrev pub step_to : ℕ → Entity → Option (Frame × Entity)
step_to k (leaf h ls) = None
step_to k (message h e) = counted k ((in_message h, e) ∷ [])
step_to k (multi h b pre ps t) = option_map (λ q. (in_multi h b pre q.0 q.1 q.3 t, q.2)) (part_at k ps)

-- the section at numbers below an entity, and what stands around it
abbrev pub place_at : List ℕ → Entity → Option (List Frame × Entity)
place_at [] e = Some ([], e)
place_at (k ∷ ks) e = option_and_then (λ p. option_map (λ q. (p.0 ∷ q.0, q.1)) (place_at ks p.1)) (step_to k e)

-- the head of what stands directly around
abbrev pub frame_head : Frame → Head
frame_head (in_message h) = h
frame_head (in_multi h b pre before l after t) = h

-- one level fewer
abbrev pub below : ℕ → ℕ
below zero = zero
below (suc left) = left

-- how many levels may stand below a place
abbrev pub left_at : ℕ → List Frame → ℕ
left_at left [] = left
left_at left (f ∷ fs) = left_at (below left) fs

-- whether a missing type means a message one level deeper (RFC 2046, 5.1.5); never directly inside a message
abbrev pub digest_in : Bool → Frame → Bool
digest_in digest (in_message h) = false
digest_in digest (in_multi h b pre before l after t) = digest_below digest h

-- whether it does at a place
abbrev pub default_at : Bool → List Frame → Bool
default_at digest [] = digest
default_at digest (f ∷ fs) = default_at (digest_in digest f) fs

-- the lines before a place
abbrev pub lines_before : List Frame → List TextLine
lines_before [] = []
lines_before (in_message h ∷ fs) = head_lines h ++ lines_before fs
lines_before (in_multi h b pre before l after t ∷ fs) = head_lines h ++ (pre ++ (print_parts before ++ (l ∷ lines_before fs)))

-- the lines after it
abbrev pub lines_after : List Frame → List TextLine
lines_after [] = []
lines_after (in_message h ∷ fs) = lines_after fs
lines_after (in_multi h b pre before l after t ∷ fs) = lines_after fs ++ (print_parts after ++ tail_lines t)

-- the document with an entity at a place
abbrev pub put : Option TextLine → List Frame → Entity → Document
put envelope fs e = record { envelope = envelope; root = plug fs e }

-- the section that an entity is at a place of a document
abbrev pub placed : Option TextLine → List Frame → Entity → Placed
placed envelope fs e = record {
  start = size (option_to_list envelope ++ lines_before fs);
  followed = not (is_nil (lines_after fs));
  digest = default_at false fs;
  entity = e;
}
