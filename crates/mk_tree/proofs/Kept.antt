-- A document's lines are the lines that it was read from.
use Rattle.std.proofs.Common.{if◌then◌else◌, ◌≡◌, ◌++◌, ℕ, zero, suc, Bool, true, false, None, Some, List, [], ◌∷◌, refl, ap, ◌∙◌}
use Rattle.std.specs.List.{flat_map}
use Rattle.mk_line.specs.Lines.{TextLine, cut, text_of}
use Rattle.mk_line.specs.Kinds.{is_from_line}
use Rattle.mk_line.proofs.Cuts.{text_cut}
use Rattle.mk_head.proofs.Splits.{head_body}
use Rattle.mk_head.specs.Split.{Head, head_of, head_lines, after_head}
use Rattle.mk_tree.specs.Kinds.{Kind, Leaf, Message, Multi, kind}
use Rattle.mk_tree.specs.Cutting.{cut_by}
use Rattle.mk_tree.specs.Tree.{Entity, parts_by, entity_by, read, print, print_parts}
use Rattle.mk_tree.proofs.OneCut.{cut_is}
use Rattle.mk_tree.specs.Documents.{Document, levels, document_of, tree, document_lines, printed}

pub print_parts_by : (f : List TextLine → Entity) → ((ls : List TextLine) → print (f ls) ≡ ls) → (ps : List (TextLine × List TextLine)) → print_parts (parts_by f ps) ≡ flat_map (λ p. p.0 ∷ p.1) ps
print_parts_by f h [] = refl
print_parts_by f h (p ∷ ps) = rw (h p.1, print_parts_by f h ps) refl

print_by : (f : Bool → List TextLine → Entity) → ((d : Bool) (ls : List TextLine) → print (f d ls) ≡ ls) → (k : Kind) (h : Head) (ls : List TextLine) → print (entity_by f k h ls) ≡ head_lines h ++ ls
print_by f e Leaf h ls = refl
print_by f e Message h ls = ap (λ xs. head_lines h ++ xs) (e false ls)
print_by f e (Multi b digest) h ls = rw (print_parts_by (f digest) (e digest) (cut_by b ls).parts, (cut_is b ls).joined) refl

pub print_read : (n : ℕ) (d : Bool) (ls : List TextLine) → print (read n d ls) ≡ ls
print_read zero d ls = head_body ls
print_read (suc n) d ls = print_by (read n) (print_read n) (kind (head_of ls).fields d) (head_of ls) (after_head ls) ∙ head_body ls

-- lines whose first is the envelope, or isn't
abbrev pub enveloped : Bool → TextLine → List TextLine → Document
enveloped t l ls =
    if t then record { envelope = Some l; root = read levels false ls }
    else record { envelope = None; root = read levels false (l ∷ ls) }

enveloped_kept : (t : Bool) (l : TextLine) (ls : List TextLine) → document_lines (enveloped t l ls) ≡ l ∷ ls
enveloped_kept true l ls = ap (λ xs. l ∷ xs) (print_read levels false ls)
enveloped_kept false l ls = print_read levels false (l ∷ ls)

pub document_kept : (ls : List TextLine) → document_lines (document_of ls) ≡ ls
document_kept [] = print_read levels false []
document_kept (l ∷ ls) = enveloped_kept (is_from_line l.content) l ls

pub lines_kept : (text : List ℕ) → document_lines (tree text) ≡ cut text
lines_kept text = document_kept (cut text)

pub text_kept : (text : List ℕ) → printed (tree text) ≡ text
text_kept text = ap text_of (lines_kept text) ∙ text_cut text
