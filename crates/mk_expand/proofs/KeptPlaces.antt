-- Sections of two documents of which each leaf of the one keeps its content in the other.
use Rattle.std.proofs.Common.{◌≡◌, ◌==◌, ◌||◌, ◌++◌, ℕ, zero, suc, Bool, true, false, Option, None, Some, List, [], ◌∷◌, refl, ap, sym, ◌∙◌, subst, append_assoc, append-nil, inl, inr, option_and_then}
use Rattle.std.proofs.lemmas.Bool.{cases_Bool}
use Rattle.mk_line.specs.Lines.{TextLine, is_nil}
use Rattle.std.specs.Prelude.{not}
use Rattle.mk_head.specs.Fields.{counted}
use Rattle.mk_tree.specs.declared.shapes.Kind.TheVariants.{Leaf}
use Rattle.mk_tree.specs.Cutting.{tail_lines}
use Rattle.mk_tree.specs.Documents.{Document}
use Rattle.mk_tree.specs.Forms.{kind_in}
use Rattle.mk_tree.specs.Places.{Frame, in_message, in_multi, append_parts, lines_after, plug}
use Rattle.mk_tree.specs.Sections.{Placed, children, children_of, content_text, has_part, parts_placed, root_of, section_at, section_below}
use Rattle.mk_tree.proofs.TreeNames.{has_tail}
use Rattle.mk_tree.specs.Tree.{Entity, leaf, message, multi, Parts, no_parts, part, print_parts}
use Rattle.mk_decide.specs.EditLaws.{IsLeaf}
use Rattle.mk_view.specs.Extracts.{IsContentBy, IsExtract}
use Rattle.mk_view.specs.Listing.{encoding_in}
use Rattle.mk_expand.proofs.KeptContents.{Keeps, KeepParts, keeps_same, parts_same}

-- whether a line follows a place, where one follows the whole or none does
abbrev pub flag : Bool → List Frame → Bool
flag f [] = f
flag f (in_message h ∷ fs) = flag f fs
flag f (in_multi h b pre before l after t ∷ fs) = flag (has_part after || (has_tail t || f)) fs

after_line : (after : Parts) (t : Option (TextLine × List TextLine)) (rest : List TextLine) (f : Bool) → not (is_nil rest) ≡ f → not (is_nil ((print_parts after ++ tail_lines t) ++ rest)) ≡ (has_part after || (has_tail t || f))
after_line no_parts None rest f e = e
after_line no_parts (Some t) rest f e = refl
after_line (part l x ps) t rest f e = refl

flag_by : (f : Bool) (rest : List TextLine) (fs : List Frame) → not (is_nil rest) ≡ f → not (is_nil (lines_after fs ++ rest)) ≡ flag f fs
flag_by f rest [] e = e
flag_by f rest (in_message h ∷ fs) e = flag_by f rest fs e
flag_by f rest (in_multi h b pre before l after t ∷ fs) e =
    ap (λ ls. not (is_nil ls)) (append_assoc (lines_after fs) (print_parts after ++ tail_lines t) rest)
    ∙ flag_by (has_part after || (has_tail t || f)) ((print_parts after ++ tail_lines t) ++ rest) fs (after_line after t rest f e)

pub flag_line : (fs : List Frame) → not (is_nil (lines_after fs)) ≡ flag false fs
flag_line fs = ap (λ ls. not (is_nil ls)) (sym (append-nil (lines_after fs))) ∙ flag_by false [] fs refl

-- parts, one of which keeps its contents
pub some_part : (before : Parts) (l : TextLine) (e : Entity) (after : Parts) → has_part (append_parts before (part l e after)) ≡ true
some_part no_parts l e after = refl
some_part (part m x ps) l e after = refl

pub keeps_by : (a b f : Bool) (e : Entity) → a ≡ true → b ≡ true → Keeps (a || f) e (b || f) e
keeps_by a b f e p q = subst (λ x. Keeps (x || f) e (b || f) e) (sym p) (subst (λ y. Keeps true e (y || f) e) (sym q) (keeps_same true e))

parts_put : (f : Bool) (before : Parts) (l : TextLine) (x y : Entity) (after : Parts) → Keeps (has_part after || f) x (has_part after || f) y → KeepParts f (append_parts before (part l x after)) f (append_parts before (part l y after))
parts_put f no_parts l x y after k = (k, parts_same f after)
parts_put f (part m e ps) l x y after k =
    (keeps_by (has_part (append_parts ps (part l x after))) (has_part (append_parts ps (part l y after))) f e (some_part ps l x after) (some_part ps l y after), parts_put f ps l x y after k)

-- a section in its place
pub plug_keeps : (f : Bool) (fs : List Frame) (x y : Entity) → Keeps (flag f fs) x (flag f fs) y → Keeps f (plug fs x) f (plug fs y)
plug_keeps f [] x y k = k
plug_keeps f (in_message h ∷ fs) x y k = plug_keeps f fs x y k
plug_keeps f (in_multi h b pre before l after t ∷ fs) x y k =
    parts_put (has_tail t || f) before l (plug fs x) (plug fs y) after (plug_keeps (has_part after || (has_tail t || f)) fs x y k)

-- a section of the other that keeps the contents of one
record Twin (p : Placed) (o : Option Placed) : Type 0 where
  pub other : Placed
  found : o ≡ Some other
  keeps : Keeps p.followed p.entity other.followed other.entity

none_some : {A : Type 0} (p : Placed) → ◌≡◌ {A = Option Placed} None (Some p) → A
none_some p e = cc

some_same : (p q : Placed) → ◌≡◌ {A = Option Placed} (Some p) (Some q) → p ≡ q
some_same p q e = cc

twin_is : (c p : Placed) (o : Option Placed) → Twin c o → c ≡ p → Twin p o
twin_is c p o t e = subst (λ x. Twin x o) e t

part_twin : (k place place' : ℕ) (f g digest digest' : Bool) (ps qs : Parts) (c : Placed) → KeepParts f ps g qs → counted k (parts_placed place f digest ps) ≡ Some c → Twin c (counted k (parts_placed place' g digest' qs))
part_twin k place place' f g digest digest' no_parts qs c h e = none_some c e
part_twin k place place' f g digest digest' (part l x ps) no_parts c h e = absurd h
part_twin zero place place' f g digest digest' (part l x ps) (part m y qs) c h e = none_some c e
part_twin (suc zero) place place' f g digest digest' (part l x ps) (part m y qs) c h e = twin_is _ c _ (record { other = _; found = refl; keeps = h.0 }) (some_same _ c e)
part_twin (suc (suc k)) place place' f g digest digest' (part l x ps) (part m y qs) c h e = part_twin (suc k) _ _ f g digest digest' ps qs c h.1 e

child_twin : (k : ℕ) (p q : Placed) (d e : Entity) (c : Placed) → Keeps p.followed d q.followed e → counted k (children_of p d) ≡ Some c → Twin c (counted k (children_of q e))
child_twin k p q (leaf h ls) e c m o = none_some c o
child_twin k p q (message h x) (leaf i ms) c m o = absurd m
child_twin zero p q (message h x) (message i y) c m o = none_some c o
child_twin (suc zero) p q (message h x) (message i y) c m o = twin_is _ c _ (record { other = _; found = refl; keeps = m }) (some_same _ c o)
child_twin (suc (suc k)) p q (message h x) (message i y) c m o = none_some c o
child_twin k p q (message h x) (multi i b pre qs t) c m o = absurd m
child_twin k p q (multi h b pre ps t) (leaf i ms) c m o = absurd m
child_twin k p q (multi h b pre ps t) (message i y) c m o = absurd m
child_twin k p q (multi h b pre ps t) (multi i a pre' qs t') c m o = part_twin k _ _ (has_tail t || p.followed) (has_tail t' || q.followed) _ _ ps qs c m o

below_by : (ks : List ℕ) (o n : Option Placed) (x : Placed) → ((c : Placed) → o ≡ Some c → Twin c n) → ((c d : Placed) → Keeps c.followed c.entity d.followed d.entity → section_below ks c ≡ Some x → Twin x (section_below ks d)) → option_and_then (section_below ks) o ≡ Some x
    → Twin x (option_and_then (section_below ks) n)
below_by ks None n x h r e = none_some x e
below_by ks (Some c) n x h r e =
    let twin = h c refl in
    subst (λ m. Twin x (option_and_then (section_below ks) m)) (sym twin.found) (r c twin.other twin.keeps e)

below_twin : (ks : List ℕ) (p q x : Placed) → Keeps p.followed p.entity q.followed q.entity → section_below ks p ≡ Some x → Twin x (section_below ks q)
below_twin [] p q x h e = twin_is p x (Some q) (record { other = q; found = refl; keeps = h }) (some_same p x e)
below_twin (k ∷ ks) p q x h e = below_by ks (counted k (children p)) (counted k (children q)) x (λ c o. child_twin k p q p.entity q.entity c h o) (λ c d m o. below_twin ks c d x m o) e

at_twin : (path : List ℕ) (t u : Document) (x : Placed) → Keeps false t.root false u.root → section_at path t ≡ Some x → Twin x (section_at path u)
at_twin [] t u x h e = none_some x e
at_twin (k ∷ ks) t u x h e = elim (cases_Bool (k == 1)) [
  | inl one ↦ rw one (below_twin ks (root_of t) (root_of u) x h (rw one at e))
  | inr other ↦ none_some x (rw other at e)
]

-- a leaf of the one is a leaf of the other, with the same content
record SameLeaf (p q : Placed) : Type 0 where
  kind : kind_in p.entity ≡ Leaf
  other : kind_in q.entity ≡ Leaf
  encoding : encoding_in p ≡ encoding_in q
  content : content_text p ≡ content_text q

same_leaf : (start start' : ℕ) (f g digest digest' : Bool) (d e : Entity) → Keeps f d g e → IsLeaf d
    → SameLeaf (record { start = start; followed = f; digest = digest; entity = d }) (record { start = start'; followed = g; digest = digest'; entity = e })
same_leaf start start' f g digest digest' (leaf h ls) (leaf i ms) k l = record { kind = refl; other = refl; encoding = k.0; content = k.1 }
same_leaf start start' f g digest digest' (leaf h ls) (message i y) k l = absurd k
same_leaf start start' f g digest digest' (leaf h ls) (multi i b pre qs t) k l = absurd k
same_leaf start start' f g digest digest' (message h x) e k l = absurd l
same_leaf start start' f g digest digest' (multi h b pre ps t) e k l = absurd l

leaf_content : (p q : Placed) (bytes : List ℕ) → SameLeaf p q → IsExtract (Some p) bytes → IsExtract (Some q) bytes
leaf_content p q bytes s x =
    let plain : IsContentBy Leaf (encoding_in p) (content_text p) bytes = subst (λ k. IsContentBy k (encoding_in p) (content_text p) bytes) s.kind x in
    let other : IsContentBy Leaf (encoding_in q) (content_text q) bytes = subst (λ c. IsContentBy Leaf (encoding_in q) c bytes) s.content (subst (λ n. IsContentBy Leaf n (content_text p) bytes) s.encoding plain) in
    subst (λ k. IsContentBy k (encoding_in q) (content_text q) bytes) (sym s.other) other

-- what is extracted of a leaf stays
pub contents_kept : (path bytes : List ℕ) (t u : Document) (x : Placed) → Keeps false t.root false u.root → section_at path t ≡ Some x → IsLeaf x.entity → IsExtract (Some x) bytes → IsExtract (section_at path u) bytes
contents_kept path bytes t u x h e l extract =
    let twin = at_twin path t u x h e in
    subst (λ o. IsExtract o bytes) (sym twin.found)
    (leaf_content x twin.other bytes (same_leaf x.start twin.other.start x.followed twin.other.followed x.digest twin.other.digest x.entity twin.other.entity twin.keeps l) extract)
