-- Entities of which each leaf keeps its content, and where sections get an ending after them.
use Rattle.std.proofs.Common.{◌≡◌, ◌||◌, ℕ, zero, suc, Bool, true, false, List, [], ◌∷◌, map, codes, refl, ap, sym, ◌∙◌, subst, inl, inr}
use Rattle.mk_line.specs.Lines.{TextLine}
use Rattle.mk_head.specs.Split.{Head, after_head, fields_from, head_of}
use Rattle.mk_head.specs.Types.{field_value, header_encoding, type_by}
use Rattle.std.specs.Option.{option_map_or}
use Rattle.mk_tree.specs.Cutting.{Cut, cut_by}
use Rattle.mk_tree.specs.Kinds.{Kind, Leaf, Message, Multi, kind, kind_at, kind_of}
use Rattle.mk_tree.specs.Sections.{has_part}
use Rattle.mk_tree.proofs.TreeNames.{has_tail}
use Rattle.mk_tree.specs.Tree.{Entity, leaf, message, multi, Parts, no_parts, part, entity_by, parts_by, read}
use Rattle.mk_expand.proofs.GrownLines.{CutGrows, GrowsOr, PartsGrow, bare, content_by, cut_grows, grown_content, heads_grow_or, same_value}
use Rattle.mk_head.specs.Encodings.{encoding_of}
use Rattle.mk_head.specs.declared.encodings.Encoding.TheVariants.{Identity}

abbrev mutual
  -- each leaf of an entity is one of another, at the same numbers, with the same content; after either a line may follow
  pub Keeps : Bool → Entity → Bool → Entity → Type 0
  Keeps f (leaf h ls) g (leaf k ms) = (header_encoding h.fields ≡ header_encoding k.fields) × (content_by f ls ≡ content_by g ms)
  Keeps f (leaf h ls) g (message k x) = ⊥
  Keeps f (leaf h ls) g (multi k c pre qs t) = ⊥
  Keeps f (message h e) g (leaf k ms) = ⊥
  Keeps f (message h e) g (message k x) = Keeps f e g x
  Keeps f (message h e) g (multi k c pre qs t) = ⊥
  Keeps f (multi h b pre ps t) g (leaf k ms) = ⊥
  Keeps f (multi h b pre ps t) g (message k x) = ⊥
  Keeps f (multi h b pre ps t) g (multi k c pre' qs t') = KeepParts (has_tail t || f) ps (has_tail t' || g) qs

  -- the same of parts; there may be more of the others
  pub KeepParts : Bool → Parts → Bool → Parts → Type 0
  KeepParts f no_parts g qs = Unit {0}
  KeepParts f (part l e ps) g no_parts = ⊥
  KeepParts f (part l e ps) g (part m x qs) = Keeps (has_part ps || f) e (has_part qs || g) x × KeepParts f ps g qs

mutual
  pub keeps_same : (f : Bool) (e : Entity) → Keeps f e f e
  keeps_same f (leaf h ls) = (refl, refl)
  keeps_same f (message h e) = keeps_same f e
  keeps_same f (multi h b pre ps t) = parts_same (has_tail t || f) ps

  pub parts_same : (f : Bool) (ps : Parts) → KeepParts f ps f ps
  parts_same f no_parts = tt
  parts_same f (part l e ps) = (keeps_same (has_part ps || f) e, parts_same f ps)

-- fields that differ in endings alone say the same of a body
same_encoding : (fields others : List TextLine) → map bare fields ≡ map bare others → header_encoding fields ≡ header_encoding others
same_encoding fields others e = ap (λ o. option_map_or encoding_of o Identity) (same_value (codes "Content-Transfer-Encoding") fields others e)

same_kind : (n : ℕ) (d : Bool) (fields others : List TextLine) → map bare fields ≡ map bare others → kind_at n fields d ≡ kind_at n others d
unfolding kind
same_kind zero d fields others e = refl
same_kind (suc n) d fields others e =
    ap (λ o. kind_of (type_by d o) (header_encoding fields)) (same_value (codes "Content-Type") fields others e)
    ∙ ap (λ x. kind_of (type_by d (field_value (codes "Content-Type") others)) x) (same_encoding fields others e)

-- what reads entities one level deeper
abbrev GrowsIn : (List TextLine → Entity) → Type 0
GrowsIn f = (ls ms : List TextLine) → GrowsOr ls ms → Keeps false (f ls) true (f ms)

-- parts of which the last gets an ending
parts_kept : (f : List TextLine → Entity) (ps qs : List (TextLine × List TextLine)) → GrowsIn f → PartsGrow ps qs → KeepParts false (parts_by f ps) true (parts_by f qs)
parts_kept f [] qs r h = absurd h
parts_kept f (p ∷ ps) [] r h = absurd h
parts_kept f (p ∷ ps) (q ∷ qs) r (inl h) =
    subst (λ xs. KeepParts false (parts_by f (p ∷ xs)) true (parts_by f (q ∷ qs))) (sym h.0)
    (subst (λ ys. KeepParts false (parts_by f (p ∷ [])) true (parts_by f (q ∷ ys))) (sym h.1) (r p.1 q.1 h.2, tt))
parts_kept f (p ∷ []) (q ∷ qs) r (inr h) = absurd h.1
parts_kept f (p ∷ p1 ∷ ps) (q ∷ []) r (inr h) = absurd h.1
parts_kept f (p ∷ p1 ∷ ps) (q ∷ q1 ∷ qs) r (inr h) = (subst (λ x. Keeps true (f p.1) true (f x)) h.0 (keeps_same true (f p.1)), parts_kept f (p1 ∷ ps) (q1 ∷ qs) r h.1)

or_true : (a : Bool) → (a || true) ≡ true
or_true true = refl
or_true false = refl

-- a body cut by a boundary
cut_kept : (f : List TextLine → Entity) (c d : Cut) → GrowsIn f → CutGrows c d → KeepParts (has_tail c.tail || false) (parts_by f c.parts) (has_tail d.tail || true) (parts_by f d.parts)
cut_kept f c d r (inl h) = subst (λ ps. KeepParts (has_tail c.tail || false) (parts_by f ps) (has_tail d.tail || true) (parts_by f d.parts)) (sym h.2) tt
cut_kept f c d r (inr (inl h)) =
    let first : (has_tail c.tail || false) ≡ false = ap (λ o. has_tail o || false) h.0 in
    subst (λ x. KeepParts x (parts_by f c.parts) (has_tail d.tail || true) (parts_by f d.parts)) (sym first)
    (subst (λ y. KeepParts false (parts_by f c.parts) y (parts_by f d.parts)) (sym (or_true (has_tail d.tail))) (parts_kept f c.parts d.parts r h.3))
cut_kept f c d r (inr (inr h)) =
    let first : (has_tail c.tail || false) ≡ true = ap (λ x. x || false) h.0 in
    subst (λ x. KeepParts x (parts_by f c.parts) (has_tail d.tail || true) (parts_by f d.parts)) (sym first)
    (subst (λ y. KeepParts true (parts_by f c.parts) y (parts_by f d.parts)) (sym (or_true (has_tail d.tail)))
    (subst (λ qs. KeepParts true (parts_by f c.parts) true (parts_by f qs)) h.3 (parts_same true (parts_by f c.parts))))

cuts_kept : (f : List TextLine → Entity) (b : List ℕ) (ls ms : List TextLine) → GrowsIn f → GrowsOr ls ms → KeepParts (has_tail (cut_by b ls).tail || false) (parts_by f (cut_by b ls).parts) (has_tail (cut_by b ms).tail || true) (parts_by f (cut_by b ms).parts)
cuts_kept f b ls ms r (inl h) = cut_kept f (cut_by b ls) (cut_by b ms) r (cut_grows b ls ms h)
cuts_kept f b ls ms r (inr h) = subst (λ xs. KeepParts (has_tail (cut_by b xs).tail || false) (parts_by f (cut_by b xs).parts) (has_tail (cut_by b ms).tail || true) (parts_by f (cut_by b ms).parts)) (sym h.0) tt

entity_kept : (f : Bool → List TextLine → Entity) (k : Kind) (h i : Head) (ls ms : List TextLine) → ((d : Bool) → GrowsIn (f d)) → header_encoding h.fields ≡ header_encoding i.fields → GrowsOr ls ms → Keeps false (entity_by f k h ls) true (entity_by f k i ms)
entity_kept f Leaf h i ls ms r e g = (e, grown_content ls ms g)
entity_kept f Message h i ls ms r e g = r false ls ms g
entity_kept f (Multi b digest) h i ls ms r e g = cuts_kept (f digest) b ls ms (r digest) g

-- the entity that lines are read as, and the one that they are read as with an ending after them
pub read_kept : (n : ℕ) (d : Bool) → GrowsIn (read n d)
read_kept zero d ls ms g =
    let heads = heads_grow_or false ls ms g in
    (same_encoding (fields_from false ls) (fields_from false ms) heads.0, grown_content (after_head ls) (after_head ms) heads.1)
read_kept (suc n) d ls ms g =
    let heads = heads_grow_or false ls ms g in
    subst (λ k. Keeps false (read (suc n) d ls) true (entity_by (read n) k (head_of ms) (after_head ms))) (same_kind (suc n) d (fields_from false ls) (fields_from false ms) heads.0)
    (entity_kept (read n) (kind_at (suc n) (head_of ls).fields d) (head_of ls) (head_of ms) (after_head ls) (after_head ms) (read_kept n) (same_encoding (fields_from false ls) (fields_from false ms) heads.0) heads.1)
