-- A section under new fields: it is read back exactly where it stays of its kind, its direct parts do, and the fields end
-- where they ended.
use Rattle.std.proofs.Common.{take, ◌≡◌, ◌++◌, if◌then◌else◌, ℕ, zero, suc, Bool, true, false, Option, None, Some, List, ap, sym, ◌∙◌, subst, codes}
use Rattle.mk_line.specs.Lines.{TextLine, is_nil}
use Rattle.mk_head.specs.declared.encodings.Encoding.{Encoding}
use Rattle.mk_head.specs.Splits.{IsRun, Follows}
use Rattle.std.specs.Prelude.{not}
use Rattle.mk_head.specs.Types.{field_value, type_by, header_encoding}
use Rattle.mk_tree.specs.Cutting.{tail_lines}
use Rattle.mk_tree.specs.Kinds.{Leaf, Message, Multi, kind_of, holds_message, kind, kind_at, is_digest}
use Rattle.mk_tree.specs.Tree.{Entity, leaf, message, multi, Parts, no_parts, part, print, print_parts, field_lines, with_fields}
use Rattle.mk_tree.specs.Spans.{digest_below}
use Rattle.mk_tree.specs.Places.{below}
use Rattle.mk_tree.specs.Reading.{IsWellRead, AreWellRead}
use Rattle.mk_tree.proofs.Plugs.{ends_of, of_ends, stops_first, first_stops}
use Rattle.mk_decide.specs.Local.{IsAlike, AreKept, AreFieldsFor}
use Rattle.mk_decide.proofs.PlanNames.{HeaderEnds}

-- a header that ends before a body
pub ends_follow : (inside : Bool) (fields : List TextLine) (o : Option TextLine) (old new : List TextLine) → Follows inside o old → HeaderEnds fields o new → Follows (not (is_nil fields)) o new
ends_follow inside fields (Some l) old new f e = f
ends_follow inside fields None old new f e = first_stops (not (is_nil fields)) new (of_ends fields (take 1 new) e).next

pub follow_ends : (fields : List TextLine) (o : Option TextLine) (body : List TextLine) → IsRun false fields → Follows (not (is_nil fields)) o body → HeaderEnds fields o body
follow_ends fields (Some l) body r f = tt
follow_ends fields None body r f = ends_of fields (take 1 body) (record { run = r; next = stops_first (not (is_nil fields)) body f })

leaf_multi : {A : Type 0} (b : List ℕ) (g : Bool) → Leaf ≡ Multi b g → A
leaf_multi b g e = cc

message_multi : {A : Type 0} (b : List ℕ) (g : Bool) → Message ≡ Multi b g → A
message_multi b g e = cc

-- the default of the parts, by the kind
pub digest_kind : (n : ℕ) (fields : List TextLine) (d : Bool) (b : List ℕ) (g : Bool) → kind_at n fields d ≡ Multi b g → is_digest (kind fields d) ≡ g
digest_kind zero fields d b g e = leaf_multi b g e
digest_kind (suc n) fields d b g e = ap is_digest e

held_multi : {A : Type 0} (t : Bool) (b : List ℕ) (g : Bool) → (if t then Message else Leaf) ≡ Multi b g → A
held_multi true b g e = message_multi b g e
held_multi false b g e = leaf_multi b g e

-- a multipart says so itself, under any default
typed_other : (o : Option (List ℕ)) (d f : Bool) (e : Encoding) (b : List ℕ) (g : Bool) → kind_of (type_by d o) e ≡ Multi b g → kind_of (type_by f o) e ≡ Multi b g
typed_other (Some value) d f e b g h = h
typed_other None true f e b g h = held_multi (holds_message (type_by true None) e) b g h
typed_other None false f e b g h = held_multi (holds_message (type_by false None) e) b g h

kind_other : (fields : List TextLine) (d f : Bool) (b : List ℕ) (g : Bool) → kind fields d ≡ Multi b g → kind fields f ≡ Multi b g
unfolding kind
kind_other fields d f b g h = typed_other (field_value (codes "Content-Type") fields) d f (header_encoding fields) b g h

pub kind_at_other : (n : ℕ) (fields : List TextLine) (d f : Bool) (b : List ℕ) (g : Bool) → kind_at n fields d ≡ Multi b g → kind_at n fields f ≡ Multi b g
kind_at_other zero fields d f b g h = h
kind_at_other (suc n) fields d f b g h = kind_other fields d f b g h

-- a part under another default
part_other : (n : ℕ) (d f : Bool) (e : Entity) → kind_at n (field_lines e) d ≡ kind_at n (field_lines e) f → IsWellRead n d e → IsWellRead n f e
part_other n d f (leaf h ls) k w = (w.0, sym k ∙ w.1)
part_other n d f (message h e) k w = (w.0, sym k ∙ w.1, w.2)
part_other n d f (multi h b pre ps t) k w =
    let q : digest_below f h ≡ digest_below d h = digest_kind n h.fields f b (digest_below d h) (sym k ∙ w.1) in
    (w.0, sym k ∙ (w.1 ∙ ap (λ g. Multi b g) (sym q)), subst (λ g. AreWellRead (below n) g b ps) (sym q) w.2, w.3, w.4)

parts_other : (n : ℕ) (d f : Bool) (b : List ℕ) (ps : Parts) → AreKept n d f ps → AreWellRead n d b ps → AreWellRead n f b ps
parts_other n d f b no_parts k w = tt
parts_other n d f b (part l e ps) k w = (w.0, w.1, part_other n d f e k.0 w.2, parts_other n d f b ps k.1 w.3)

kind_kept : (n : ℕ) (d f : Bool) (e : Entity) → IsWellRead n d e → IsWellRead n f e → kind_at n (field_lines e) d ≡ kind_at n (field_lines e) f
kind_kept n d f (leaf h ls) w v = w.1 ∙ sym v.1
kind_kept n d f (message h e) w v = w.1 ∙ sym v.1
kind_kept n d f (multi h b pre ps t) w v = w.1 ∙ sym (kind_at_other n h.fields d f b (digest_below d h) w.1)

parts_kept : (n : ℕ) (d f : Bool) (b : List ℕ) (ps : Parts) → AreWellRead n d b ps → AreWellRead n f b ps → AreKept n d f ps
parts_kept n d f b no_parts w v = tt
parts_kept n d f b (part l e ps) w v = (kind_kept n d f e w.2 v.2, parts_kept n d f b ps w.3 v.3)

pub fields_read : (n : ℕ) (d : Bool) (fields : List TextLine) (s : Entity) → IsRun false fields → IsWellRead n d s → AreFieldsFor n d fields s → IsWellRead n d (with_fields fields s)
fields_read n d fields (leaf h ls) r w a =
    (record { run = r; next = ends_follow (not (is_nil h.fields)) fields h.separator ls ls w.0.next a.header }, subst (λ k. IsAlike k (kind_at n fields d)) w.1 a.kind)
fields_read n d fields (message h e) r w a =
    (record { run = r; next = ends_follow (not (is_nil h.fields)) fields h.separator (print e) (print e) w.0.next a.header }, subst (λ k. IsAlike k (kind_at n fields d)) w.1 a.kind, w.2)
fields_read n d fields (multi h b pre ps t) r w a =
    let body = pre ++ (print_parts ps ++ tail_lines t) in
    let k : kind_at n fields d ≡ Multi b (is_digest (kind_at n fields d)) = subst (λ k. IsAlike k (kind_at n fields d)) w.1 a.kind in
    let new : is_digest (kind fields d) ≡ is_digest (kind_at n fields d) = digest_kind n fields d b (is_digest (kind_at n fields d)) k in
    let kept : AreKept (below n) (digest_below d h) (is_digest (kind_at n fields d)) ps = subst (λ g. AreKept (below n) g (is_digest (kind_at n fields d)) ps) (ap is_digest w.1) a.parts in (
      record { run = r; next = ends_follow (not (is_nil h.fields)) fields h.separator body body w.0.next a.header },
      k ∙ ap (λ g. Multi b g) (sym new),
      subst (λ g. AreWellRead (below n) g b ps) (sym new) (parts_other (below n) (digest_below d h) (is_digest (kind_at n fields d)) b ps kept w.2),
      w.3,
      w.4,
    )

pub read_fields : (n : ℕ) (d : Bool) (fields : List TextLine) (s : Entity) → IsWellRead n d s → IsWellRead n d (with_fields fields s) → AreFieldsFor n d fields s
read_fields n d fields (leaf h ls) w v = record {
  kind = subst (λ k. IsAlike k (kind_at n fields d)) (sym w.1) v.1;
  parts = tt;
  header = follow_ends fields h.separator ls v.0.run v.0.next;
}
read_fields n d fields (message h e) w v = record {
  kind = subst (λ k. IsAlike k (kind_at n fields d)) (sym w.1) v.1;
  parts = tt;
  header = follow_ends fields h.separator (print e) v.0.run v.0.next;
}
read_fields n d fields (multi h b pre ps t) w v =
    let g = is_digest (kind fields d) in
    let new : is_digest (kind_at n fields d) ≡ is_digest (kind fields d) = ap is_digest v.1 in
    record {
      kind = subst (λ k. IsAlike k (kind_at n fields d)) (sym w.1) (v.1 ∙ ap (λ g. Multi b g) (sym new));
      parts = subst (λ g. AreKept (below n) g (is_digest (kind_at n fields d)) ps) (sym (ap is_digest w.1)) (subst (λ g. AreKept (below n) (digest_below d h) g ps) (sym new) (parts_kept (below n) (digest_below d h) (is_digest (kind fields d)) b ps w.2 v.2));
      header = follow_ends fields h.separator (pre ++ (print_parts ps ++ tail_lines t)) v.0.run v.0.next;
    }
