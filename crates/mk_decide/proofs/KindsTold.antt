-- What the tests of kinds tell: a section stays of its kind under new fields, and its parts do.
use Rattle.std.proofs.Common.{◌≡◌, ◌↔◌, ◌+◌, ◌||◌, Option, if◌then◌else◌, ℕ, suc, Bool, true, false, List, [], ◌∷◌, nat_lt, zero, refl, ap, sym, ◌∙◌, subst}
use Rattle.std.proofs.lemmas.Slice.Eq.{bytes_eq-Decides}
use Rattle.mk_line.specs.Lines.{TextLine, text_of}
use Rattle.mk_tree.specs.Kinds.{Kind, Leaf, Message, Multi, kind, kind_at, is_digest}
use Rattle.mk_tree.specs.Tree.{Entity, leaf, message, multi, Parts, no_parts, part, entity_head, field_lines, print}
use Rattle.mk_tree.specs.Spans.{size, digest_below}
use Rattle.mk_tree.specs.Reading.{IsWellRead, AreWellRead}
use Rattle.mk_tree.specs.Sections.{Placed, parts_placed, has_part}
use Rattle.mk_tree.proofs.TreeNames.{has_tail}
use Rattle.mk_tree.specs.Documents.{levels}
use Rattle.mk_tree.specs.Places.{below}
use Rattle.mk_head.specs.Split.{Head, head_lines}
use Rattle.mk_decide.specs.Local.{IsAlike, AreKept, parts_of}
use Rattle.mk_decide.specs.KindsKept.{fields_in, is_alike, keeps_default, all_keep, parts_keep, kept_below, keeps_kinds}
use Rattle.mk_decide.proofs.NewFields.{kind_at_other}

-- the kind of an entity, whose parts have a default
abbrev pub entity_kind : Bool → Entity → Kind
entity_kind g (leaf h ls) = Leaf
entity_kind g (message h e) = Message
entity_kind g (multi h b pre ps t) = Multi b g

abbrev kind_boundary : List ℕ → Kind → List ℕ
kind_boundary b Leaf = b
kind_boundary b Message = b
kind_boundary b (Multi c digest) = c

pub well_kind : (n : ℕ) (d : Bool) (e : Entity) → IsWellRead n d e → kind_at n (field_lines e) d ≡ entity_kind (digest_below d (entity_head e)) e
well_kind n d (leaf h ls) w = w.1
well_kind n d (message h e) w = w.1
well_kind n d (multi h b pre ps t) w = w.1

alike_self : (g : Bool) (e : Entity) → IsAlike (entity_kind g e) (entity_kind g e)
alike_self g (leaf h ls) = refl
alike_self g (message h e) = refl
alike_self g (multi h b pre ps t) = refl

pub alike_told : (g : Bool) (k : Kind) (e : Entity) → ((is_alike k e ≡ true) ↔ IsAlike (entity_kind g e) k)
alike_told g Leaf (leaf h ls) = ((λ p. refl), (λ p. refl))
alike_told g Leaf (message h e) = ((λ p. cc), (λ p. cc))
alike_told g Leaf (multi h b pre ps t) = ((λ p. cc), (λ p. cc))
alike_told g Message (leaf h ls) = ((λ p. cc), (λ p. cc))
alike_told g Message (message h e) = ((λ p. refl), (λ p. refl))
alike_told g Message (multi h b pre ps t) = ((λ p. cc), (λ p. cc))
alike_told g (Multi c digest) (leaf h ls) = ((λ p. cc), (λ p. cc))
alike_told g (Multi c digest) (message h e) = ((λ p. cc), (λ p. cc))
alike_told g (Multi c digest) (multi h b pre ps t) = (
  (λ p. ap (λ x. Multi x digest) (sym ((bytes_eq-Decides b c).0 p))),
  (λ p. (bytes_eq-Decides b c).1 (sym (ap (kind_boundary b) p))),
)

-- the fields of parts are those at the start of their texts
abbrev pub FieldsRead : Parts → Type 0
FieldsRead no_parts = Unit {0}
FieldsRead (part l e ps) = (fields_in (text_of (field_lines e)) ≡ field_lines e) × FieldsRead ps

-- a part under another default
other_kind : (m : ℕ) (old new : Bool) (e : Entity) → IsWellRead (suc m) old e → IsAlike (entity_kind (digest_below old (entity_head e)) e) (kind (field_lines e) new) → kind_at (suc m) (field_lines e) old ≡ kind_at (suc m) (field_lines e) new
other_kind m old new (leaf h ls) w a = w.1 ∙ sym a
other_kind m old new (message h e) w a = w.1 ∙ sym a
other_kind m old new (multi h b pre ps t) w a = w.1 ∙ sym (kind_at_other (suc m) h.fields old new b (digest_below old h) w.1)

kind_told : (m : ℕ) (old new : Bool) (e : Entity) → IsWellRead (suc m) old e → fields_in (text_of (field_lines e)) ≡ field_lines e
    → ((is_alike (kind (fields_in (text_of (field_lines e))) new) e ≡ true) ↔ (kind_at (suc m) (field_lines e) old ≡ kind_at (suc m) (field_lines e) new))
kind_told m old new e w r =
    let g = digest_below old (entity_head e) in
    let told = alike_told g (kind (fields_in (text_of (field_lines e))) new) e in (
      (λ h. other_kind m old new e w (subst (λ fields. IsAlike (entity_kind g e) (kind fields new)) r (told.0 h))),
      (λ h. told.1 (subst (λ fields. IsAlike (entity_kind g e) (kind fields new)) (sym r) (subst (IsAlike (entity_kind g e)) (sym (well_kind (suc m) old e w) ∙ h) (alike_self g e)))),
    )

pub default_told : (m start : ℕ) (followed old new : Bool) (e : Entity) → IsWellRead (suc m) old e → fields_in (text_of (field_lines e)) ≡ field_lines e
    → ((keeps_default new (record { start = start; followed = followed; digest = old; entity = e }) ≡ true) ↔ (kind_at (suc m) (field_lines e) old ≡ kind_at (suc m) (field_lines e) new))
default_told m start followed true true e w r = ((λ h. refl), (λ h. refl))
default_told m start followed false false e w r = ((λ h. refl), (λ h. refl))
default_told m start followed true false e w r = kind_told m true false e w r
default_told m start followed false true e w r = kind_told m false true e w r

if_both : (a b : Bool) (A B : Type 0) → ((a ≡ true) ↔ A) → ((b ≡ true) ↔ B) → (((if a then b else false) ≡ true) ↔ (A × B))
if_both true b A B f g = ((λ h. (f.0 refl, g.0 h)), (λ h. g.1 h.1))
if_both false b A B f g = ((λ h. cc), (λ h. f.1 h.0))

-- the parts of a multipart that isn't at the last level but one
pub parts_told : (m place : ℕ) (followed old new : Bool) (b : List ℕ) (ps : Parts) → AreWellRead (suc m) old b ps → FieldsRead ps → ((all_keep new (parts_placed place followed old ps) ≡ true) ↔ AreKept (suc m) old new ps)
parts_told m place followed old new b no_parts w r = ((λ h. tt), (λ h. refl))
parts_told m place followed old new b (part l e ps) w r =
    if_both _ _ (kind_at (suc m) (field_lines e) old ≡ kind_at (suc m) (field_lines e) new) (AreKept (suc m) old new ps) (default_told m (place + size (l ∷ [])) (has_part ps || followed) old new e w.2 r.0) (parts_told m (place + size (l ∷ []) + size (print e)) followed old new b ps w.3 r.1)

-- one default is kept
pub kept_same : (n : ℕ) (d : Bool) (ps : Parts) → AreKept n d d ps
kept_same n d no_parts = tt
kept_same n d (part l e ps) = (refl, kept_same n d ps)

kept_last : (x y : Bool) (ps : Parts) → AreKept zero x y ps
kept_last x y no_parts = tt
kept_last x y (part l e ps) = (refl, kept_last x y ps)

-- a level, by how many may stand below it
abbrev pub IsLevel : ℕ → ℕ → Type 0
IsLevel zero level = nat_lt levels level ≡ true
IsLevel (suc zero) level = (nat_lt levels level ≡ false) × (nat_lt levels (level + 1) ≡ true)
IsLevel (suc (suc n)) level = (nat_lt levels level ≡ false) × (nat_lt levels (level + 1) ≡ false)

pub if_then : (a b : Bool) (A B : Type 0) → ((a ≡ true) ↔ A) → (A → ((b ≡ true) ↔ B)) → (((if a then b else false) ≡ true) ↔ (A × B))
if_then true b A B f g = ((λ h. (f.0 refl, (g (f.0 refl)).0 h)), (λ h. (g h.0).1 h.1))
if_then false b A B f g = ((λ h. cc), (λ h. f.1 h.0))

-- the parts, where the section stays of its kind
multi_told : (n level start : ℕ) (followed d new : Bool) (h : Head) (b : List ℕ) (pre : List TextLine) (ps : Parts) (t : Option (TextLine × List TextLine)) → IsLevel (suc n) level → AreWellRead n (digest_below d h) b ps → FieldsRead ps
    → ((parts_keep (level + 1) new (record { start = start; followed = followed; digest = d; entity = multi h b pre ps t }) ≡ true) ↔ AreKept n (digest_below d h) new ps)
multi_told zero level start followed d new h b pre ps t v w r = ((λ x. kept_last (digest_below d h) new ps), (λ x. rw v.1 refl))
multi_told (suc n) level start followed d new h b pre ps t v w r =
    rw v.1 (parts_told n (start + size (head_lines h) + size pre) (has_tail t || followed) (digest_below d h) new b ps w r)

below_told : (n level start : ℕ) (followed d : Bool) (k : Kind) (e : Entity) → IsLevel (suc n) level → IsWellRead (suc n) d e → FieldsRead (parts_of e) → IsAlike (kind_at (suc n) (field_lines e) d) k
    → ((kept_below (level + 1) k (record { start = start; followed = followed; digest = d; entity = e }) ≡ true) ↔ AreKept n (is_digest (kind_at (suc n) (field_lines e) d)) (is_digest k) (parts_of e))
below_told n level start followed d k (leaf h ls) v w r a =
    let same : k ≡ Leaf = subst (λ x. IsAlike x k) w.1 a in
    ((λ x. tt), (λ x. ap (λ y. kept_below (level + 1) y (record { start = start; followed = followed; digest = d; entity = leaf h ls })) same))
below_told n level start followed d k (message h e) v w r a =
    let same : k ≡ Message = subst (λ x. IsAlike x k) w.1 a in
    ((λ x. tt), (λ x. ap (λ y. kept_below (level + 1) y (record { start = start; followed = followed; digest = d; entity = message h e })) same))
below_told n level start followed d k (multi h b pre ps t) v w r a =
    let same : k ≡ Multi b (is_digest k) = subst (λ x. IsAlike x k) w.1 a in
    let p : Placed = record { start = start; followed = followed; digest = d; entity = multi h b pre ps t } in
    let keep : kept_below (level + 1) k p ≡ parts_keep (level + 1) (is_digest k) p = ap (λ y. kept_below (level + 1) y p) same in
    let told = multi_told n level start followed d (is_digest k) h b pre ps t v w.2 r in
    let old : digest_below d h ≡ is_digest (kind_at (suc n) h.fields d) = sym (ap is_digest w.1) in (
      (λ x. subst (λ g. AreKept n g (is_digest k) ps) old (told.0 (sym keep ∙ x))),
      (λ x. keep ∙ told.1 (subst (λ g. AreKept n g (is_digest k) ps) (sym old) x)),
    )

own_told : (n : ℕ) (d : Bool) (k : Kind) (e : Entity) → IsWellRead (suc n) d e → ((is_alike k e ≡ true) ↔ IsAlike (kind_at (suc n) (field_lines e) d) k)
own_told n d k e w =
    let g = digest_below d (entity_head e) in
    let told = alike_told g k e in
    ((λ h. subst (λ x. IsAlike x k) (sym (well_kind (suc n) d e w)) (told.0 h)), (λ h. told.1 (subst (λ x. IsAlike x k) (well_kind (suc n) d e w) h)))

-- the test of kinds tells the first two of the local conditions
pub kinds_told : (n level start : ℕ) (followed d : Bool) (head : List ℕ) (fields : List TextLine) (e : Entity) → IsLevel n level → IsWellRead n d e → FieldsRead (parts_of e) → fields_in head ≡ fields
    → ((keeps_kinds level head (record { start = start; followed = followed; digest = d; entity = e }) ≡ true)
    ↔ (IsAlike (kind_at n (field_lines e) d) (kind_at n fields d) × AreKept (below n) (is_digest (kind_at n (field_lines e) d)) (is_digest (kind_at n fields d)) (parts_of e)))
kinds_told zero level start followed d head fields e v w r f = ((λ x. (refl, kept_last false false (parts_of e))), (λ x. rw v refl))
kinds_told (suc zero) level start followed d head fields e v w r f =
    rw (v.0, f) (if_then _ _ (IsAlike (kind (field_lines e) d) (kind fields d)) _ (own_told zero d (kind fields d) e w) (λ a. below_told zero level start followed d (kind fields d) e v w r a))
kinds_told (suc (suc n)) level start followed d head fields e v w r f =
    rw (v.0, f) (if_then _ _ (IsAlike (kind (field_lines e) d) (kind fields d)) _ (own_told (suc n) d (kind fields d) e w) (λ a. below_told (suc n) level start followed d (kind fields d) e v w r a))
