-- The tests of equality tell.
use Rattle.std.proofs.Common.{◌≡◌, ◌↔◌, ◌&&◌, Bool, true, false, Option, None, Some, List, [], ◌∷◌, refl, ap, ◌∙◌}
use Rattle.std.proofs.lemmas.Slice.Eq.{bytes_eq-Decides}
use Rattle.std.specs.Str.{bytes_eq}
use Rattle.std.specs.Option.{option_to_list}
use Rattle.std.specs.Cmp.Lexicographic.{pointwise}
use Rattle.mk_tree.specs.Cutting.{tail_lines}
use Rattle.mk_line.specs.declared.cutting.Ending.{Ending}
use Rattle.mk_line.specs.declared.cutting.Ending.TheVariants.{Crlf, Lf, Missing}
use Rattle.mk_line.specs.Lines.{TextLine, ending_bytes}
use Rattle.mk_head.specs.Split.{Head}
use Rattle.mk_tree.specs.Tree.{Entity, leaf, message, multi, Parts, no_parts, part}
use Rattle.mk_tree.specs.Documents.{Document, IsStable, tree, printed}
use Rattle.mk_tree.specs.Equal.{line_eq, head_eq, entity_eq, parts_eq, is_stable}

both : (a b : Bool) → (a && b) ≡ true → (a ≡ true) × (b ≡ true)
both true b h = (refl, h)
both false b h = cc

and_true : (a b : Bool) → a ≡ true → b ≡ true → (a && b) ≡ true
and_true a b h k = rw (h, k) refl

ending_same : (e f : Ending) → bytes_eq (ending_bytes e) (ending_bytes f) ≡ true → e ≡ f
ending_same Crlf Crlf h = refl
ending_same Crlf Lf h = cc
ending_same Crlf Missing h = cc
ending_same Lf Crlf h = cc
ending_same Lf Lf h = refl
ending_same Lf Missing h = cc
ending_same Missing Crlf h = cc
ending_same Missing Lf h = cc
ending_same Missing Missing h = refl

line_same : (l m : TextLine) → line_eq l m ≡ true → l ≡ m
line_same l m h =
    let p = both (bytes_eq l.content m.content) (bytes_eq (ending_bytes l.ending) (ending_bytes m.ending)) h in
    λ i. record { content = (bytes_eq-Decides l.content m.content).0 p.0 i; ending = ending_same l.ending m.ending p.1 i }

line_self : (l : TextLine) → line_eq l l ≡ true
line_self l = and_true (bytes_eq l.content l.content) (bytes_eq (ending_bytes l.ending) (ending_bytes l.ending)) ((bytes_eq-Decides l.content l.content).1 refl) ((bytes_eq-Decides (ending_bytes l.ending) (ending_bytes l.ending)).1 refl)

abbrev lines_eq : List TextLine → List TextLine → Bool
lines_eq ls ms = pointwise line_eq ls ms

lines_same : (ls ms : List TextLine) → lines_eq ls ms ≡ true → ls ≡ ms
lines_same [] [] h = refl
lines_same [] (m ∷ ms) h = cc
lines_same (l ∷ ls) [] h = cc
lines_same (l ∷ ls) (m ∷ ms) h =
    let p = both (line_eq l m) (lines_eq ls ms) h in
    λ i. line_same l m p.0 i ∷ lines_same ls ms p.1 i

lines_self : (ls : List TextLine) → lines_eq ls ls ≡ true
lines_self [] = refl
lines_self (l ∷ ls) = and_true (line_eq l l) (lines_eq ls ls) (line_self l) (lines_self ls)

abbrev option_eq : Option TextLine → Option TextLine → Bool
option_eq o p = lines_eq (option_to_list o) (option_to_list p)

option_same : (o p : Option TextLine) → option_eq o p ≡ true → o ≡ p
option_same None None h = refl
option_same None (Some m) h = cc
option_same (Some l) None h = cc
option_same (Some l) (Some m) h = ap (λ x. Some x) (line_same l m (both (line_eq l m) true h).0)

option_self : (o : Option TextLine) → option_eq o o ≡ true
option_self o = lines_self (option_to_list o)

head_same : (h k : Head) → head_eq h k ≡ true → h ≡ k
head_same h k e =
    let p = both (lines_eq h.fields k.fields) (option_eq h.separator k.separator) e in
    λ i. record { fields = lines_same h.fields k.fields p.0 i; separator = option_same h.separator k.separator p.1 i }

head_self : (h : Head) → head_eq h h ≡ true
head_self h = and_true (lines_eq h.fields h.fields) (option_eq h.separator h.separator) (lines_self h.fields) (option_self h.separator)

abbrev tail_eq : Option (TextLine × List TextLine) → Option (TextLine × List TextLine) → Bool
tail_eq t u = lines_eq (tail_lines t) (tail_lines u)

tail_same : (t u : Option (TextLine × List TextLine)) → tail_eq t u ≡ true → t ≡ u
tail_same None None h = refl
tail_same None (Some q) h = cc
tail_same (Some p) None h = cc
tail_same (Some p) (Some q) h =
    let w = both (line_eq p.0 q.0) (lines_eq p.1 q.1) h in
    λ i. Some (line_same p.0 q.0 w.0 i, lines_same p.1 q.1 w.1 i)

tail_self : (t : Option (TextLine × List TextLine)) → tail_eq t t ≡ true
tail_self t = lines_self (tail_lines t)

mutual
  pub entity_same : (d e : Entity) → entity_eq d e ≡ true → d ≡ e
  entity_same (leaf h ls) (leaf k ms) t =
      let p = both (head_eq h k) (lines_eq ls ms) t in
      λ i. leaf (head_same h k p.0 i) (lines_same ls ms p.1 i)
  entity_same (leaf h ls) (message k f) t = cc
  entity_same (leaf h ls) (multi k c qre qs u) t = cc
  entity_same (message h e) (leaf k ms) t = cc
  entity_same (message h e) (message k f) t =
      let p = both (head_eq h k) (entity_eq e f) t in
      λ i. message (head_same h k p.0 i) (entity_same e f p.1 i)
  entity_same (message h e) (multi k c qre qs u) t = cc
  entity_same (multi h b pre ps t) (leaf k ms) e = cc
  entity_same (multi h b pre ps t) (message k f) e = cc
  entity_same (multi h b pre ps t) (multi k c qre qs u) e =
      let p = both (head_eq h k) (bytes_eq b c && (lines_eq pre qre && (parts_eq ps qs && tail_eq t u))) e in
      let q = both (bytes_eq b c) (lines_eq pre qre && (parts_eq ps qs && tail_eq t u)) p.1 in
      let r = both (lines_eq pre qre) (parts_eq ps qs && tail_eq t u) q.1 in
      let s = both (parts_eq ps qs) (tail_eq t u) r.1 in
      λ i. multi (head_same h k p.0 i) ((bytes_eq-Decides b c).0 q.0 i) (lines_same pre qre r.0 i) (parts_same ps qs s.0 i) (tail_same t u s.1 i)

  parts_same : (ps qs : Parts) → parts_eq ps qs ≡ true → ps ≡ qs
  parts_same no_parts no_parts t = refl
  parts_same no_parts (part m f qs) t = cc
  parts_same (part l e ps) no_parts t = cc
  parts_same (part l e ps) (part m f qs) t =
      let p = both (line_eq l m) (entity_eq e f && parts_eq ps qs) t in
      let q = both (entity_eq e f) (parts_eq ps qs) p.1 in
      λ i. part (line_same l m p.0 i) (entity_same e f q.0 i) (parts_same ps qs q.1 i)

mutual
  entity_self : (e : Entity) → entity_eq e e ≡ true
  entity_self (leaf h ls) = and_true (head_eq h h) (lines_eq ls ls) (head_self h) (lines_self ls)
  entity_self (message h e) = and_true (head_eq h h) (entity_eq e e) (head_self h) (entity_self e)
  entity_self (multi h b pre ps t) =
      and_true (head_eq h h) (bytes_eq b b && (lines_eq pre pre && (parts_eq ps ps && tail_eq t t))) (head_self h)
      (and_true (bytes_eq b b) (lines_eq pre pre && (parts_eq ps ps && tail_eq t t)) ((bytes_eq-Decides b b).1 refl)
      (and_true (lines_eq pre pre) (parts_eq ps ps && tail_eq t t) (lines_self pre)
      (and_true (parts_eq ps ps) (tail_eq t t) (parts_self ps) (tail_self t))))

  parts_self : (ps : Parts) → parts_eq ps ps ≡ true
  parts_self no_parts = refl
  parts_self (part l e ps) = and_true (line_eq l l) (entity_eq e e && parts_eq ps ps) (line_self l) (and_true (entity_eq e e) (parts_eq ps ps) (entity_self e) (parts_self ps))

-- two documents are one
abbrev document_eq : Document → Document → Bool
document_eq s t = option_eq s.envelope t.envelope && entity_eq s.root t.root

document_same : (s t : Document) → document_eq s t ≡ true → s ≡ t
document_same s t h =
    let p = both (option_eq s.envelope t.envelope) (entity_eq s.root t.root) h in
    λ i. record { envelope = option_same s.envelope t.envelope p.0 i; root = entity_same s.root t.root p.1 i }

document_self : (t : Document) → document_eq t t ≡ true
document_self t = and_true (option_eq t.envelope t.envelope) (entity_eq t.root t.root) (option_self t.envelope) (entity_self t.root)

pub test_stable : (t : Document) → is_stable t ≡ true → IsStable t
unfolding is_stable
test_stable t h = document_same (tree (printed t)) t h

pub stable_test : (t : Document) → IsStable t → is_stable t ≡ true
unfolding is_stable
stable_test t h = ap (λ s. document_eq s t) h ∙ document_self t

pub stable_told : (t : Document) → (is_stable t ≡ true) ↔ IsStable t
stable_told t = (test_stable t, stable_test t)
