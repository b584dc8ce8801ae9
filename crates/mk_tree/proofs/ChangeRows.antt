-- Changes of roots, by computing.
use Rattle.std.proofs.Common.{◌≡◌, ◌++◌, ℕ, zero, suc, true, Option, None, List, [], ◌∷◌, ◌≤◌, ◌+◌, refl, ap, sym, ◌∙◌, subst, arith, codes}
use Rattle.mk_line.specs.Lines.{TextLine, text_line, cut, text_of}
use Rattle.mk_line.specs.declared.cutting.Ending.TheVariants.{Missing}
use Rattle.std.proofs.lemmas.Slice.Eq.{bytes_eq-Decides}
use Rattle.std.specs.Str.{bytes_eq}
use Rattle.mk_head.specs.Split.{head_lines}
use Rattle.std.specs.Option.{option_to_list}
use Rattle.mk_tree.specs.Kinds.{kind}
use Rattle.mk_tree.specs.Tree.{Entity, leaf, message, multi, Parts, no_parts, part, print, entity_head, field_lines, with_fields}
use Rattle.mk_tree.specs.Documents.{IsStable, tree, printed}
use Rattle.mk_tree.specs.Spans.{size}
use Rattle.mk_tree.specs.Places.{append_parts, placed, put}
use Rattle.mk_tree.specs.Sections.{preamble_lines}
use Rattle.mk_tree.specs.Equal.{entity_eq}
use Rattle.mk_splice.specs.Splices.{spliced}
use Rattle.mk_tree.specs.Splicing.{part_count, ChangesFields, SectionBecomes, HasBody, HasText, HasPart, PartGoes}
use Rattle.mk_tree.proofs.Equals.{entity_same}
use Rattle.mk_tree.proofs.Kept.{text_kept}
use Rattle.mk_tree.proofs.Stability.{read_stable}

pub root_becomes : (old new : List ℕ) (P : Entity → Entity → Type 0) → (tree new).envelope ≡ (tree old).envelope → P (tree old).root (tree new).root → SectionBecomes (1 ∷ []) P (tree old) (tree new)
root_becomes old new P e h = record {
  numbers = [];
  around = [];
  section = (tree old).root;
  new = (tree new).root;
  path_is = refl;
  found = refl;
  becomes = h;
  result = λ i. record { envelope = e i; root = (tree new).root };
  stable = read_stable new;
}

-- what a multipart is made of
abbrev boundary_of : Entity → List ℕ
boundary_of (leaf h ls) = []
boundary_of (message h e) = []
boundary_of (multi h b pre ps t) = b

abbrev parts_of : Entity → Parts
parts_of (leaf h ls) = no_parts
parts_of (message h e) = no_parts
parts_of (multi h b pre ps t) = ps

abbrev tail_of : Entity → Option (TextLine × List TextLine)
tail_of (leaf h ls) = None
tail_of (message h e) = None
tail_of (multi h b pre ps t) = t

abbrev front_parts : ℕ → Parts → Parts
front_parts zero ps = no_parts
front_parts (suc k) no_parts = no_parts
front_parts (suc k) (part l e ps) = part l e (front_parts k ps)

abbrev parts_after : ℕ → Parts → Parts
parts_after zero ps = ps
parts_after (suc k) no_parts = no_parts
parts_after (suc k) (part l e ps) = parts_after k ps

abbrev first_delimiter : Parts → TextLine
first_delimiter no_parts = text_line [] Missing
first_delimiter (part l e ps) = l

abbrev first_entity : Entity → Parts → Entity
first_entity e no_parts = e
first_entity d (part l e ps) = e

bytes_same : (xs ys : List ℕ) → bytes_eq xs ys ≡ true → xs ≡ ys
bytes_same xs ys h = (bytes_eq-Decides xs ys).0 h

-- the text of a document without an envelope
root_text : (new : List ℕ) → (tree new).envelope ≡ None → text_of (print (tree new).root) ≡ new
root_text new e = ap (λ o. text_of (option_to_list o ++ print (tree new).root)) (sym e) ∙ text_kept new

body_becomes : (old new front body text : List ℕ) → (tree old).envelope ≡ None → (tree new).envelope ≡ None → bytes_eq (text_of (head_lines (entity_head (tree old).root))) front ≡ true → new ≡ front ++ body → text ≡ body → SectionBecomes (1 ∷ []) (HasBody text) (tree old) (tree new)
body_becomes old new front body text e f h n t =
    root_becomes old new (HasBody text) (f ∙ sym e) (root_text new f ∙ (n ∙ (λ i. sym (bytes_same (text_of (head_lines (entity_head (tree old).root))) front h) i ++ sym t i)))

another_head : bytes_eq (text_of (head_lines (entity_head (tree (codes "Subject: s\n\nbody\n")).root))) (codes "Subject: s\n\n") ≡ true
unfolding kind
another_head = refl

pub another_body : (text : List ℕ) → text ≡ codes "other\nlines\n" → SectionBecomes (1 ∷ []) (HasBody text) (tree (codes "Subject: s\n\nbody\n")) (tree (codes "Subject: s\n\nother\nlines\n"))
another_body text e = body_becomes (codes "Subject: s\n\nbody\n") (codes "Subject: s\n\nother\nlines\n") (codes "Subject: s\n\n") (codes "other\nlines\n") text refl refl another_head refl e

first_head : bytes_eq (text_of (head_lines (entity_head (tree (codes "Subject: s\n")).root))) (codes "Subject: s\n") ≡ true
unfolding kind
first_head = refl

pub a_first_body : (text : List ℕ) → text ≡ codes "\nbody" → SectionBecomes (1 ∷ []) (HasBody text) (tree (codes "Subject: s\n")) (tree (codes "Subject: s\n\nbody"))
a_first_body text e = body_becomes (codes "Subject: s\n") (codes "Subject: s\n\nbody") (codes "Subject: s\n") (codes "\nbody") text refl refl first_head refl e

pub a_message : (text : List ℕ) → text ≡ codes "Content-Type: message/rfc822\n\nSubject: s\n\nx\n" → SectionBecomes (1 ∷ []) (HasText text) (tree (codes "Subject: s\n\nbody\n")) (tree (codes "Content-Type: message/rfc822\n\nSubject: s\n\nx\n"))
a_message text e =
    let new = codes "Content-Type: message/rfc822\n\nSubject: s\n\nx\n" in
    root_becomes (codes "Subject: s\n\nbody\n") new (HasText text) refl (root_text new refl ∙ sym e)

abbrev pub two : List ℕ
two = codes "Subject: t\nContent-Type: multipart/mixed; boundary=\"b\"\n\npre\n--b\n\none\n--b \t\nContent-Type: text/html\n\ntwo\n--b--\nepi\n"

abbrev pub three : List ℕ
three = codes "Subject: t\nContent-Type: multipart/mixed; boundary=\"b\"\n\npre\n--b\n\none\n--b\nContent-Transfer-Encoding: base64\n\naGk=\n--b \t\nContent-Type: text/html\n\ntwo\n--b--\nepi\n"

abbrev pub last : List ℕ
last = codes "Subject: t\nContent-Type: multipart/mixed; boundary=\"b\"\n\npre\n--b \t\nContent-Type: text/html\n\ntwo\n--b--\nepi\n"

-- a multipart by what it is made of
abbrev made : Entity → Parts → Entity
made e ps = multi (entity_head e) (boundary_of e) (preamble_lines e) ps (tail_of e)

abbrev new_part : Parts
new_part = parts_after 1 (parts_of (tree three).root)

old_made : entity_eq (tree two).root (made (tree two).root (append_parts (front_parts 1 (parts_of (tree two).root)) (parts_after 1 (parts_of (tree two).root)))) ≡ true
unfolding kind
old_made = refl

new_made : entity_eq (tree three).root (made (tree two).root (append_parts (front_parts 1 (parts_of (tree two).root)) (part (first_delimiter new_part) (first_entity (tree two).root new_part) (parts_after 1 (parts_of (tree two).root))))) ≡ true
unfolding kind
new_made = refl

new_text : bytes_eq (text_of (first_delimiter new_part ∷ print (first_entity (tree two).root new_part))) (codes "--b\nContent-Transfer-Encoding: base64\n\naGk=\n") ≡ true
unfolding kind
new_text = refl

new_count : part_count (front_parts 1 (parts_of (tree two).root)) ≡ 1
unfolding kind
new_count = refl

part_text : HasPart 1 (codes "--b\nContent-Transfer-Encoding: base64\n\naGk=\n") (tree two).root (tree three).root
part_text = record {
  head = entity_head (tree two).root;
  boundary = boundary_of (tree two).root;
  preamble = preamble_lines (tree two).root;
  before = front_parts 1 (parts_of (tree two).root);
  delimiter = first_delimiter new_part;
  new = first_entity (tree two).root new_part;
  after = parts_after 1 (parts_of (tree two).root);
  tail = tail_of (tree two).root;
  section_is = entity_same _ _ old_made;
  result_is = entity_same _ _ new_made;
  place_is = new_count;
  text_is = bytes_same _ _ new_text;
}

pub a_part : (text : List ℕ) → text ≡ codes "--b\nContent-Transfer-Encoding: base64\n\naGk=\n" → SectionBecomes (1 ∷ []) (HasPart 1 text) (tree two) (tree three)
a_part text e = root_becomes two three (HasPart 1 text) refl (subst (λ t. HasPart 1 t (tree two).root (tree three).root) (sym e) part_text)

first_made : entity_eq (tree two).root (made (tree two).root (part (first_delimiter (parts_of (tree two).root)) (first_entity (tree two).root (parts_of (tree two).root)) (parts_after 1 (parts_of (tree two).root)))) ≡ true
unfolding kind
first_made = refl

rest_made : entity_eq (tree last).root (made (tree two).root (parts_after 1 (parts_of (tree two).root))) ≡ true
unfolding kind
rest_made = refl

abbrev less_bytes : List ℕ
less_bytes = text_of (first_delimiter (parts_of (tree two).root) ∷ print (first_entity (tree two).root (parts_of (tree two).root)))

less_text : HasPart 0 less_bytes (tree last).root (tree two).root
less_text = record {
  head = entity_head (tree two).root;
  boundary = boundary_of (tree two).root;
  preamble = preamble_lines (tree two).root;
  before = no_parts;
  delimiter = first_delimiter (parts_of (tree two).root);
  new = first_entity (tree two).root (parts_of (tree two).root);
  after = parts_after 1 (parts_of (tree two).root);
  tail = tail_of (tree two).root;
  section_is = entity_same _ _ rest_made;
  result_is = entity_same _ _ first_made;
  place_is = refl;
  text_is = refl;
}

pub one_part_less : PartGoes (1 ∷ 1 ∷ []) (tree two) (tree last)
one_part_less = record { around = 1 ∷ []; before = 0; text = less_bytes; path_is = refl; becomes = root_becomes two last (λ s e. HasPart 0 less_bytes e s) refl less_text }

field_root : (tree (codes "Subject: s\nA: b\n\nbody\n")).root ≡ with_fields (cut (codes "Subject: s\nA: b\n")) (tree (codes "Subject: s\n\nbody\n")).root
unfolding kind
field_root = refl

field_ends : 11 + 0 ≤ (placed (tree (codes "Subject: s\n\nbody\n")).envelope [] (tree (codes "Subject: s\n\nbody\n")).root).start + size (field_lines (tree (codes "Subject: s\n\nbody\n")).root)
unfolding kind
field_ends = omega arith

pub a_field : (text : List ℕ) → text ≡ codes "A: b\n" → ChangesFields (1 ∷ []) 11 0 text (tree (codes "Subject: s\n\nbody\n"))
a_field text e =
    let old = codes "Subject: s\n\nbody\n" in
    let new = codes "Subject: s\nA: b\n\nbody\n" in
    let result : put (tree old).envelope [] (with_fields (cut (codes "Subject: s\nA: b\n")) (tree old).root) ≡ tree new = λ i. record { envelope = (tree old).envelope; root = sym field_root i } in
    record {
      numbers = [];
      around = [];
      section = (tree old).root;
      fields = cut (codes "Subject: s\nA: b\n");
      path_is = refl;
      found = refl;
      begins = omega arith;
      ends = field_ends;
      printed_so = ap (λ t. spliced 11 0 t (printed (tree old))) e ∙ (ap (spliced 11 0 (codes "A: b\n")) (text_kept old) ∙ (sym (text_kept new) ∙ ap printed (sym result)));
      stable = subst IsStable (sym result) (read_stable new);
    }

pub field_text : (text : List ℕ) → text ≡ codes "A: b\n" → printed (tree (codes "Subject: s\nA: b\n\nbody\n")) ≡ spliced 11 0 text (printed (tree (codes "Subject: s\n\nbody\n")))
field_text text e = text_kept (codes "Subject: s\nA: b\n\nbody\n") ∙ (ap (λ t. spliced 11 0 t (codes "Subject: s\n\nbody\n")) (sym e) ∙ ap (spliced 11 0 text) (sym (text_kept (codes "Subject: s\n\nbody\n"))))
