-- What stays of structured values.
use Rattle.std.proofs.Common.{◌≡◌, ◌&&◌, ◌++◌, if◌then◌else◌, ℕ, Bool, true, false, Option, None, Some, List, [], ◌∷◌, refl, ap, sym, ◌∙◌, inl, inr, append_assoc, append-nil, subst}
use Rattle.std.specs.Prelude.{unwrap_or}
use Rattle.std.specs.List.{flat_map}
use Rattle.std.proofs.lemmas.Bool.{cases_Bool}
use Rattle.std.proofs.lemmas.Grind.{flat_map-append}
use Rattle.mk_line.specs.declared.cutting.Ending.{Ending}
use Rattle.mk_line.specs.Ascii.{colon}
use Rattle.mk_head.specs.Values.{Scan, Plain, Comment, is_plain, scan}
use Rattle.mk_wording.specs.Addresses.{angle, worded_address}
use Rattle.mk_wording.specs.Lists.{ends_of, worded_entries, worded_entry, worded_pieces, worded_list, worded_parameters}
use Rattle.mk_wording.specs.Parameters.{parameter_first, worded_parameter}
use Rattle.mk_wording.specs.Scanned.{ListEntry, before_mark, entries, from_mark, is_one_of, push_entry}
use Rattle.mk_wording.specs.Stretches.{Stretch, are_ascii, begin_comment, comment_of, is_in_comment, parenthesis, part_before, push_inside, push_outside, stretches, worded_comment, worded_name, worded_outside, worded_stretches, worded_text}
use Rattle.mk_wording.specs.WordingLaws.{Inside, IsWordedAs, Name, Other, Parameter, bytes_of, written_as}
use Rattle.mk_wording.specs.declared.lists.ListKind.{ListKind}
use Rattle.mk_wording.specs.declared.lists.ListKind.TheVariants.{Addresses, Parameters}
use Rattle.mk_wording.specs.declared.stretches.Outside.{Outside}
use Rattle.mk_wording.specs.declared.stretches.Outside.TheVariants.{Names, Ascii}
use Rattle.mk_wording.proofs.StretchLemmas.{inside_step, stays_inside}

-- ---- values of one part, and values one after another

nothing : (eol : Ending) → IsWordedAs eol [] []
nothing eol = record { parts = []; was = refl; is = refl }

join : (eol : Ending) (a b x y : List ℕ) → IsWordedAs eol a x → IsWordedAs eol b y → IsWordedAs eol (a ++ b) (x ++ y)
join eol a b x y p q = record {
  parts = p.parts ++ q.parts;
  was = (λ i. p.was i ++ q.was i) ∙ sym (flat_map-append bytes_of p.parts q.parts);
  is = (λ i. p.is i ++ q.is i) ∙ sym (flat_map-append (written_as eol) p.parts q.parts);
}

a_name : (eol : Ending) (bytes : List ℕ) → IsWordedAs eol bytes (worded_name eol bytes)
a_name eol bytes = record { parts = Name bytes ∷ []; was = sym (append-nil bytes); is = sym (append-nil (worded_name eol bytes)) }

an_inside : (eol : Ending) (bytes : List ℕ) → IsWordedAs eol bytes (worded_comment eol bytes)
an_inside eol bytes = record { parts = Inside bytes ∷ []; was = sym (append-nil bytes); is = sym (append-nil (worded_comment eol bytes)) }

other : (eol : Ending) (bytes : List ℕ) → IsWordedAs eol bytes bytes
other eol bytes = record { parts = Other bytes ∷ []; was = sym (append-nil bytes); is = sym (append-nil bytes) }

a_parameter : (eol : Ending) (bytes made : List ℕ) → worded_parameter bytes ≡ Some made → IsWordedAs eol bytes made
a_parameter eol bytes made h = record {
  parts = Parameter bytes ∷ [];
  was = sym (append-nil bytes);
  is = sym (append-nil made) ∙ ap (λ o. unwrap_or o bytes ++ []) (sym h);
}

abbrev held : List ℕ → Option (List ℕ) → List ℕ
held default None = default
held default (Some xs) = xs

-- a part, bytes after it and others
parts_are : (eol : Ending) (a c d bytes made : List ℕ) (o r : Option (List ℕ)) → ((part : List ℕ) → o ≡ Some part → IsWordedAs eol a part) → IsWordedAs eol c bytes
    → ((back : List ℕ) → r ≡ Some back → IsWordedAs eol d back) → part_before bytes o r ≡ Some made → IsWordedAs eol (a ++ (c ++ d)) made
parts_are eol a c d bytes made None r f w g h = cc
parts_are eol a c d bytes made (Some part) None f w g h = cc
parts_are eol a c d bytes made (Some part) (Some back) f w g h =
    subst (IsWordedAs eol (a ++ (c ++ d))) (ap (held made) h)
    (join eol a (c ++ d) part (bytes ++ back) (f part refl) (join eol c d bytes back w (g back refl)))

-- ---- stretches

abbrev stretch_bytes : Stretch → List ℕ
stretch_bytes s = s.outside ++ (s.begin ++ (s.inside ++ s.end))

inside_pushed : (s : Scan) → is_in_comment s ≡ true → (b : ℕ) (v : List ℕ) → flat_map stretch_bytes (push_inside b (stretches s v)) ≡ b ∷ flat_map stretch_bytes (stretches s v)
inside_pushed s h b v =
    let e = inside_step s h v in
    ap (λ ss. flat_map stretch_bytes (push_inside b ss)) e ∙ ap (λ ss. b ∷ flat_map stretch_bytes ss) (sym e)

comment_begun : (b : ℕ) (v : List ℕ) → flat_map stretch_bytes (begin_comment b (stretches (Comment 0) v)) ≡ b ∷ flat_map stretch_bytes (stretches (Comment 0) v)
comment_begun b v =
    let e = inside_step (Comment 0) refl v in
    ap (λ ss. flat_map stretch_bytes (begin_comment b ss)) e ∙ ap (λ ss. b ∷ flat_map stretch_bytes ss) (sym e)

outside_pushed : (b : ℕ) (ss : List Stretch) → flat_map stretch_bytes (push_outside b ss) ≡ b ∷ flat_map stretch_bytes ss
outside_pushed b [] = refl
outside_pushed b (s ∷ ss) = refl

stretches_joined : (s : Scan) (v : List ℕ) → flat_map stretch_bytes (stretches s v) ≡ v
stretches_joined s [] = refl
stretches_joined s (b ∷ bs) =
    elim (cases_Bool (is_in_comment s)) [
      | inl h ↦ elim (cases_Bool (is_plain (scan s b))) [
        | inl t ↦ rw (h, t) (ap (λ xs. b ∷ xs) (stretches_joined Plain bs))
        | inr f ↦ rw (h, f) (inside_pushed (scan s b) (stays_inside s b h f) b bs ∙ ap (λ xs. b ∷ xs) (stretches_joined (scan s b) bs))
      ]
      | inr h ↦ elim (cases_Bool (is_plain s && is_one_of parenthesis b)) [
        | inl t ↦ rw (h, t) (comment_begun b bs ∙ ap (λ xs. b ∷ xs) (stretches_joined (Comment 0) bs))
        | inr f ↦ rw (h, f) (outside_pushed b (stretches (scan s b) bs) ∙ ap (λ xs. b ∷ xs) (stretches_joined (scan s b) bs))
      ]
    ]

ascii_is : (eol : Ending) (bytes made : List ℕ) (ok : Bool) → (if ok then Some bytes else None) ≡ Some made → IsWordedAs eol bytes made
ascii_is eol bytes made true h = subst (IsWordedAs eol bytes) (ap (held made) h) (other eol bytes)
ascii_is eol bytes made false h = cc

outside_is : (eol : Ending) (which : Outside) (bytes made : List ℕ) → worded_outside which eol bytes ≡ Some made → IsWordedAs eol bytes made
outside_is eol Names bytes made h = subst (IsWordedAs eol bytes) (ap (held made) h) (a_name eol bytes)
outside_is eol Ascii bytes made h = ascii_is eol bytes made (are_ascii bytes) h

comment_is : (eol : Ending) (s : Stretch) → IsWordedAs eol (s.begin ++ (s.inside ++ s.end)) (comment_of eol s)
comment_is eol s =
    join eol s.begin (s.inside ++ s.end) s.begin (worded_comment eol s.inside ++ s.end) (other eol s.begin)
    (join eol s.inside s.end (worded_comment eol s.inside) s.end (an_inside eol s.inside) (other eol s.end))

-- a stretch and others
one_more : (eol : Ending) (s : Stretch) (d made : List ℕ) (o r : Option (List ℕ)) → ((part : List ℕ) → o ≡ Some part → IsWordedAs eol s.outside part)
    → ((back : List ℕ) → r ≡ Some back → IsWordedAs eol d back) → part_before (comment_of eol s) o r ≡ Some made → IsWordedAs eol (stretch_bytes s ++ d) made
one_more eol s d made o r f g h =
    subst (λ v. IsWordedAs eol v made) (sym (append_assoc s.outside (s.begin ++ (s.inside ++ s.end)) d))
    (parts_are eol s.outside (s.begin ++ (s.inside ++ s.end)) d (comment_of eol s) made o r f (comment_is eol s) g h)

stretches_are : (eol : Ending) (which : Outside) (ss : List Stretch) (made : List ℕ) → worded_stretches which eol ss ≡ Some made → IsWordedAs eol (flat_map stretch_bytes ss) made
stretches_are eol which [] made h = subst (IsWordedAs eol []) (ap (held made) h) (nothing eol)
stretches_are eol which (s ∷ ss) made h =
    one_more eol s (flat_map stretch_bytes ss) made (worded_outside which eol s.outside) (worded_stretches which eol ss)
    (λ part e. outside_is eol which s.outside part e) (λ back e. stretches_are eol which ss back e) h

text_is : (eol : Ending) (which : Outside) (text made : List ℕ) → worded_text which eol text ≡ Some made → IsWordedAs eol text made
text_is eol which text made h = subst (λ v. IsWordedAs eol v made) (stretches_joined Plain text) (stretches_are eol which (stretches Plain text) made h)

first_is : (eol : Ending) (ss : List Stretch) (made : List ℕ) → parameter_first eol ss ≡ Some made → IsWordedAs eol (flat_map stretch_bytes ss) made
first_is eol [] made h = subst (IsWordedAs eol []) (ap (held made) h) (nothing eol)
first_is eol (s ∷ ss) made h =
    one_more eol s (flat_map stretch_bytes ss) made (worded_parameter s.outside) (worded_stretches Ascii eol ss)
    (λ part e. a_parameter eol s.outside part e) (λ back e. stretches_are eol Ascii ss back e) h

-- ---- lists

abbrev joined : ListEntry → List ℕ
joined e = e.text ++ e.end

push_joined : (b : ℕ) (es : List ListEntry) → flat_map joined (push_entry b es) ≡ b ∷ flat_map joined es
push_joined b [] = refl
push_joined b (e ∷ es) = refl

entries_joined : (ends : List ℕ) (s : Scan) (v : List ℕ) → flat_map joined (entries ends s v) ≡ v
entries_joined ends s [] = refl
entries_joined ends s (b ∷ bs) =
    elim (cases_Bool (is_plain s && is_one_of ends b)) [
      | inl t ↦ rw t (ap (λ xs. b ∷ xs) (entries_joined ends Plain bs))
      | inr f ↦ rw f (push_joined b (entries ends (scan s b) bs) ∙ ap (λ xs. b ∷ xs) (entries_joined ends (scan s b) bs))
    ]

marks_joined : (marks : List ℕ) (s : Scan) (v : List ℕ) → before_mark marks s v ++ from_mark marks s v ≡ v
marks_joined marks s [] = refl
marks_joined marks s (b ∷ bs) =
    elim (cases_Bool (is_plain s && is_one_of marks b)) [
      | inl t ↦ rw t refl
      | inr f ↦ rw f (ap (λ xs. b ∷ xs) (marks_joined marks (scan s b) bs))
    ]

address_is : (eol : Ending) (group : Bool) (name rest made : List ℕ) → worded_address eol group name rest ≡ Some made → IsWordedAs eol (name ++ rest) made
address_is eol true name [] made h = subst (λ v. IsWordedAs eol v made) (sym (append-nil name)) (text_is eol Names name made h)
address_is eol false name [] made h = subst (λ v. IsWordedAs eol v made) (sym (append-nil name)) (text_is eol Ascii name made h)
address_is eol group name (b ∷ bs) made h =
    parts_are eol name [] (b ∷ bs) [] made (worded_text Names eol name) (worded_text Ascii eol (b ∷ bs)) (λ part e. text_is eol Names name part e) (nothing eol)
    (λ back e. text_is eol Ascii (b ∷ bs) back e) h

entry_is : (eol : Ending) (kind : ListKind) (e : ListEntry) (made : List ℕ) → worded_entry kind eol e ≡ Some made → IsWordedAs eol e.text made
entry_is eol Addresses e made h =
    subst (λ v. IsWordedAs eol v made) (marks_joined angle Plain e.text)
    (address_is eol (is_one_of e.end colon) (before_mark angle Plain e.text) (from_mark angle Plain e.text) made h)
entry_is eol Parameters e made h = subst (λ v. IsWordedAs eol v made) (stretches_joined Plain e.text) (first_is eol (stretches Plain e.text) made h)

-- an entry, its end and others
entry_more : (eol : Ending) (e : ListEntry) (d made : List ℕ) (o r : Option (List ℕ)) → ((part : List ℕ) → o ≡ Some part → IsWordedAs eol e.text part)
    → ((back : List ℕ) → r ≡ Some back → IsWordedAs eol d back) → part_before e.end o r ≡ Some made → IsWordedAs eol (joined e ++ d) made
entry_more eol e d made o r f g h =
    subst (λ v. IsWordedAs eol v made) (sym (append_assoc e.text e.end d)) (parts_are eol e.text e.end d e.end made o r f (other eol e.end) g h)

entries_are : (eol : Ending) (kind : ListKind) (es : List ListEntry) (made : List ℕ) → worded_entries kind eol es ≡ Some made → IsWordedAs eol (flat_map joined es) made
entries_are eol kind [] made h = subst (IsWordedAs eol []) (ap (held made) h) (nothing eol)
entries_are eol kind (e ∷ es) made h =
    entry_more eol e (flat_map joined es) made (worded_entry kind eol e) (worded_entries kind eol es) (λ part k. entry_is eol kind e part k)
    (λ back k. entries_are eol kind es back k) h

pieces_are : (eol : Ending) (es : List ListEntry) (made : List ℕ) → worded_pieces eol es ≡ Some made → IsWordedAs eol (flat_map joined es) made
pieces_are eol [] made h = subst (IsWordedAs eol []) (ap (held made) h) (nothing eol)
pieces_are eol (e ∷ es) made h =
    entry_more eol e (flat_map joined es) made (worded_text Ascii eol e.text) (worded_entries Parameters eol es) (λ part k. text_is eol Ascii e.text part k)
    (λ back k. entries_are eol Parameters es back k) h

pub addresses_stay : (eol : Ending) (value made : List ℕ) → worded_list Addresses eol value ≡ Some made → IsWordedAs eol value made
addresses_stay eol value made h =
    subst (λ v. IsWordedAs eol v made) (entries_joined (ends_of Addresses) Plain value) (entries_are eol Addresses (entries (ends_of Addresses) Plain value) made h)

pub parameters_stay : (eol : Ending) (value made : List ℕ) → worded_parameters eol value ≡ Some made → IsWordedAs eol value made
parameters_stay eol value made h =
    subst (λ v. IsWordedAs eol v made) (entries_joined (ends_of Parameters) Plain value) (pieces_are eol (entries (ends_of Parameters) Plain value) made h)

pub comments_stay : (eol : Ending) (value made : List ℕ) → worded_text Ascii eol value ≡ Some made → IsWordedAs eol value made
comments_stay eol value made h = text_is eol Ascii value made h
