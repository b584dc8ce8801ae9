-- The header of an answer is read as its fields.
use Rattle.std.proofs.Common.{◌≡◌, ◌==◌, ◌&&◌, ◌||◌, ◌∙◌, ◌++◌, ℕ, Bool, true, false, not, Option, None, Some, List, [], ◌∷◌, refl, sym, ap, subst, inl, inr, codes, take, append_assoc, arith}
use Rattle.std.proofs.lemmas.Bool.{and_parts, cases_Bool, eqb-true, or_parts}
use Rattle.std.proofs.lemmas.Bool.Decides.{nat_tests}
use Rattle.std.proofs.lemmas.List.{append-nil}
use Rattle.std.specs.List.{list_all, prefix_len}
use Rattle.mk_line.specs.declared.cutting.Ending.{Ending}
use Rattle.mk_line.specs.declared.cutting.Ending.TheVariants.{Crlf, Lf, Missing}
use Rattle.mk_line.specs.Ascii.{is_blank, is_name_byte}
use Rattle.mk_line.specs.Kinds.{is_field_start}
use Rattle.mk_line.specs.Lines.{TextLine, closed, cut, ending_bytes, eol_of, is_lf, is_nil, is_open, onto_first, printed_line, text_line, text_of, with_byte}
use Rattle.mk_line.proofs.Cuts.{cut_other, printed_with}
use Rattle.mk_head.specs.Fields.{FieldText, after_more, continuations, field_text, fields_of}
use Rattle.mk_head.specs.Split.{fields_from, is_more, is_start, rest_from}
use Rattle.mk_head.proofs.FieldRuns.{first_rest, first_text, more_after, more_start}
use Rattle.mk_tree.specs.Documents.{tree}
use Rattle.mk_tree.specs.Sections.{root_of, section_fields}
use Rattle.mk_reply.specs.Replies.{addressees, earlier_identifiers, header_of_reply, reply_for, reply_line, subject_of_reply, with_identifier, words_of_name}
use Rattle.mk_reply.specs.ReplyLaws.{IsReadAsReply, fields_of_reply, reply_field}
use Rattle.mk_reply.proofs.FoldedWords.{AreMore, FieldsMayEnd, GoesOn, addressees_go, begins_blank, message_ends, references_go, subject_goes, words_go}

-- what words and an ending are cut into: a line and its continuations
record Group (text rest : List ℕ) : Type 0 where
  first : TextLine
  more : List TextLine
  lines : cut (text ++ rest) ≡ first ∷ (more ++ cut rest)
  continues : AreMore more
  whole : text_of (first ∷ more) ≡ text
  leads : begins_blank text ≡ true → is_more first ≡ true

ending_group : (eol : Ending) (rest : List ℕ) → is_open eol ≡ false → Group (ending_bytes eol) rest
ending_group Crlf rest c = record { first = text_line [] Crlf; more = []; lines = refl; continues = tt; whole = refl; leads = λ h. absurd cc }
ending_group Lf rest c = record { first = text_line [] Lf; more = []; lines = refl; continues = tt; whole = refl; leads = λ h. absurd cc }
ending_group Missing rest c = absurd cc

-- a line feed is no blank, and a blank no carriage return
feed_blank : (b : ℕ) → (b == 10) ≡ true → is_blank b ≡ true → ⊥
feed_blank b t h = grind (arith, nat_tests)

blank_return : (b : ℕ) → is_blank b ≡ true → (b == 13) ≡ false
blank_return b h = grind (arith, nat_tests)

and_false : (x y : Bool) → y ≡ false → (x && y) ≡ false
and_false true y h = h
and_false false y h = refl

put_first : (b : ℕ) (l : TextLine) → (b == 13) ≡ false → with_byte b l ≡ text_line (b ∷ l.content) l.ending
put_first b l h = rw (and_false (is_lf l.ending && is_nil l.content) (b == 13) h) refl

blank_append : (xs ys : List ℕ) → begins_blank xs ≡ true → begins_blank (xs ++ ys) ≡ true
blank_append [] ys h = absurd cc
blank_append (x ∷ xs) ys h = h

after_feed : (b : ℕ) (text rest : List ℕ) → (b == 10) ≡ true → begins_blank text ≡ true → Group text rest → Group (b ∷ text) rest
after_feed b text rest t blank g = record {
  first = text_line [] Lf;
  more = g.first ∷ g.more;
  lines = rw t (ap (λ ls. text_line [] Lf ∷ ls) g.lines);
  continues = (g.leads blank, g.continues);
  whole = ap (λ x. 10 ∷ x) g.whole ∙ ap (λ x. x ∷ text) (sym (eqb-true b 10 t));
  leads = λ h. absurd (feed_blank b t h);
}

after_other : (b : ℕ) (text rest : List ℕ) → (b == 10) ≡ false → Group text rest → Group (b ∷ text) rest
after_other b text rest f g = record {
  first = with_byte b g.first;
  more = g.more;
  lines = cut_other b (text ++ rest) f ∙ ap (onto_first b) g.lines;
  continues = g.continues;
  whole = ap (λ p. p ++ text_of g.more) (printed_with b g.first.content g.first.ending) ∙ ap (λ x. b ∷ x) g.whole;
  leads = λ h. ap is_more (put_first b g.first (blank_return b h)) ∙ h;
}

words_group : (words : List ℕ) (eol : Ending) (rest : List ℕ) → is_open eol ≡ false → GoesOn words → Group (words ++ ending_bytes eol) rest
words_group [] eol rest c s = ending_group eol rest c
words_group (b ∷ bs) eol rest c s = elim (cases_Bool (b == 10)) [
  | inl t ↦ after_feed b (bs ++ ending_bytes eol) rest t (blank_append bs (ending_bytes eol) (s.0 t)) (words_group bs eol rest c s.1)
  | inr f ↦ after_other b (bs ++ ending_bytes eol) rest f (words_group bs eol rest c s.1)
]

-- neither a line feed nor a carriage return
abbrev is_other : ℕ → Bool
is_other byte = not (byte == 10 || byte == 13)

other_parts : (b : ℕ) (x : Bool) → (is_other b && x) ≡ true → ((b == 10) ≡ false) × ((b == 13) ≡ false) × (x ≡ true)
other_parts b x h = let p = and_parts (is_other b) x h in let q = or_parts (b == 10) (b == 13) (not_true (b == 10 || b == 13) p.0) in (q.0, q.1, p.1)
  where
    not_true : (y : Bool) → not y ≡ true → y ≡ false
    not_true true e = absurd cc
    not_true false e = refl

-- bytes before them go to the first line
begun : (front text rest : List ℕ) (g : Group text rest) → list_all is_other front ≡ true → cut ((front ++ text) ++ rest) ≡ text_line (front ++ g.first.content) g.first.ending ∷ (g.more ++ cut rest)
begun [] text rest g h = g.lines
begun (b ∷ bs) text rest g h =
    let p = other_parts b (list_all is_other bs) h in
    cut_other b ((bs ++ text) ++ rest) p.0
    ∙ (ap (onto_first b) (begun bs text rest g p.2)
    ∙ ap (λ l. l ∷ (g.more ++ cut rest)) (put_first b (text_line (bs ++ g.first.content) g.first.ending) p.1))

-- lines that continue, and others
more_apart : (ms rest : List TextLine) → AreMore ms → continuations rest ≡ [] → continuations (ms ++ rest) ≡ ms
more_apart [] rest m e = e
more_apart (l ∷ ls) rest m e = rw m.0 (ap (λ xs. l ∷ xs) (more_apart ls rest m.1 e))

after_apart : (ms rest : List TextLine) → AreMore ms → continuations rest ≡ [] → after_more (ms ++ rest) ≡ rest
after_apart [] rest m e = ap (λ xs. xs ++ after_more rest) (sym e) ∙ more_after rest
after_apart (l ∷ ls) rest m e = rw m.0 (after_apart ls rest m.1 e)

-- a text is read as fields and an empty line
record IsRead (eol : Ending) (text : List ℕ) (fields : List FieldText) : Type 0 where
  fields_are : fields_of (fields_from false (cut text)) ≡ fields
  rest_is : rest_from false (cut text) ≡ text_line [] eol ∷ []
  apart : continuations (cut text) ≡ []

end_read : (eol : Ending) → is_open eol ≡ false → IsRead eol (ending_bytes eol) []
end_read Crlf c = record { fields_are = refl; rest_is = refl; apart = refl }
end_read Lf c = record { fields_are = refl; rest_is = refl; apart = refl }
end_read Missing c = absurd cc

not_more : (l : TextLine) (ls : List TextLine) → is_start l ≡ true → continuations (l ∷ ls) ≡ []
not_more l ls s = elim (cases_Bool (is_more l)) [
  | inl m ↦ absurd (both_ways (is_start l) s (more_start l m))
  | inr o ↦ rw o refl
]
  where
    both_ways : (b : Bool) → b ≡ true → b ≡ false → ⊥
    both_ways true h k = cc
    both_ways false h k = cc

-- a name that begins a field
record IsNaming (name : List ℕ) : Type 0 where
  plain : list_all is_other (name ++ codes ": ") ≡ true
  starts : (content : List ℕ) → is_field_start ((name ++ codes ": ") ++ content) ≡ true
  names : (content : List ℕ) → take (prefix_len is_name_byte ((name ++ codes ": ") ++ content)) ((name ++ codes ": ") ++ content) ≡ name

-- the line of a field before fields that are read
line_read : (eol : Ending) (name words rest : List ℕ) (fields : List FieldText) → is_open eol ≡ false → IsNaming name → GoesOn words → IsRead eol rest fields
    → IsRead eol (reply_line eol name words ++ rest) (reply_field eol name words ++ fields)
line_read eol name [] rest fields c n s r = r
line_read eol name (w ∷ ws) rest fields c n s r =
    let words = w ∷ ws in
    let front = name ++ codes ": " in
    let text = words ++ ending_bytes eol in
    let g = words_group words eol rest c s in
    let l = text_line (front ++ g.first.content) g.first.ending in
    let more = g.more ++ cut rest in
    let line : front ++ text ≡ reply_line eol name words = append_assoc name (codes ": ") text in
    let lines : cut (reply_line eol name words ++ rest) ≡ l ∷ more = ap (λ x. cut (x ++ rest)) (sym line) ∙ begun front text rest g n.plain in
    let start : is_start l ≡ true = n.starts g.first.content in
    let raw : text_of (l ∷ g.more) ≡ reply_line eol name words =
    ap (λ x. x ++ text_of g.more) (append_assoc front g.first.content (ending_bytes g.first.ending))
    ∙ (append_assoc front (printed_line g.first) (text_of g.more)
    ∙ (ap (λ x. front ++ x) g.whole ∙ line)) in
    let field : field_text l g.more ≡ record { name = name; raw = reply_line eol name words } =
    (λ i. record { name = n.names g.first.content i; raw = raw i }) in
    record {
      fields_are =
          ap (λ ls. fields_of (fields_from false ls)) lines
          ∙ (first_text l more start
          ∙ (ap (λ ms. field_text l ms ∷ fields_of (fields_from false (after_more more))) (more_apart g.more (cut rest) g.continues r.apart)
          ∙ (ap (λ ls. field_text l g.more ∷ fields_of (fields_from false ls)) (after_apart g.more (cut rest) g.continues r.apart)
          ∙ (ap (λ f. f ∷ fields_of (fields_from false (cut rest))) field
          ∙ ap (λ fs. record { name = name; raw = reply_line eol name words } ∷ fs) r.fields_are))));
      rest_is =
          ap (rest_from false) lines
          ∙ (first_rest l more start
          ∙ (ap (rest_from false) (after_apart g.more (cut rest) g.continues r.apart)
          ∙ r.rest_is));
      apart = ap continuations lines ∙ not_more l more start;
    }

to_names : IsNaming (codes "To")
to_names = record { plain = refl; starts = λ content. refl; names = λ content. refl }

subject_names : IsNaming (codes "Subject")
subject_names = record { plain = refl; starts = λ content. refl; names = λ content. refl }

answer_names : IsNaming (codes "In-Reply-To")
answer_names = record { plain = refl; starts = λ content. refl; names = λ content. refl }

references_names : IsNaming (codes "References")
references_names = record { plain = refl; starts = λ content. refl; names = λ content. refl }

-- the whole header
header_read : (eol : Ending) (fields : List FieldText) → is_open eol ≡ false → FieldsMayEnd fields → IsRead eol (header_of_reply eol fields) (fields_of_reply eol fields)
header_read eol fields c w =
    let identifier = words_of_name (codes "Message-ID") fields in
    let references = with_identifier eol (earlier_identifiers fields) identifier in
    let last : IsRead eol (reply_line eol (codes "References") references ++ ending_bytes eol) (reply_field eol (codes "References") references) =
    subst (IsRead eol (reply_line eol (codes "References") references ++ ending_bytes eol)) (append-nil (reply_field eol (codes "References") references))
    (line_read eol (codes "References") references (ending_bytes eol) [] c references_names (references_go eol fields w) (end_read eol c)) in
    line_read eol (codes "To") (addressees fields) _ _ c to_names (addressees_go fields w)
    (line_read eol (codes "Subject") (subject_of_reply (words_of_name (codes "Subject") fields)) _ _ c subject_names (subject_goes (words_of_name (codes "Subject") fields) (words_go (codes "Subject") fields w))
    (line_read eol (codes "In-Reply-To") identifier _ _ c answer_names (words_go (codes "Message-ID") fields w) last))

new_closed : (ls : List TextLine) → is_open (eol_of ls) ≡ false
new_closed [] = refl
new_closed (l ∷ ls) = ending_closed l.ending
  where
    ending_closed : (e : Ending) → is_open (closed e) ≡ false
    ending_closed Crlf = refl
    ending_closed Lf = refl
    ending_closed Missing = refl

some_header : (eol : Ending) (fields : List FieldText) (header : List ℕ) → reply_for eol fields ≡ Some header → header_of_reply eol fields ≡ header
some_header eol fields header e = elim (cases_Bool (is_nil (addressees fields))) [ inl h ↦ absurd (none (rw h at e)) | inr h ↦ some (rw h at e) ]
  where
    none : ◌≡◌ {A = Option (List ℕ)} None (Some header) → ⊥
    none e = cc

    some : Some (header_of_reply eol fields) ≡ Some header → header_of_reply eol fields ≡ header
    some e = cc

pub replies_read : (message header : List ℕ) → reply_for (eol_of (cut message)) (section_fields (root_of (tree message))) ≡ Some header → IsReadAsReply message header
replies_read message header e =
    let eol = eol_of (cut message) in
    let fields = section_fields (root_of (tree message)) in
    let r = subst (λ h. IsRead eol h (fields_of_reply eol fields)) (some_header eol fields header e) (header_read eol fields (new_closed (cut message)) (message_ends message)) in
    record { fields_are = r.fields_are; alone = r.rest_is }
