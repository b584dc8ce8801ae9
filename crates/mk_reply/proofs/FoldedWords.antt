-- What fields say goes on in another line only where a blank begins it.
use Rattle.std.proofs.Common.{◌≡◌, ◌==◌, ◌||◌, ◌∙◌, ◌++◌, ℕ, suc, zero, Bool, true, false, List, [], ◌∷◌, None, refl, sym, ap, subst, inl, inr, codes, drop, unwrap_or, append_assoc, arith}
use Rattle.std.proofs.lemmas.Bool.{cases_Bool, or_parts}
use Rattle.std.proofs.lemmas.Bool.Decides.{nat_tests}
use Rattle.std.specs.Char.{is_ascii_whitespace}
use Rattle.std.specs.List.{prefix_len}
use Rattle.mk_line.specs.declared.cutting.Ending.{Ending}
use Rattle.mk_line.specs.declared.cutting.Ending.TheVariants.{Crlf, Lf, Missing}
use Rattle.mk_line.specs.Ascii.{is_blank, space}
use Rattle.mk_line.specs.Kinds.{is_continuation, is_from_line}
use Rattle.mk_line.specs.Lines.{AreLines, TextLine, cut, ending_bytes, has_line_feed, is_nil, printed_line, text_of}
use Rattle.mk_line.specs.Parting.{following}
use Rattle.mk_line.proofs.Cuts.{lines_cut}
use Rattle.mk_head.specs.Fields.{FieldText, continuations, fields_of, is_named}
use Rattle.mk_head.specs.Split.{belongs, fields_from, is_more, is_start}
use Rattle.mk_code.specs.EncodedWords.{text_decoded}
use Rattle.mk_tree.specs.Documents.{document_of, levels, tree}
use Rattle.mk_tree.specs.Tree.{read}
use Rattle.mk_tree.specs.Sections.{root_of, section_fields}
use Rattle.mk_tree.proofs.SectionViews.{head_read}
use Rattle.mk_reply.specs.Replies.{addressees, after_res, answered_subject, begins_with_re, earlier_identifiers, fold_between, is_one_identifier, or_else, subject_of_reply, with_identifier, words_of_field, words_of_name}
use Rattle.mk_reply.specs.SpaceAround.{before_space, without_space_after, without_space_before}

-- a text begins with a blank
abbrev pub begins_blank : List ℕ → Bool
begins_blank [] = false
begins_blank (byte ∷ bytes) = is_blank byte

-- the same, or nothing is there
abbrev pub IsBlankOrEnd : List ℕ → Type 0
IsBlankOrEnd [] = Unit {0}
IsBlankOrEnd (byte ∷ bytes) = is_blank byte ≡ true

-- after each line feed comes a blank, or nothing
abbrev pub MayEnd : List ℕ → Type 0
MayEnd [] = Unit {0}
MayEnd (byte ∷ bytes) = ((byte == 10) ≡ true → IsBlankOrEnd bytes) × MayEnd bytes

-- after each line feed comes a blank
abbrev pub GoesOn : List ℕ → Type 0
GoesOn [] = Unit {0}
GoesOn (byte ∷ bytes) = ((byte == 10) ≡ true → begins_blank bytes ≡ true) × GoesOn bytes

-- no line has a line feed in it
abbrev pub AreUnfed : List TextLine → Type 0
AreUnfed [] = Unit {0}
AreUnfed (l ∷ ls) = (has_line_feed l.content ≡ false) × AreUnfed ls

-- each line is a continuation
abbrev pub AreMore : List TextLine → Type 0
AreMore [] = Unit {0}
AreMore (l ∷ ls) = (is_more l ≡ true) × AreMore ls

-- the fields of a header
abbrev pub FieldsMayEnd : List FieldText → Type 0
FieldsMayEnd [] = Unit {0}
FieldsMayEnd (f ∷ fs) = MayEnd f.raw × FieldsMayEnd fs

both_ways : (b : Bool) → b ≡ true → b ≡ false → ⊥
both_ways true h k = cc
both_ways false h k = cc

-- lines
content_ends : (content rest : List ℕ) → has_line_feed content ≡ false → MayEnd rest → MayEnd (content ++ rest)
content_ends [] rest h w = w
content_ends (b ∷ bs) rest h w =
    let p = or_parts (b == 10) (has_line_feed bs) h in
    (λ t. absurd (both_ways (b == 10) t p.0), content_ends bs rest p.1 w)

ending_ends : (e : Ending) (rest : List ℕ) → IsBlankOrEnd rest → MayEnd rest → MayEnd (ending_bytes e ++ rest)
ending_ends Crlf rest a w = (λ t. absurd cc, (λ t. a, w))
ending_ends Lf rest a w = (λ t. a, w)
ending_ends Missing rest a w = w

line_ends : (l : TextLine) (rest : List ℕ) → has_line_feed l.content ≡ false → IsBlankOrEnd rest → MayEnd rest → MayEnd (printed_line l ++ rest)
line_ends l rest h a w =
    subst MayEnd (sym (append_assoc l.content (ending_bytes l.ending) rest)) (content_ends l.content (ending_bytes l.ending ++ rest) h (ending_ends l.ending rest a w))

blank_content : (content more : List ℕ) → is_continuation content ≡ true → IsBlankOrEnd (content ++ more)
blank_content [] more h = absurd cc
blank_content (b ∷ bs) more h = h

lines_end : (ls : List TextLine) → AreMore ls → AreUnfed ls → MayEnd (text_of ls) × IsBlankOrEnd (text_of ls)
lines_end [] m u = (tt, tt)
lines_end (l ∷ ls) m u =
    let rest = lines_end ls m.1 u.1 in
    (line_ends l (text_of ls) u.0 rest.1 rest.0, subst IsBlankOrEnd (sym (append_assoc l.content (ending_bytes l.ending) (text_of ls))) (blank_content l.content (ending_bytes l.ending ++ text_of ls) m.0))

-- the lines of a field
pub more_all : (ls : List TextLine) → AreMore (continuations ls)
more_all [] = tt
more_all (l ∷ ls) = elim (cases_Bool (is_more l)) [ inl h ↦ rw h (h, more_all ls) | inr h ↦ rw h tt ]

more_unfed : (ls : List TextLine) → AreUnfed ls → AreUnfed (continuations ls)
more_unfed [] u = tt
more_unfed (l ∷ ls) u = elim (cases_Bool (is_more l)) [ inl h ↦ rw h (u.0, more_unfed ls u.1) | inr h ↦ rw h tt ]

from_unfed : (inside : Bool) (ls : List TextLine) → AreUnfed ls → AreUnfed (fields_from inside ls)
from_unfed inside [] u = tt
from_unfed inside (l ∷ ls) u = elim (cases_Bool (belongs inside l)) [ inl h ↦ rw h (u.0, from_unfed true ls u.1) | inr h ↦ rw h tt ]

fields_end : (ls : List TextLine) → AreUnfed ls → FieldsMayEnd (fields_of ls)
fields_end [] u = tt
fields_end (l ∷ ls) u =
    let rest = lines_end (continuations ls) (more_all ls) (more_unfed ls u.1) in
    elim (cases_Bool (is_start l)) [
      | inl h ↦ rw h (line_ends l (text_of (continuations ls)) u.0 rest.1 rest.0, fields_end ls u.1)
      | inr h ↦ rw h (fields_end ls u.1)
    ]

cut_unfed : (ls : List TextLine) → AreLines ls → AreUnfed ls
cut_unfed [] h = tt
cut_unfed (l ∷ ls) h = (h.0.no_feed, cut_unfed ls h.2)

root_end : (ls : List TextLine) → AreUnfed ls → FieldsMayEnd (section_fields (root_of (record { envelope = None; root = read levels false ls })))
root_end ls u = subst (λ head. FieldsMayEnd (fields_of head.fields)) (sym (head_read levels false ls)) (fields_end (fields_from false ls) (from_unfed false ls u))

-- the fields of a message
document_ends : (ls : List TextLine) → AreUnfed ls → FieldsMayEnd (section_fields (root_of (document_of ls)))
document_ends [] u = root_end [] u
document_ends (l ∷ ls) u = elim (cases_Bool (is_from_line l.content)) [ inl h ↦ rw h (root_end ls u.1) | inr h ↦ rw h (root_end (l ∷ ls) u) ]

pub message_ends : (message : List ℕ) → FieldsMayEnd (section_fields (root_of (tree message)))
message_ends message = document_ends (cut message) (cut_unfed (cut message) (lines_cut message))

-- what a field says
following_ends : (mark : ℕ) (text : List ℕ) → MayEnd text → MayEnd (unwrap_or (following mark text) [])
following_ends mark [] w = tt
following_ends mark (b ∷ bs) w = elim (cases_Bool (b == mark)) [ inl h ↦ rw h w.1 | inr h ↦ rw h (following_ends mark bs w.1) ]

drop_ends : (n : ℕ) (text : List ℕ) → MayEnd text → MayEnd (drop n text)
drop_ends zero text w = w
drop_ends (suc n) [] w = tt
drop_ends (suc n) (b ∷ bs) w = drop_ends n bs w.1

first_kept : (c : ℕ) (kept : List ℕ) (k : ℕ) (ks : List ℕ) → before_space c kept ≡ k ∷ ks → c ≡ k
first_kept c [] k ks e = elim (cases_Bool (is_ascii_whitespace c)) [ inl h ↦ absurd (none_kept k ks (rw h at e)) | inr h ↦ one_kept (rw h at e) ]
  where
    none_kept : (k : ℕ) (ks : List ℕ) → [] ≡ k ∷ ks → ⊥
    none_kept k ks e = cc

    one_kept : c ∷ [] ≡ k ∷ ks → c ≡ k
    one_kept e = cc
first_kept c (x ∷ xs) k ks e = cc

blank_kept : (bs : List ℕ) (k : ℕ) (ks : List ℕ) → without_space_after bs ≡ k ∷ ks → IsBlankOrEnd bs → is_blank k ≡ true
blank_kept [] k ks e a = absurd cc
blank_kept (c ∷ cs) k ks e a = ap is_blank (sym (first_kept c (without_space_after cs) k ks e)) ∙ a

feed_space : (b : ℕ) → (b == 10) ≡ true → is_ascii_whitespace b ≡ true
feed_space b t = grind (arith, nat_tests)

kept_goes : (b : ℕ) (bs kept : List ℕ) → without_space_after bs ≡ kept → MayEnd (b ∷ bs) → GoesOn kept → GoesOn (before_space b kept)
kept_goes b bs [] e w s = elim (cases_Bool (is_ascii_whitespace b)) [ inl h ↦ rw h tt | inr h ↦ rw h (λ t. absurd (both_ways (is_ascii_whitespace b) (feed_space b t) h), tt) ]
kept_goes b bs (k ∷ ks) e w s = (λ t. blank_kept bs k ks e (w.0 t), s)

after_goes : (text : List ℕ) → MayEnd text → GoesOn (without_space_after text)
after_goes [] w = tt
after_goes (b ∷ bs) w = kept_goes b bs (without_space_after bs) refl w (after_goes bs w.1)

field_goes : (f : FieldText) → MayEnd f.raw → GoesOn (words_of_field f)
field_goes f w =
    let said = unwrap_or (following 58 f.raw) [] in
    after_goes (without_space_before said) (drop_ends (prefix_len is_ascii_whitespace said) said (following_ends 58 f.raw w))

pub words_go : (name : List ℕ) (fields : List FieldText) → FieldsMayEnd fields → GoesOn (words_of_name name fields)
words_go name [] w = tt
words_go name (f ∷ fs) w = elim (cases_Bool (is_named name f)) [ inl h ↦ rw h (field_goes f w.0) | inr h ↦ rw h (words_go name fs w.1) ]

-- what an answer says
choice_goes : (a b : List ℕ) → GoesOn a → GoesOn b → GoesOn (or_else a b)
choice_goes a b s t = elim (cases_Bool (is_nil a)) [ inl h ↦ rw h t | inr h ↦ rw h s ]

pub addressees_go : (fields : List FieldText) → FieldsMayEnd fields → GoesOn (addressees fields)
addressees_go fields w = choice_goes (words_of_name (codes "Reply-To") fields) (words_of_name (codes "From") fields) (words_go (codes "Reply-To") fields w) (words_go (codes "From") fields w)

rest_goes : (skipped : ℕ) (text : List ℕ) → GoesOn text → GoesOn (after_res skipped text)
rest_goes skipped [] s = tt
rest_goes (suc skipped) (b ∷ bs) s = rest_goes skipped bs s.1
rest_goes zero (b ∷ bs) s = elim (cases_Bool (is_ascii_whitespace b)) [
  | inl h ↦ rw h (rest_goes 0 bs s.1)
  | inr h ↦ elim (cases_Bool (begins_with_re (b ∷ bs))) [ inl r ↦ rw (h, r) (rest_goes 2 bs s.1) | inr r ↦ rw (h, r) s ]
]

re_goes : (text : List ℕ) → GoesOn text → GoesOn (codes "Re: " ++ text)
re_goes text s = (λ t. absurd cc, (λ t. absurd cc, (λ t. absurd cc, (λ t. absurd cc, s))))

answered_goes : (text : List ℕ) → GoesOn text → GoesOn (answered_subject text)
answered_goes text s = elim (cases_Bool (begins_with_re (text_decoded text))) [ inl h ↦ rw h s | inr h ↦ rw h (re_goes text s) ]

pub subject_goes : (subject : List ℕ) → GoesOn subject → GoesOn (subject_of_reply subject)
subject_goes [] s = tt
subject_goes (b ∷ bs) s = answered_goes (after_res 0 (b ∷ bs)) (rest_goes 0 (b ∷ bs) s)

blank_append : (xs ys : List ℕ) → begins_blank xs ≡ true → begins_blank (xs ++ ys) ≡ true
blank_append [] ys h = absurd cc
blank_append (x ∷ xs) ys h = h

both_go : (xs ys : List ℕ) → GoesOn xs → GoesOn ys → GoesOn (xs ++ ys)
both_go [] ys s t = t
both_go (x ∷ xs) ys s t = (λ f. blank_append xs ys (s.0 f), both_go xs ys s.1 t)

fold_goes : (eol : Ending) (last : List ℕ) → GoesOn last → GoesOn ((ending_bytes eol ++ space ∷ []) ++ last)
fold_goes Crlf last s = (λ t. absurd cc, (λ t. refl, (λ t. absurd cc, s)))
fold_goes Lf last s = (λ t. refl, (λ t. absurd cc, s))
fold_goes Missing last s = (λ t. absurd cc, s)

between_goes : (eol : Ending) (earlier last : List ℕ) → GoesOn last → GoesOn (fold_between eol earlier last ++ last)
between_goes eol earlier last s = elim (cases_Bool (is_nil earlier || is_nil last)) [ inl h ↦ rw h s | inr h ↦ rw h (fold_goes eol last s) ]

identifiers_go : (eol : Ending) (earlier last : List ℕ) → GoesOn earlier → GoesOn last → GoesOn (with_identifier eol earlier last)
identifiers_go eol earlier last s t = both_go earlier (fold_between eol earlier last ++ last) s (between_goes eol earlier last t)

earlier_go : (fields : List FieldText) → FieldsMayEnd fields → GoesOn (earlier_identifiers fields)
earlier_go fields w =
    choice_goes (words_of_name (codes "References") fields) _ (words_go (codes "References") fields w)
    (elim (cases_Bool (is_one_identifier (words_of_name (codes "In-Reply-To") fields))) [ inl h ↦ rw h (words_go (codes "In-Reply-To") fields w) | inr h ↦ rw h tt ])

pub references_go : (eol : Ending) (fields : List FieldText) → FieldsMayEnd fields → GoesOn (with_identifier eol (earlier_identifiers fields) (words_of_name (codes "Message-ID") fields))
references_go eol fields w = identifiers_go eol (earlier_identifiers fields) (words_of_name (codes "Message-ID") fields) (earlier_go fields w) (words_go (codes "Message-ID") fields w)
